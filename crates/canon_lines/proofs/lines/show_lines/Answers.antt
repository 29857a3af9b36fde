use Rattle.std.proofs.Common.{refl, ap, subst, ◌∙◌}
use Rattle.std.proofs.lemmas.Result.{err_from_is_err_and}
use Rattle.canon_lines.specs.Lines.{lines_in, lines_left}
use Rattle.canon_lines.proofs.Early.{on_err}
use Rattle.canon_lines.proofs.Printing.{puts_none, puts_both, prints_after}
use Rattle.canon_lines.proofs.Walking.{Walked, walked_none, walked_more, walked_early}
use Rattle.canon_lines.proofs.lines.show_lines.Goals as goal

pub loop-left-init : goal.loop-left-init
loop-left-init g c = record {
  shown = walked_none g.W.Sink g.S.Shows.shows (lines_in c.args.input.now) c.args.sink.now;
  lines = puts_none g.W.Sink c.args.sink.now;
  place = refl;
}

pub returns-in_err-accepted-clause-prints : goal.returns-in_err-accepted-clause-prints
returns-in_err-accepted-clause-prints g c =
    let p = err_from_is_err_and c.from_residual.result c.from_residual.ensures.1 in
    rw (p.1, p.2) (prints_after g.W.Sink _ c.loop-left.invariant.lines c.loop-left.invariant.place c.in_err-accepted.ensures.prints)

pub loop-left-preserved : goal.loop-left-preserved
loop-left-preserved g c =
    let all = lines_in c.args.input.now in
    let now = subst (λ ls. Walked g.W.Sink g.S.Shows.shows all ls c.loop-left.accepted c.args.sink.now c.loop-left.sink)
    (ap lines_left c.in-Some.is ∙ c.first_line.ensures.lines) c.loop-left.invariant.shown in
    record {
      shown = walked_more g.W.Sink g.S.Shows.shows all _ _ c.loop-left.accepted c.in_ok-accepted.field-0 now c.in_ok-accepted.ensures.shown;
      lines = puts_both g.W.Sink c.loop-left.invariant.lines c.in_ok-accepted.ensures.prints.whole;
      place = c.show_line.ensures.prints.place ∙ c.loop-left.invariant.place;
    }

pub returns-in_err-accepted-clause-early : goal.returns-in_err-accepted-clause-early
returns-in_err-accepted-clause-early g c =
    let all = lines_in c.args.input.now in
    let now = subst (λ ls. Walked g.W.Sink g.S.Shows.shows all ls c.loop-left.accepted c.args.sink.now c.loop-left.sink)
    (ap lines_left c.in-Some.is ∙ c.first_line.ensures.lines) c.loop-left.invariant.shown in
    on_err c.from_residual.result _
    (walked_early g.W.Sink g.S.Shows.shows all g.S.Shows.starts _ _ c.loop-left.accepted now c.in_err-accepted.ensures.early)
