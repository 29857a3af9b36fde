use Rattle.std.proofs.Common.{ap, subst, ◌∙◌}
use Rattle.canon_lines.specs.Lines.{lines_in, lines_left}
use Rattle.canon_lines.proofs.Early.{on_err}
use Rattle.canon_lines.proofs.ShownLines.{LinesShown, no_line_shown, line_more, line_early, lines_early, line_untold}
use Rattle.canon_lines.proofs.show.hex_lines.show_each.Goals as goal

pub loop-left-init : goal.loop-left-init
loop-left-init g c = record { shown = no_line_shown g.W.Sink g.E.Sink c.args.form (lines_in c.args.input.now) c.args.sink.now c.args.errors.now }

pub returns-in_err-next-clause-early : goal.returns-in_err-next-clause-early
returns-in_err-next-clause-early g c = on_err c.from_residual.result _
    (lines_early g.W.Sink g.E.Sink c.args.form (lines_in c.args.input.now) _ _ _ _ _ _ _ c.loop-left.invariant.shown)

pub returns-in_err-complaint-clause-early : goal.returns-in_err-complaint-clause-early
returns-in_err-complaint-clause-early g c =
    let all = lines_in c.args.input.now in
    let now = subst (λ ls. LinesShown g.W.Sink g.E.Sink c.args.form all ls c.loop-left.number c.loop-left.accepted c.args.sink.now c.loop-left.sink
    c.args.errors.now c.loop-left.errors) (ap lines_left c.in-Some.is ∙ c.first_line.ensures.lines) c.loop-left.invariant.shown in
    on_err c.from_residual-in_err-complaint.result _
    (line_early g.W.Sink g.E.Sink c.args.form all _ _ _ _ _ _ _ _ _ now c.in_err-complaint.ensures.early)

pub returns-in_err-accepted-clause-early : goal.returns-in_err-accepted-clause-early
returns-in_err-accepted-clause-early g c =
    let all = lines_in c.args.input.now in
    let now = subst (λ ls. LinesShown g.W.Sink g.E.Sink c.args.form all ls c.loop-left.number c.loop-left.accepted c.args.sink.now c.loop-left.sink
    c.args.errors.now c.loop-left.errors) (ap lines_left c.in-Some.is ∙ c.first_line.ensures.lines) c.loop-left.invariant.shown in
    on_err c.from_residual-in_err-accepted.result _
    (line_untold g.W.Sink g.E.Sink c.args.form all _ _ _ _ _ _ _ _ _ _ now c.in_ok-complaint.ensures.shown)

pub loop-left-preserved : goal.loop-left-preserved
loop-left-preserved g c =
    let all = lines_in c.args.input.now in
    let now = subst (λ ls. LinesShown g.W.Sink g.E.Sink c.args.form all ls c.loop-left.number c.loop-left.accepted c.args.sink.now c.loop-left.sink
    c.args.errors.now c.loop-left.errors) (ap lines_left c.in-Some.is ∙ c.first_line.ensures.lines) c.loop-left.invariant.shown in
    record {
      shown = line_more g.W.Sink g.E.Sink c.args.form all _ _ _ _ _ _ _ _ _ _ _ _ _ now c.in_ok-complaint.ensures.shown c.in_ok-accepted.ensures.told
          c.in_ok-accepted.ensures.accepted c.in_ok-next.ensures;
    }
