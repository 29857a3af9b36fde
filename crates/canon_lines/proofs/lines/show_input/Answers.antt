use Rattle.std.proofs.Common.{Bool, List, ℕ}
use Rattle.std.proofs.lemmas.Result.{err_from_is_err_and, IfOk-weaker}
use Rattle.canon_lines.specs.Lines.{lines_in}
use Rattle.canon_lines.specs.Prints.{PrintsAll, StartsAll, Puts}
use Rattle.canon_lines.proofs.Early.{all_none, err_then, if_some, on_err}
use Rattle.canon_lines.proofs.Printing.{run_prints, run_ok, run_err, unread_prints, printing_reads, unread_reads, on_input}
use Rattle.canon_lines.proofs.lines.show_input.Goals as goal

pub returns-in_err-input-clause-reads : goal.returns-in_err-input-clause-reads
returns-in_err-input-clause-reads g c =
    let p = err_from_is_err_and c.from_residual.result c.from_residual.ensures.1 in
    rw (p.1, p.2) (unread_reads g.R.Source _ c.in_err-input.ensures.stops c.read_to_end.ensures.place)

pub returns-in_err-input-clause-prints : goal.returns-in_err-input-clause-prints
returns-in_err-input-clause-prints g c =
    let p = err_from_is_err_and c.from_residual.result c.from_residual.ensures.1 in
    rw (p.1, p.2) (unread_prints g.W.Sink c.args.sink.now _ _ _ c.in_err-input.ensures.stops)

pub returns-clause-shown : goal.returns-clause-shown
returns-clause-shown g c =
    let shown : Bool → List ℕ → Type 0 = λ accepted input. Puts g.W.Sink (λ out. PrintsAll g.S.Shows.shows (lines_in input) out accepted) c.args.sink.now
    c.show_lines-answer.new.sink in
    rw c.run_answer.ensures
    (run_ok c.show_lines-answer.result _ _
    (IfOk-weaker c.show_lines-answer.result (λ accepted. shown accepted c.as_slice.result.now) _
    (λ accepted h. on_input _ _ (shown accepted) c.in_ok-input.ensures.whole (rw c.as_slice.ensures.value at h))
    c.show_lines-answer.ensures.shown))

pub returns-clause-reads : goal.returns-clause-reads
returns-clause-reads g c =
    rw c.run_answer.ensures
    (printing_reads g.W.Sink g.R.Source c.show_lines-answer.result _ (on_input _ _ _ c.in_ok-input.ensures.whole c.in_ok-input.ensures.taken)
    c.in_ok-input.ensures.sound c.read_to_end.ensures.place)

pub returns-clause-prints : goal.returns-clause-prints
returns-clause-prints g c = rw c.run_answer.ensures (run_prints g.W.Sink c.show_lines-answer.result _ c.show_lines-answer.ensures.prints)

pub returns-in_err-input-clause-early : goal.returns-in_err-input-clause-early
returns-in_err-input-clause-early g c = on_err c.from_residual.result _
    (if_some _ _ (λ input. all_none g.W.Sink g.S.Shows.starts g.S.Shows.shows (lines_in input) c.args.sink.now))

pub returns-clause-early : goal.returns-clause-early
returns-clause-early g c =
    let early : List ℕ → Type 0 = λ input. Puts g.W.Sink (StartsAll g.S.Shows.shows g.S.Shows.starts (lines_in input)) c.args.sink.now c.show_lines-answer.new.sink in
    rw c.run_answer.ensures
    (run_err c.show_lines-answer.result _ _
    (err_then c.show_lines-answer.result _ _ (λ h. on_input _ _ early c.in_ok-input.ensures.whole (rw c.as_slice.ensures.value at h))
    c.show_lines-answer.ensures.early))
