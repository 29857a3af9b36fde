use Rattle.std.proofs.Common.{ℕ, Bool, List}
use Rattle.canon_lines.specs.HexLines.{ShowsAll, StartsLines}
use Rattle.canon_lines.specs.Lines.{lines_in}
use Rattle.canon_lines.specs.Prints.{Puts}
use Rattle.canon_lines.specs.Shows.{PutsBoth}
use Rattle.canon_lines.proofs.Early.{on_err, if_some}
use Rattle.canon_lines.proofs.ShownLines.{lines_none, on_read, on_read_early}
use Rattle.canon_lines.proofs.show.hex_lines.show_lines.Goals as goal

pub returns-in_err-input-clause-early : goal.returns-in_err-input-clause-early
returns-in_err-input-clause-early g c = on_err c.from_residual.result _
    (if_some _ _ (λ input. lines_none g.W.Sink g.E.Sink c.args.form (lines_in input) c.args.sink.now))

pub returns-clause-shown : goal.returns-clause-shown
returns-clause-shown g c =
    let shown : Bool → List ℕ → Type 0 = λ accepted input. PutsBoth g.W.Sink g.E.Sink
    (λ out told. ShowsAll c.args.form 1 (lines_in input) out told accepted) c.args.sink.now c.show_each.new.sink c.args.errors.now c.show_each.new.errors in
    on_read c.show_each.result _ _ _ shown c.in_ok-input.ensures.whole c.as_slice.ensures.value c.show_each.ensures.shown

pub returns-clause-early : goal.returns-clause-early
returns-clause-early g c =
    let early : List ℕ → Type 0 = λ input. Puts g.W.Sink (StartsLines c.args.form (lines_in input)) c.args.sink.now c.show_each.new.sink in
    on_read_early c.show_each.result _ _ _ early c.in_ok-input.ensures.whole c.as_slice.ensures.value c.show_each.ensures.early
