-- What was shown of the lines so far, and told of them.
use Rattle.canon_lines.specs.Lines.{lines_in, lines_left}
use Rattle.canon_lines.proofs.ShownLines.{LinesShown}
use Rattle.canon_lines.proofs.Walking.{still_left}
use Rattle.canon_lines.proofs.show.hex_lines.show_each.Given as goal

abbrev pub invariant-loop-left : goal.invariant-loop-left
invariant-loop-left g l = record {
  shown : LinesShown g.W.Sink g.E.Sink l.fn.form (lines_in l.fn.input) (lines_left l.left) l.number l.accepted l.fn.sink l.sink l.fn.errors l.errors;
}

abbrev pub decreases-loop-left : goal.decreases-loop-left
decreases-loop-left g l = still_left l.left
