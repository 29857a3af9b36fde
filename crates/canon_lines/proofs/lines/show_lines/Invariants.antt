-- What was printed of the lines so far, and what was said of them.
use Rattle.std.proofs.Common.{◌≡◌}
use Rattle.canon_lines.specs.Lines.{lines_in, lines_left}
use Rattle.canon_lines.specs.Output.{PutsLines}
use Rattle.canon_lines.proofs.Walking.{Walked, still_left}
use Rattle.canon_lines.proofs.lines.show_lines.Given as goal

abbrev pub invariant-loop-left : goal.invariant-loop-left
invariant-loop-left g l = record {
  shown : Walked g.W.Sink g.S.Shows.shows (lines_in l.fn.input) (lines_left l.left) l.accepted l.fn.sink l.sink;
  lines : PutsLines g.W.Sink l.fn.sink l.sink;
  place : g.W.Sink.place l.sink ≡ g.W.Sink.place l.fn.sink;
}

abbrev pub decreases-loop-left : goal.decreases-loop-left
decreases-loop-left g l = still_left l.left
