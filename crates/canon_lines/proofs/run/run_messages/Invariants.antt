-- Each message takes bytes of the line.
use Rattle.std.proofs.Common.{◌≡◌, length}
use Rattle.canon_lines.specs.Output.{PutsLines}
use Rattle.canon_lines.proofs.Shown.{SoFar}
use Rattle.canon_lines.proofs.run.run_messages.Given as goal

abbrev pub decreases-loop-left : goal.decreases-loop-left
decreases-loop-left g l = length l.left

abbrev pub invariant-loop-left : goal.invariant-loop-left
invariant-loop-left g l = record {
  read : SoFar g.W.Sink l.fn.bytes l.left l.fn.sink l.sink;
  lines : PutsLines g.W.Sink l.fn.sink l.sink;
  place : g.W.Sink.place l.sink ≡ g.W.Sink.place l.fn.sink;
}
