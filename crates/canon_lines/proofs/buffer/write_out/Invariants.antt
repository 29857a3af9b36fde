-- Each turn writes some bytes, and what was written is the front.
use Rattle.std.proofs.Common.{◌≡◌, ◌-◌, ◌≤◌, length, take}
use Rattle.std.specs.Io.KnownBytes.{Appends}
use Rattle.canon_lines.proofs.buffer.write_out.Given as goal

abbrev pub invariant-loop-written : goal.invariant-loop-written
invariant-loop-written g l = record {
  within : l.written ≤ length l.bytes;
  bytes : Appends (g.W.Sink.told l.initial.sink) (g.W.Sink.told l.sink) (take l.written l.bytes);
  faults : g.W.Sink.faults l.sink ≡ g.W.Sink.faults l.initial.sink;
  place : g.W.Sink.place l.sink ≡ g.W.Sink.place l.initial.sink;
}

abbrev pub decreases-loop-written : goal.decreases-loop-written
decreases-loop-written g l = length l.bytes - l.written
