-- The front of the buffer is what was taken so far, with no fault.
use Rattle.std.proofs.Common.{length, ◌-◌, ◌≡◌, ◌≤◌, take}
use Rattle.std.specs.Io.KnownBytes.{Consumes}
use Rattle.rmp_wire.proofs.source.Source.pull_exact.Given as goal

abbrev pub invariant-loop-at : goal.invariant-loop-at
invariant-loop-at g l = record {
  same_length : length l.buf ≡ length l.initial.buf;
  within : l.at ≤ length l.buf;
  taken : Consumes (g.Self.Source.ahead l.initial.self) (g.Self.Source.ahead l.self) (take l.at l.buf);
  faults : g.Self.Source.faults l.self ≡ g.Self.Source.faults l.initial.self;
  place : g.Self.Source.place l.self ≡ g.Self.Source.place l.initial.self;
}

abbrev pub decreases-loop-at : goal.decreases-loop-at
decreases-loop-at g l = length l.initial.buf - l.at
