-- What was written so far is the front of the piece, and no fault was counted.
use Rattle.std.proofs.Common.{length, ◌-◌, ◌≡◌, ◌≤◌, take}
use Rattle.std.specs.Io.KnownBytes.{Appends}
use Rattle.rmp_wire.proofs.sink.Sink.put_all.Given as goal

abbrev pub invariant-loop-at : goal.invariant-loop-at
invariant-loop-at g l = record {
  within : l.at ≤ length l.piece;
  bytes : Appends (g.Self.Sink.told l.initial.self) (g.Self.Sink.told l.self) (take l.at l.piece);
  faults : g.Self.Sink.faults l.self ≡ g.Self.Sink.faults l.initial.self;
  place : g.Self.Sink.place l.self ≡ g.Self.Sink.place l.initial.self;
}

abbrev pub decreases-loop-at : goal.decreases-loop-at
decreases-loop-at g l = length l.piece - l.at
