-- What was consumed so far is in the vector.
use Rattle.std.proofs.Common.{◌≡◌, ◌-◌, ◌≤◌, length}
use Rattle.std.specs.Io.KnownBytes.{Consumes}
use Rattle.rmp_wire.proofs.slice.read_reader.fill.Given as goal

abbrev pub invariant-loop-scratch : goal.invariant-loop-scratch
invariant-loop-scratch g l = record {
  within : length l.scratch.items ≤ l.len;
  taken : Consumes (g.S.Source.ahead l.initial.source) (g.S.Source.ahead l.source) l.scratch.items;
  faults : g.S.Source.faults l.source ≡ g.S.Source.faults l.initial.source;
  place : g.S.Source.place l.source ≡ g.S.Source.place l.initial.source;
}

abbrev pub decreases-loop-scratch : goal.decreases-loop-scratch
decreases-loop-scratch g l = l.len - length l.scratch.items
