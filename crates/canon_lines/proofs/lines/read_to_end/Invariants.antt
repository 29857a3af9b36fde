-- What was consumed so far is in the vector, with no fault.
use Rattle.std.proofs.Common.{◌≡◌, ◌-◌, ◌^◌, length}
use Rattle.std.specs.Io.KnownBytes.{Consumes}
use Rattle.canon_lines.proofs.lines.read_to_end.Given as goal

abbrev pub invariant-loop-input : goal.invariant-loop-input
invariant-loop-input g l = record {
  taken : Consumes (g.R.Source.ahead l.initial.source) (g.R.Source.ahead l.source) l.input.items;
  faults : g.R.Source.faults l.source ≡ g.R.Source.faults l.initial.source;
  place : g.R.Source.place l.source ≡ g.R.Source.place l.initial.source;
}

-- A vector has fewer than 2 ^ 64 bytes.
abbrev pub decreases-loop-input : goal.decreases-loop-input
decreases-loop-input g l = 2 ^ 64 - length l.input.items
