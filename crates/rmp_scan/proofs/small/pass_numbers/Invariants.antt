-- What was passed are numbers of one byte.
use Rattle.std.proofs.Common.{ℕ, ◌-◌, ◌≤◌, take}
use Rattle.rmp_scan.specs.Openings.{Passes}
use Rattle.rmp_scan.proofs.small.pass_numbers.Given as goal

abbrev pub invariant-numbers : goal.invariant-numbers
invariant-numbers l = record { most : l.at ≤ l.most; passes : (n : ℕ) → l.most ≤ n → Passes (take l.at l.bytes) n (n - l.at) }

abbrev pub decreases-numbers : goal.decreases-numbers
decreases-numbers l = l.most - l.at
