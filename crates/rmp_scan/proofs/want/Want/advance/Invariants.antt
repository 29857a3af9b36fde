-- What was taken of the piece, and what is wanted then.
use Rattle.std.proofs.Common.{◌+◌, ◌-◌, ◌≤◌, length}
use Rattle.rmp_scan.specs.Completes.{least_of, Reaches}
use Rattle.rmp_scan.proofs.want.Want.advance.Given as goal

abbrev pub invariant-steps : goal.invariant-steps
invariant-steps l = record { reaches : Reaches l.fn.self l.piece l.at l.want; short : l.at + least_of l.want ≤ l.room }

abbrev pub decreases-steps : goal.decreases-steps
decreases-steps l = length l.piece - l.at
