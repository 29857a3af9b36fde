-- What was passed are whole messages.
use Rattle.std.proofs.Common.{◌+◌, ◌-◌, ◌*◌, ◌≤◌, take}
use Rattle.rmp_scan.specs.Openings.{Passes}
use Rattle.rmp_scan.proofs.small.pass_small.Given as goal

abbrev pub invariant-small : goal.invariant-small
invariant-small l = record { within : l.at ≤ l.len; passes : Passes (take l.at l.bytes) l.most l.wanted; claims : l.wanted ≤ l.most + 30 * l.at }

abbrev pub decreases-small : goal.decreases-small
decreases-small l = l.len - l.at
