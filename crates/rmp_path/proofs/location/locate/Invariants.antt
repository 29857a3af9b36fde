-- The turns lead to the message that is looked at next.
use Rattle.std.proofs.Common.{◌-◌, length}
use Rattle.rmp_path.proofs.Turning.{Walks}
use Rattle.rmp_path.proofs.location.locate.Given as goal

abbrev pub invariant-nodes : goal.invariant-nodes
invariant-nodes l = Walks l.input l.offset l.message l.place l.turns.items

abbrev pub decreases-nodes : goal.decreases-nodes
decreases-nodes l = length l.input - l.place
