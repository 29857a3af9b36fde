-- The keys stay, in the row and after it in the set.
use Rattle.std.proofs.Common.{◌≡◌, false, length}
use Rattle.rmp_decode.specs.Sets.{keys_so_far}
use Rattle.rmp_decode.proofs.de.sets.Keys.settle.Given as goal

abbrev pub invariant-loop-key : goal.invariant-loop-key
invariant-loop-key g l = (keys_so_far l.self ≡ keys_so_far l.fn.self) × (l.self.in_row ≡ false)

abbrev pub decreases-loop-key : goal.decreases-loop-key
decreases-loop-key g l = length l.self.row.items
