-- What ended is a part of each list or map that was passed.
use Rattle.std.proofs.Common.{List, ℕ, length}
use Rattle.rmp_path.specs.Places.{PartEnds}
use Rattle.rmp_path.proofs.location.pass_part.Given as goal

abbrev pub invariant-ends : goal.invariant-ends
invariant-ends l = (from rest : List ℕ) (base : ℕ) → PartEnds from base l.fn.turns.items rest l.place → PartEnds from base l.turns.items rest l.place

abbrev pub decreases-ends : goal.decreases-ends
decreases-ends l = length l.turns.items
