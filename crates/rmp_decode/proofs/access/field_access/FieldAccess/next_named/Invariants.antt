-- The pairs so far were of no name.
use Rattle.rmp_decode.proofs.FieldAccesses.{Passing}
use Rattle.rmp_decode.proofs.access.field_access.FieldAccess.next_named.Given as goal

abbrev pub invariant-loop-self : goal.invariant-loop-self
invariant-loop-self g l = Passing g.R.Source l.initial.self l.self

abbrev pub decreases-loop-self : goal.decreases-loop-self
decreases-loop-self g l = l.self.left
