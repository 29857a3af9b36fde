use Rattle.std.proofs.Common.{◌≡◌, length, IsUtf8}
use Rattle.rmp_serde.specs.Parts.{tree}
use Rattle.rmp_serde.specs.Found.{pointed, followed, between_slashes}
use Rattle.rmp_serde.proofs.value.reference.ValueRef.pointer.Given as goal

abbrev pub invariant-loop-token : goal.invariant-loop-token
invariant-loop-token l = (pointed (tree l.fn.self) l.fn.pointer ≡ followed (tree l.part) (between_slashes l.rest)) × IsUtf8 l.rest

abbrev pub decreases-loop-token : goal.decreases-loop-token
decreases-loop-token l = length l.rest
