use Rattle.std.proofs.Common.{◌≡◌}
use Rattle.rmp_serde.specs.Keys.{key_text}
use Rattle.rmp_serde.specs.PairsLeft.{pairs_left}
use Rattle.rmp_serde.specs.Parts.{tree}
use Rattle.rmp_serde.specs.Found.{value_of, value_in}
use Rattle.rmp_serde.proofs.value.reference.ValueRef.value_at.Given as goal

abbrev pub invariant-loop-name : goal.invariant-loop-name
invariant-loop-name l = value_of (tree l.self) (key_text l.key) ≡ value_in (pairs_left l.name-iterator) (key_text l.key)
