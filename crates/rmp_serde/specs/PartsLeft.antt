-- The parts of a list or a map that remain.
use Rattle.std.specs.Prelude.{◌≡◌, suc, List, [], ◌∷◌, Option, MatchOption}
use Rattle.rmp_wire.specs.Msg.{Msg, items_of}
use Rattle.rmp_serde.specs.Parts.{tree}
use Rattle.rmp_serde.specs.Tokens.{first_items, row_from}
use Rattle.rmp_serde.specs.declared.value.reference.ValueRef.{ValueRef}
use Rattle.rmp_serde.specs.declared.value.reference.parts.Parts.{Parts}

abbrev pub parts_left : Parts → List Msg
parts_left s = items_of (first_items s.left (row_from s.value.now (suc s.at)))

-- the first is returned and the others remain, or there is none
abbrev pub YieldsPart : Parts → Option ValueRef → Parts → Type 0
YieldsPart s result t = MatchOption result ((parts_left s ≡ []) × (parts_left t ≡ [])) (λ v. parts_left s ≡ tree v ∷ parts_left t)
