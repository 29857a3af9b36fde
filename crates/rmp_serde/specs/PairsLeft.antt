-- The pairs of a map that remain.
use Rattle.std.specs.Prelude.{◌≡◌, ℕ, List, [], ◌∷◌, Option, MatchOption}
use Rattle.rmp_wire.specs.Msg.{Msg, map, pairs_of}
use Rattle.rmp_serde.specs.Parts.{tree}
use Rattle.rmp_serde.specs.PartsLeft.{parts_left}
use Rattle.rmp_serde.specs.declared.value.reference.ValueRef.{ValueRef}
use Rattle.rmp_serde.specs.declared.value.reference.pairs.Pairs.{Pairs}

-- the pairs of a map, each a key and its value
abbrev pub pairs_in_turn : Msg → List (Msg × Msg)
pairs_in_turn (map ps) = pairs_of ps
pairs_in_turn _ = []

-- each two neighbours
abbrev pub by_twos : List Msg → List (Msg × Msg)
by_twos [] = []
by_twos (k ∷ []) = []
by_twos (k ∷ (v ∷ ms)) = (k, v) ∷ by_twos ms

abbrev pub pairs_left : Pairs → List (Msg × Msg)
pairs_left s = by_twos (parts_left s.parts)

-- how many steps remain, at most
abbrev pub steps_left : Pairs → ℕ
steps_left s = s.parts.left

-- the first is returned and the others remain, or there is none
abbrev pub YieldsPair : Pairs → Option (ValueRef × ValueRef) → Pairs → Type 0
YieldsPair s result t = MatchOption result ((pairs_left s ≡ []) × (pairs_left t ≡ [])) (λ p. pairs_left s ≡ (tree p.0, tree p.1) ∷ pairs_left t)
