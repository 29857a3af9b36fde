-- What types read of the items of a list.
use Rattle.std.specs.Prelude.{List, [], ◌∷◌}
use Rattle.rmp_wire.specs.Msg.{Msg, Msgs, no_items, item}

-- each item is read as the value at its place
abbrev pub ReadsEach : {V : Type 0} → (Msg → V → Type 0) → Msgs → List V → Type 0
ReadsEach reads no_items [] = Unit {0}
ReadsEach reads (item m ms) (v ∷ vs) = reads m v × ReadsEach reads ms vs
ReadsEach reads no_items (v ∷ vs) = ⊥
ReadsEach reads (item m ms) [] = ⊥

-- no item
abbrev pub NoMore : Msgs → Type 0
NoMore no_items = Unit {0}
NoMore (item m ms) = ⊥

-- an item of which P holds, and then items of which Q does
abbrev pub AndThen : (Msg → Type 0) → (Msgs → Type 0) → Msgs → Type 0
AndThen P Q no_items = ⊥
AndThen P Q (item m ms) = P m × Q ms
