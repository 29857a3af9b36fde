-- Values that are written and read one after another.
use Rattle.std.specs.Prelude.{◌≡◌, ◌<◌, ◌+◌, ℕ, List, [], ◌∷◌, ◌++◌, Option, Some, length}
use Rattle.rmp_encode.specs.Calls.{IsSpelled}
use Rattle.rmp_encode.specs.Data.{Data}
use Rattle.rmp_encode.specs.Trees.{tree_of}
use Rattle.rmp_encode.specs.declared.settings.Settings.{Settings}
use Rattle.rmp_wire.specs.Msg.{Msgs, no_items, item, depth}
use Rattle.rmp_wire.specs.Spelling.{Spells}

-- the pieces, one after another
abbrev pub joined : List (List ℕ) → List ℕ
joined [] = []
joined (b ∷ bs) = b ++ joined bs

-- each piece is what the data at its place is written as
abbrev pub WrittenInTurn : Settings → List (Option Data) → List (List ℕ) → Type 0
WrittenInTurn s [] [] = Unit {0}
WrittenInTurn s (d ∷ ds) (b ∷ bs) = IsSpelled (tree_of s d) b × WrittenInTurn s ds bs
WrittenInTurn s [] (b ∷ bs) = ⊥
WrittenInTurn s (d ∷ ds) [] = ⊥

-- each message is the tree of the data at its place
abbrev pub LowerInTurn : Settings → List (Option Data) → Msgs → Type 0
LowerInTurn s [] no_items = Unit {0}
LowerInTurn s (d ∷ ds) (item m ms) = (tree_of s d ≡ Some m) × LowerInTurn s ds ms
LowerInTurn s [] (item m ms) = ⊥
LowerInTurn s (d ∷ ds) no_items = ⊥

-- from `bytes`, which begin at a position, each message was read that nests below the limit, each from the piece at its place; the
-- position moved on by the length of each piece, to `end`, where `rest` remains
abbrev pub ReadInTurn : (room position : ℕ) → List ℕ → Msgs → List (List ℕ) → (rest : List ℕ) → (end : ℕ) → Type 0
ReadInTurn room position bytes no_items [] rest end = (rest ≡ bytes) × (end ≡ position)
ReadInTurn room position bytes (item m ms) (c ∷ cs) rest end =
    (left : List ℕ) × (bytes ≡ c ++ left) × Spells c m × (depth m < room) × ReadInTurn room (position + length c) left ms cs rest end
ReadInTurn room position bytes no_items (c ∷ cs) rest end = ⊥
ReadInTurn room position bytes (item m ms) [] rest end = ⊥
