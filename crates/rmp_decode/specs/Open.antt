-- What open lists and maps still want: so many messages each, innermost first.
use Rattle.std.specs.Prelude.{◌≡◌, ◌⊎◌, ℕ, zero, suc, ◌+◌, ◌*◌, ◌<◌, Bool, List, [], ◌∷◌, ◌++◌}
use Rattle.rmp_wire.specs.Msg.{Msgs, count, depth_all}
use Rattle.rmp_wire.specs.Canonical.{SpellsAs}
use Rattle.rmp_wire.specs.Spelling.{Joined}
use Rattle.rmp_decode.specs.Refuse.{RowRefusal}
use Rattle.rmp_decode.specs.Seq.{SpellsRow, BeginsRow}
use Rattle.rmp_decode.specs.Skip.{any_row}
use Rattle.rmp_decode.specs.declared.error.Error.{Error}

-- these bytes spell so many messages, which nest below the room
pub record SpellsMany (strict : Bool) (room n : ℕ) (bytes : List ℕ) : Type 0 where
  pub trees : Msgs
  pub spelled : SpellsRow (SpellsAs strict) bytes trees
  pub many : count trees ≡ n
  pub fits : depth_all trees < room

-- These bytes spell all that is wanted: what the innermost wants nests below the room, and a level further out each has one more.
abbrev pub SpellsOpen : Bool → ℕ → List ℕ → List ℕ → Type 0
SpellsOpen strict room [] bytes = bytes ≡ []
SpellsOpen strict room (n ∷ counts) bytes = Joined (SpellsMany strict room n) (SpellsOpen strict (suc room) counts) bytes

-- ys begins with bytes that spell what is wanted, and the rest follows
pub record SpellsThen (strict : Bool) (room : ℕ) (counts rest ys : List ℕ) : Type 0 where
  pub bytes : List ℕ
  pub front : ys ≡ bytes ++ rest
  pub spelled : SpellsOpen strict room counts bytes

-- the first thing that is wrong with what is wanted: in what the innermost wants, or after that
abbrev pub OpenRefusal : Bool → (ℕ → Error → List ℕ → Type 0) → ℕ → List ℕ → Error → List ℕ → Type 0
OpenRefusal strict wrong room [] e xs = ⊥
OpenRefusal strict wrong room (n ∷ counts) e xs = RowRefusal strict wrong any_row room n e xs
    ⊎ ((before : BeginsRow (SpellsAs strict) any_row room n xs) × OpenRefusal strict wrong (suc room) counts e before.rest)

-- Consuming these bytes leads from what was wanted to what is wanted then: what spells the latter after them spells the former with them, what follows
-- follows after them, and so does what is wrong.
pub record Leads (strict : Bool) (wrong : ℕ → Error → List ℕ
    → Type 0) (room : ℕ) (counts : List ℕ) (room' : ℕ) (counts' : List ℕ) (taken : List ℕ) : Type 0 where
  pub closes : (b : List ℕ) → SpellsOpen strict room' counts' b → SpellsOpen strict room counts (taken ++ b)
  pub opens : (b rest ys : List ℕ) → SpellsOpen strict room counts b → b ++ rest ≡ taken ++ ys → SpellsThen strict room' counts' rest ys
  pub refuses : (e : Error) (ys : List ℕ) → OpenRefusal strict wrong room' counts' e ys → OpenRefusal strict wrong room counts e (taken ++ ys)

-- the counts as digits to the base 2^33, the one with this room at the place that it has
abbrev pub place : ℕ → ℕ
place zero = 1
place (suc room) = 8589934592 * place room

abbrev pub digits : ℕ → List ℕ → ℕ
digits room [] = 0
digits room (n ∷ counts) = n * place room + digits (suc room) counts
