-- What remains in open lists and maps, whose texts must be UTF-8, and which heads the bytes spell.
use Rattle.std.specs.Prelude.{◌≡◌, ◌⊎◌, ℕ, suc, ◌<◌, Bool, List, [], ◌∷◌, ◌++◌}
use Rattle.rmp_wire.specs.Canonical.{SpellsAs}
use Rattle.rmp_wire.specs.Msg.{Msgs, count, depth_all}
use Rattle.rmp_decode.specs.Refuse.{RowRefusal}
use Rattle.rmp_decode.specs.Seq.{SpellsRow, BeginsRow}
use Rattle.rmp_decode.specs.declared.error.Error.{Error}
use Rattle.rmp_serde.specs.Read.{ItemsUtf8}
use Rattle.rmp_serde.specs.Tokens.{Token, tokens_all}

-- these bytes spell this many messages, which nest below the room and have these heads
pub record SpellsTrees (strict : Bool) (room n : ℕ) (bytes : List ℕ) (heads : List Token) : Type 0 where
  pub trees : Msgs
  pub spelled : SpellsRow (SpellsAs strict) bytes trees
  pub many : count trees ≡ n
  pub fits : depth_all trees < room
  pub utf8 : ItemsUtf8 trees
  pub told : heads ≡ tokens_all trees

-- bytes and heads of which P holds, and then others of which Q does
pub record JoinedTrees (P Q : List ℕ → List Token → Type 0) (bytes : List ℕ) (heads : List Token) : Type 0 where
  pub first : List ℕ
  pub second : List ℕ
  pub first_heads : List Token
  pub second_heads : List Token
  pub is_first : P first first_heads
  pub is_second : Q second second_heads
  pub is_whole : bytes ≡ first ++ second
  pub all_heads : heads ≡ first_heads ++ second_heads

-- These bytes spell all that remains, innermost first, and each level further out has one more level of room.
abbrev pub SpellsOpenTrees : Bool → ℕ → List ℕ → List ℕ → List Token → Type 0
SpellsOpenTrees strict room [] bytes heads = (bytes ≡ []) × (heads ≡ [])
SpellsOpenTrees strict room (n ∷ counts) bytes heads = JoinedTrees (SpellsTrees strict room n) (SpellsOpenTrees strict (suc room) counts) bytes heads

-- ys begins with bytes that spell what remains, and then comes the rest
pub record AfterTrees (strict : Bool) (room : ℕ) (counts rest ys : List ℕ) : Type 0 where
  pub bytes : List ℕ
  pub heads : List Token
  pub front : ys ≡ bytes ++ rest
  pub spelled : SpellsOpenTrees strict room counts bytes heads

-- the first thing that is wrong with what remains
abbrev pub OpenTreesRefusal : Bool → (ℕ → Error → List ℕ → Type 0) → ℕ → List ℕ → Error → List ℕ → Type 0
OpenTreesRefusal strict wrong room [] e xs = ⊥
OpenTreesRefusal strict wrong room (n ∷ counts) e xs = RowRefusal strict wrong ItemsUtf8 room n e xs
    ⊎ ((before : BeginsRow (SpellsAs strict) ItemsUtf8 room n xs) × OpenTreesRefusal strict wrong (suc room) counts e before.rest)

-- Consuming these bytes, with these heads, leads from what remained before to what remains then. What spells the
-- latter spells the former with these bytes before it. After these bytes, what remains then is spelled wherever
-- what remained before was, and what is wrong is wrong for both.
pub record LeadsTrees (strict : Bool) (wrong : ℕ → Error → List ℕ → Type 0) (room : ℕ) (counts : List ℕ) (room' : ℕ) (counts' taken : List ℕ)
    (heads : List Token) : Type 0 where
  pub closes : (b : List ℕ) (t : List Token) → SpellsOpenTrees strict room' counts' b t → SpellsOpenTrees strict room counts (taken ++ b) (heads ++ t)
  pub opens : (b : List ℕ) (t : List Token) (rest ys : List ℕ) → SpellsOpenTrees strict room counts b t → b ++ rest ≡ taken ++ ys
      → AfterTrees strict room' counts' rest ys
  pub refuses : (e : Error) (ys : List ℕ) → OpenTreesRefusal strict wrong room' counts' e ys → OpenTreesRefusal strict wrong room counts e (taken ++ ys)
