-- What the numbers of an item say.
use Rattle.std.specs.Prelude.{◌≡◌, ◌≢◌, ℕ, ◌+◌, List, [], ◌∷◌, ◌++◌, length, drop, true, false, ℤ, pos, negsuc}
use Rattle.std.specs.Int.{w64, cast_unsigned}
use Rattle.rmp_wire.specs.declared.head.Head.{Head}
use Rattle.rmp_wire.specs.declared.head.Head.TheVariants.{Nil, Truth, Whole, F32Bits, F64Bits, Text, Bin, Array, Map, Ext}
use Rattle.rmp_wire.specs.Heads.{IsHead, tag_byte}
use Rattle.rmp_decode.specs.Kinds.{content_len}
use Rattle.rmp_c.specs.declared.walk.Item.{Item}

-- the kind of a number, and the number: below 0 in two's complement
abbrev pub SaysNumber : ℤ → ℕ → ℕ → Type 0
SaysNumber (pos n) kind number = (kind ≡ 2) × (number ≡ n)
SaysNumber (negsuc n) kind number = (kind ≡ 3) × (number ≡ cast_unsigned w64 (negsuc n))

-- the item is of the head's kind, and has its number
abbrev pub Says : Head → Item → Type 0
Says Nil i = i.kind ≡ 0
Says (Truth false) i = (i.kind ≡ 1) × (i.number ≡ 0)
Says (Truth true) i = (i.kind ≡ 1) × (i.number ≡ 1)
Says (Whole z) i = SaysNumber z i.kind i.number
Says (F32Bits n) i = (i.kind ≡ 4) × (i.number ≡ n)
Says (F64Bits n) i = (i.kind ≡ 5) × (i.number ≡ n)
Says (Text n) i = i.kind ≡ 6
Says (Bin n) i = i.kind ≡ 7
Says (Array n) i = (i.kind ≡ 8) × (i.items ≡ n)
Says (Map n) i = (i.kind ≡ 9) × (i.items ≡ n)
Says (Ext n tag) i = (i.kind ≡ 10) × (i.number ≡ tag_byte tag)

-- at this offset is a head, and then its content
pub record Node (bytes : List ℕ) (at : ℕ) : Type 0 where
  pub head : Head
  pub spelled : List ℕ
  pub content : List ℕ
  pub rest : List ℕ
  pub front : drop at bytes ≡ spelled ++ (content ++ rest)
  pub is_head : IsHead head spelled
  pub long : length content ≡ content_len head

-- the item says what the head at this offset says, and where its content is
pub record IsItem (bytes : List ℕ) (at : ℕ) (i : Item) : Type 0 where
  pub node : Node bytes at
  pub says : Says node.head i
  pub start : i.start ≡ at + length node.spelled
  pub len : i.len ≡ length node.content

-- the first byte is c1
abbrev pub OpensReserved : List ℕ → Type 0
OpensReserved bytes = (rest : List ℕ) × (bytes ≡ 0xc1 ∷ rest)

-- the bytes end there, inside of a head or its content
pub record EndsInside (bytes : List ℕ) (at : ℕ) : Type 0 where
  pub some : drop at bytes ≢ []
  pub opens : OpensReserved (drop at bytes) → ⊥
  pub none : Node bytes at → ⊥
