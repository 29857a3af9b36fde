-- What a head holds, where it is of one kind.
use Rattle.std.specs.Prelude.{ℕ, Bool, true, false, Option, Some, None, MatchOption}
use Rattle.rmp_wire.specs.declared.head.Head.{Head}
use Rattle.rmp_wire.specs.declared.head.Head.TheVariants.{Nil, Truth, Whole, F32Bits, F64Bits, Text, Bin, Array, Map, Ext}

-- the head is of the kind, and holds this, or it is of no such kind
abbrev pub Finds : {A : Type 0} → (Head → A → Type 0) → Head → Option A → Type 0
Finds {A} Is h found = MatchOption found ((a : A) → Is h a → ⊥) (Is h)

-- the head of a text, or of bytes
abbrev pub raw_head : Bool → ℕ → Head
raw_head true n = Text n
raw_head false n = Bin n

-- the head of bytes, or of a list
abbrev pub seq_head : Bool → ℕ → Head
seq_head true n = Bin n
seq_head false n = Array n

-- the head of a map, or of a list
abbrev pub parts_head : Bool → ℕ → Head
parts_head true n = Map n
parts_head false n = Array n

-- the head of bytes or of a list, or of a map
abbrev pub fields_head : Option Bool → ℕ → Head
fields_head None n = Map n
fields_head (Some b) n = seq_head b n

-- how many bytes the payload of a leaf has, by its head
abbrev pub content_len : Head → ℕ
content_len Nil = 0
content_len (Truth t) = 0
content_len (Whole z) = 0
content_len (F32Bits n) = 0
content_len (F64Bits n) = 0
content_len (Text n) = n
content_len (Bin n) = n
content_len (Array n) = 0
content_len (Map n) = 0
content_len (Ext n tag) = n
