-- What the calls that make values promise.
use Rattle.std.specs.Prelude.{◌≡◌, ℕ, ◌^◌, ◌<◌, ◌≤◌, ◌⊎◌, ⊤, List, codes, Option, IsSomeAnd}
use Rattle.std.specs.Str.{IsUtf8}
use Rattle.rmp_wire.specs.declared.head.Head.{Head}
use Rattle.rmp_wire.specs.declared.head.Head.TheVariants.{Nil, Truth, Whole, F32Bits, F64Bits, Text, Bin, Ext}
use Rattle.rmp_wire.specs.Msg.{Msg, depth}
use Rattle.rmp_encode.specs.declared.error.Error.{Error}
use Rattle.rmp_encode.specs.declared.error.Error.TheVariants.{InvalidValueWrite, UnknownLength, InvalidDataModel, DepthLimitExceeded, Syntax, OutOfMemory}
use Rattle.rmp_encode.specs.Errors.{IsLength, IsReason}
use Rattle.rmp_encode.specs.Trees.{HasTree}
use Rattle.rmp_serde.specs.Read.{AllTextsUtf8}

-- the head is a message by itself
abbrev pub IsBare : Head → Type 0
IsBare Nil = ⊤
IsBare (Truth t) = ⊤
IsBare (Whole z) = ⊤
IsBare (F32Bits n) = ⊤
IsBare (F64Bits n) = ⊤
IsBare h = ⊥

-- these bytes may follow the head: of a text only UTF-8
abbrev pub IsContentOf : Head → List ℕ → Type 0
IsContentOf (Text n) s = IsUtf8 s
IsContentOf (Bin n) s = ⊤
IsContentOf (Ext n tag) s = ⊤
IsContentOf h s = ⊥

-- why no value is made of so many bytes, items or pairs: a head has no room for the length, or memory ran out
abbrev pub MakeFails : ℕ → Error → Type 0
MakeFails n (InvalidValueWrite e) = ⊥
MakeFails n UnknownLength = ⊥
MakeFails n (InvalidDataModel d) = IsLength d.now × (2 ^ 32 ≤ n)
MakeFails n DepthLimitExceeded = ⊥
MakeFails n (Syntax d) = ⊥
MakeFails n OutOfMemory = n < 2 ^ 32

-- the text says what keeps a tree from being read: it nests too deep, or has a text that isn't UTF-8
abbrev pub IsUnread : Option Msg → List ℕ → Type 0
IsUnread t why =
    ((why ≡ codes "nests too deep") × IsSomeAnd t (λ m. 1024 ≤ depth m)) ⊎ ((why ≡ codes "text that isn't UTF-8") × IsSomeAnd t (λ m. ¬ AllTextsUtf8 m))

-- why no value is made of what this tree is written of, if it has one
abbrev pub ToValueFails : Option Msg → Error → Type 0
ToValueFails t (InvalidValueWrite e) = ⊥
ToValueFails t UnknownLength = ⊥
ToValueFails t (InvalidDataModel d) = IsReason d.now × ¬ HasTree t
ToValueFails t DepthLimitExceeded = ⊥
ToValueFails t (Syntax d) = ¬ HasTree t ⊎ IsUnread t d.now
ToValueFails t OutOfMemory = Unit {0}
