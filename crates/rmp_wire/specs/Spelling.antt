-- How a message is spelled: in any widths, and canonically. (MessagePack specification, "Formats" and "Serialization".)
use Rattle.std.specs.Prelude.{◌≡◌, ℕ, ◌<◌, List, [], ◌++◌, length, ⊤}
use Rattle.std.specs.List.{AllByRecursion}
use Rattle.rmp_wire.specs.declared.head.Head.{Head}
use Rattle.rmp_wire.specs.declared.head.Head.TheVariants.{Nil, Truth, Whole, F32Bits, F64Bits, Text, Bin, Array, Map, Ext}
use Rattle.rmp_wire.specs.Heads.{IsHead, canon_head, fits_head}
use Rattle.rmp_wire.specs.Msg.{
  Msg,
  nil,
  truth,
  whole,
  float32,
  float64,
  text,
  bin,
  list,
  map,
  extension,
  Msgs,
  no_items,
  item,
  Pairs,
  no_pairs,
  pair,
  count,
  count_pairs,
}

-- each number is below 256
abbrev pub IsBytes : List ℕ → Type 0
IsBytes bytes = AllByRecursion (λ b. b < 256) bytes

-- bytes of which P is true, and then bytes of which Q is true
pub record Joined (P Q : List ℕ → Type 0) (whole : List ℕ) : Type 0 where
  pub first : List ℕ
  pub second : List ℕ
  pub is_first : P first
  pub is_second : Q second
  pub is_whole : whole ≡ first ++ second

-- The content of a text, of bytes or of an extension is these bytes, as they are.
abbrev pub IsContent : List ℕ → List ℕ → Type 0
IsContent s content = (content ≡ s) × IsBytes s

-- These bytes spell the message with these heads: one of its heads, and then its content, or a spelling of each
-- part in order.
module _ (heads : Head → List ℕ → Type 0) where
  abbrev mutual
    pub SpelledBy : List ℕ → Msg → Type 0
    SpelledBy b nil = heads Nil b
    SpelledBy b (truth t) = heads (Truth t) b
    SpelledBy b (whole z) = heads (Whole z) b
    SpelledBy b (float32 n) = heads (F32Bits n) b
    SpelledBy b (float64 n) = heads (F64Bits n) b
    SpelledBy b (text s) = Joined (heads (Text (length s))) (IsContent s) b
    SpelledBy b (bin s) = Joined (heads (Bin (length s))) (IsContent s) b
    SpelledBy b (list ms) = Joined (heads (Array (count ms))) (λ rest. AllSpelledBy rest ms) b
    SpelledBy b (map ps) = Joined (heads (Map (count_pairs ps))) (λ rest. PairsSpelledBy rest ps) b
    SpelledBy b (extension tag s) = Joined (heads (Ext (length s) tag)) (IsContent s) b

    pub AllSpelledBy : List ℕ → Msgs → Type 0
    AllSpelledBy b no_items = b ≡ []
    AllSpelledBy b (item m ms) = Joined (λ first. SpelledBy first m) (λ rest. AllSpelledBy rest ms) b

    pub PairsSpelledBy : List ℕ → Pairs → Type 0
    PairsSpelledBy b no_pairs = b ≡ []
    PairsSpelledBy b (pair k v ps) = Joined (λ first. SpelledBy first k) (Joined (λ second. SpelledBy second v) (λ rest. PairsSpelledBy rest ps)) b

-- These bytes spell the message, each head in any width.
abbrev pub Spells : List ℕ → Msg → Type 0
Spells = SpelledBy IsHead

abbrev pub SpellsAll : List ℕ → Msgs → Type 0
SpellsAll = AllSpelledBy IsHead

abbrev pub SpellsPairs : List ℕ → Pairs → Type 0
SpellsPairs = PairsSpelledBy IsHead

-- The message's spelling by canonical heads alone.
abbrev mutual
  pub canon : Msg → List ℕ
  canon nil = canon_head Nil
  canon (truth t) = canon_head (Truth t)
  canon (whole z) = canon_head (Whole z)
  canon (float32 n) = canon_head (F32Bits n)
  canon (float64 n) = canon_head (F64Bits n)
  canon (text s) = canon_head (Text (length s)) ++ s
  canon (bin s) = canon_head (Bin (length s)) ++ s
  canon (list ms) = canon_head (Array (count ms)) ++ canon_all ms
  canon (map ps) = canon_head (Map (count_pairs ps)) ++ canon_pairs ps
  canon (extension tag s) = canon_head (Ext (length s) tag) ++ s

  pub canon_all : Msgs → List ℕ
  canon_all no_items = []
  canon_all (item m ms) = canon m ++ canon_all ms

  pub canon_pairs : Pairs → List ℕ
  canon_pairs no_pairs = []
  canon_pairs (pair k v ps) = canon k ++ (canon v ++ canon_pairs ps)

-- Each number, length, type and byte is in the range of a head or a byte.
abbrev mutual
  pub Fits : Msg → Type 0
  Fits nil = fits_head Nil
  Fits (truth t) = fits_head (Truth t)
  Fits (whole z) = fits_head (Whole z)
  Fits (float32 n) = fits_head (F32Bits n)
  Fits (float64 n) = fits_head (F64Bits n)
  Fits (text s) = fits_head (Text (length s)) × IsBytes s
  Fits (bin s) = fits_head (Bin (length s)) × IsBytes s
  Fits (list ms) = fits_head (Array (count ms)) × FitsAll ms
  Fits (map ps) = fits_head (Map (count_pairs ps)) × FitsPairs ps
  Fits (extension tag s) = fits_head (Ext (length s) tag) × IsBytes s

  pub FitsAll : Msgs → Type 0
  FitsAll no_items = ⊤
  FitsAll (item m ms) = Fits m × FitsAll ms

  pub FitsPairs : Pairs → Type 0
  FitsPairs no_pairs = ⊤
  FitsPairs (pair k v ps) = Fits k × Fits v × FitsPairs ps

-- what a head of the message says
abbrev pub head_of : Msg → Head
head_of nil = Nil
head_of (truth t) = Truth t
head_of (whole z) = Whole z
head_of (float32 n) = F32Bits n
head_of (float64 n) = F64Bits n
head_of (text s) = Text (length s)
head_of (bin s) = Bin (length s)
head_of (list ms) = Array (count ms)
head_of (map ps) = Map (count_pairs ps)
head_of (extension tag s) = Ext (length s) tag
