-- What is buffered whole: the UTF-8 of a character, and the head of a leaf.
use Rattle.std.specs.Prelude.{◌≡◌, ℕ, Bool, List, ◌++◌, length, Option, encode_utf8}
use Rattle.std.specs.Char.{IsScalar}
use Rattle.std.specs.Io.KnownBytes.{Consumes}
use Rattle.rmp_wire.specs.declared.head.Head.{Head}
use Rattle.rmp_wire.specs.declared.source.Source.{Ghosts}
use Rattle.rmp_wire.specs.Spelling.{IsBytes}
use Rattle.rmp_decode.specs.BufferedHeads.{HeadIn, ConsumesHead}
use Rattle.rmp_decode.specs.Kinds.{content_len}
use Rattle.rmp_decode.specs.Skip.{parts_head}
use Rattle.rmp_decode.specs.declared.deserializer.Deserializer.{Deserializer}
use Rattle.rmp_decode.specs.declared.deserializer.skip.Part.{Part}
use Rattle.rmp_decode.specs.declared.deserializer.skip.Part.TheVariants.{Parts, Leaf}

-- these bytes are the UTF-8 of the character
pub record SpellsChar (c : ℕ) (bytes : List ℕ) : Type 0 where
  pub scalar : IsScalar c
  pub are_bytes : IsBytes bytes
  pub spelled : encode_utf8 c ≡ bytes

-- the bytes begin with the UTF-8 of the character, of so many bytes
pub record CharIn (c len : ℕ) (front : List ℕ) : Type 0 where
  pub bytes : List ℕ
  pub spells : SpellsChar c bytes
  pub long : length bytes ≡ len
  pub following : List ℕ
  pub begins : front ≡ bytes ++ following

-- the UTF-8 of the character was taken, of so many bytes
abbrev pub TakesChar : ℕ → Option (List ℕ) → Option (List ℕ) → ℕ → Type 0
TakesChar len old new c = IsScalar c × (length (encode_utf8 c) ≡ len) × IsBytes (encode_utf8 c) × Consumes old new (encode_utf8 c)

-- the head of a leaf whose payload has so many bytes
pub record IsLeafHead (h : Head) (len : ℕ) : Type 0 where
  pub leaf : (p : Bool × ℕ) → h ≡ parts_head p.0 p.1 → ⊥
  pub long : content_len h ≡ len

-- the bytes begin with such a head, of n bytes
pub record LeafHeadIn (strict : Bool) (n len : ℕ) (xs : List ℕ) : Type 0 where
  pub head : Head
  pub starts : HeadIn strict n head xs
  pub is_leaf : IsLeafHead head len

-- such a head was taken
pub record TakesLeaf {R C : Type 0} (g : Ghosts R) (len : ℕ) (old new : Deserializer R C) : Type 0 where
  pub head : Head
  pub taken : ConsumesHead g head old new
  pub is_leaf : IsLeafHead head len

-- the head of a list or a map was taken, or that of a leaf
abbrev pub TakesPart : {R C : Type 0} → Ghosts R → Part → Deserializer R C → Deserializer R C → Type 0
TakesPart g (Parts is_map n) old new = ConsumesHead g (parts_head is_map n) old new
TakesPart g (Leaf len) old new = TakesLeaf g len old new
