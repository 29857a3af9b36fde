-- Why a read of a value is refused, and where.
use Rattle.std.specs.Prelude.{◌≡◌, ℕ, ◌<◌, ◌⊎◌, Bool, List, length, IsUtf8}
use Rattle.rmp_wire.specs.declared.head.Head.{Head}
use Rattle.rmp_wire.specs.declared.head.Head.TheVariants.{Text}
use Rattle.rmp_wire.specs.declared.marker.Marker.{Marker}
use Rattle.rmp_wire.specs.declared.source.Source.{Ghosts}
use Rattle.rmp_decode.specs.Anys.{OpensParts}
use Rattle.rmp_decode.specs.Content.{WholePayload, IsRawHead, IsExtHead}
use Rattle.rmp_decode.specs.Exact.{BeginsWith}
use Rattle.rmp_decode.specs.Refuse.{IsWrong, RefusesFirst}
use Rattle.rmp_decode.specs.declared.deserializer.Deserializer.{Deserializer}
use Rattle.rmp_decode.specs.declared.error.Error.{Error}
use Rattle.rmp_decode.specs.declared.error.Error.TheVariants.{NotCanonical, OutOfMemory, Utf8Error}
use Rattle.rmp_serde.specs.Read.{ItemsUtf8}

-- the bytes begin with a whole text that isn't UTF-8
pub record TextIsInvalid (strict : Bool) (xs : List ℕ) : Type 0 where
  pub text : List ℕ
  pub starts : WholePayload strict (Text (length text)) text xs
  pub invalid : IsUtf8 text → ⊥

-- the bytes begin with the head of a text, of bytes or of an extension
pub record OpensContent (strict : Bool) (xs : List ℕ) : Type 0 where
  pub head : Head
  pub marker : Marker
  pub starts : BeginsWith strict marker head xs
  pub has_content : IsRawHead head ⊎ IsExtHead head

-- Why no value can be read from the bytes: a text isn't UTF-8, memory ran out for content or for the messages
-- of a list or a map, or what is wrong with any message.
abbrev pub UnreadFor : Bool → ℕ → Error → List ℕ → Type 0
UnreadFor strict room (Utf8Error why) xs = TextIsInvalid strict xs
UnreadFor strict room OutOfMemory xs = OpensContent strict xs ⊎ ((1 < room) × OpensParts strict xs)
UnreadFor strict room e xs = IsWrong strict room e xs

-- What a refusal of a ready reader says, unless the source had a fault. The messages before are those whose
-- texts are UTF-8.
abbrev pub RefusesValue : {R C : Type 0} → Ghosts R → Deserializer R C → Deserializer R C → Error → Type 0
RefusesValue g old new e = RefusesFirst g UnreadFor ItemsUtf8 old new e

-- the error of a value that was read, but is written otherwise, or for which memory ran out
abbrev pub IsWrittenElse : Error → Type 0
IsWrittenElse e = (e ≡ NotCanonical) ⊎ (e ≡ OutOfMemory)
