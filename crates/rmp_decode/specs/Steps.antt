-- Content that is taken to the end of a vector.
use Rattle.std.specs.Prelude.{◌≡◌, ℕ, List, ◌++◌, Option, IsUtf8}
use Rattle.rmp_wire.specs.declared.source.Source.{Ghosts}
use Rattle.rmp_decode.specs.Anys.{TakesContent}
use Rattle.rmp_decode.specs.Skip.{Passes}
use Rattle.rmp_decode.specs.declared.deserializer.Deserializer.{Deserializer}

-- so many bytes were consumed, and appended to those that were there
pub record Appends (len : ℕ) (old new : Option (List ℕ)) (before after : List ℕ) : Type 0 where
  pub passes : Passes len old new
  pub whole : after ≡ before ++ passes.bytes

-- the payload was consumed and appended to the bytes that were there, and the reader is ready
pub record AppendsContent {R C : Type 0} (g : Ghosts R) (len : ℕ) (old new : Deserializer R C) (before after : List ℕ) : Type 0 where
  pub content : List ℕ
  pub taken : TakesContent g len old new content
  pub whole : after ≡ before ++ content

-- the same of a text's
pub record AppendsText {R C : Type 0} (g : Ghosts R) (len : ℕ) (old new : Deserializer R C) (before after : List ℕ) : Type 0 where
  pub appended : AppendsContent g len old new before after
  pub utf8 : IsUtf8 appended.content
