-- What the read of one part of a list or map does to the `Deserializer` of an access.
use Rattle.std.specs.Prelude.{◌≡◌, ℕ, ◌<◌, true, List}
use Rattle.std.specs.Io.KnownBytes.{Consumes}
use Rattle.rmp_wire.specs.declared.source.Source.{Ghosts}
use Rattle.rmp_wire.specs.Msg.{Msg, depth}
use Rattle.rmp_wire.specs.Canonical.{SpellsAs}
use Rattle.rmp_decode.specs.Law.{Refuses, Readable, Explains, GoesOn}
use Rattle.rmp_decode.specs.State.{left, faults_of, kept_bytes, Stays}
use Rattle.rmp_decode.specs.declared.deserializer.Deserializer.{Deserializer}
use Rattle.rmp_decode.specs.declared.deserializer.Kept.TheVariants.{Nothing}
use Rattle.rmp_decode.specs.declared.error.Error.{Error}

-- a part was taken that nests below this, and the reader is marked failed until the access ends
pub record TakesPart {R C V : Type 0} (g : Ghosts R) (reads : Msg → V → Type 0) (inner : ℕ) (old new : Deserializer R C) (v : V) : Type 0 where
  pub bytes : List ℕ
  pub tree : Msg
  pub takes : Consumes (left g old) (left g new) bytes
  pub goes_on : GoesOn (kept_bytes old.kept) bytes
  pub spelled : SpellsAs old.strict bytes tree
  pub fits : depth tree < inner
  pub value : reads tree v
  pub stays : Stays g old new
  pub faults_same : faults_of g new ≡ faults_of g old
  pub clean : new.kept ≡ Nothing
  pub marked : new.failed ≡ true

-- the part was refused
pub record FailsPart {R C V : Type 0} (g : Ghosts R) (reads : Msg → V → Type 0) (inner : ℕ) (old new : Deserializer R C) (e : Error) : Type 0 where
  pub stays : Stays g old new
  pub failed : new.failed ≡ true
  pub err : Explains e (faults_of g old) (faults_of g new) (Refuses (SpellsAs old.strict) (Readable reads) inner (left g old))
