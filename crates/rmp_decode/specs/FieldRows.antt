-- Messages of several types that are read one after another: the fields of a struct that is a list of as many.
use Rattle.std.specs.Prelude.{◌≡◌, ◌<◌, ℕ, true, false, List}
use Rattle.std.specs.Io.KnownBytes.{Consumes}
use Rattle.rmp_wire.specs.declared.source.Source.{Ghosts}
use Rattle.rmp_wire.specs.Canonical.{SpellsAs}
use Rattle.rmp_wire.specs.Msg.{Msgs, count, depth_all}
use Rattle.rmp_decode.specs.Law.{Explains}
use Rattle.rmp_decode.specs.Seq.{SpellsRow, RefusesRow}
use Rattle.rmp_decode.specs.State.{left, faults_of, room_of, Stays}
use Rattle.rmp_decode.specs.declared.deserializer.Deserializer.{Deserializer}
use Rattle.rmp_decode.specs.declared.deserializer.Kept.TheVariants.{Nothing}
use Rattle.rmp_decode.specs.declared.error.Error.{Error}

-- so many messages were read, and P holds of their trees
pub record TakesRow {R C : Type 0} (g : Ghosts R) (P : Msgs → Type 0) (n : ℕ) (old new : Deserializer R C) : Type 0 where
  pub bytes : List ℕ
  pub trees : Msgs
  pub takes : Consumes (left g old) (left g new) bytes
  pub spelled : SpellsRow (SpellsAs old.strict) bytes trees
  pub many : count trees ≡ n
  pub fits : depth_all trees < room_of old
  pub holds : P trees
  pub stays : Stays g old new
  pub faults_same : faults_of g new ≡ faults_of g old
  pub ready : new.failed ≡ false
  pub clean : new.kept ≡ Nothing

-- no so many messages are to come of whose trees P holds
pub record FailsRow {R C : Type 0} (g : Ghosts R) (P : Msgs → Type 0) (n : ℕ) (old new : Deserializer R C) (e : Error) : Type 0 where
  pub stays : Stays g old new
  pub failed : new.failed ≡ true
  pub err : Explains e (faults_of g old) (faults_of g new) (RefusesRow (SpellsAs old.strict) P (room_of old) n (left g old))
