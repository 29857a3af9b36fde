-- What passing over messages takes.
use Rattle.std.specs.Prelude.{◌≡◌, ℕ, ◌*◌, ◌<◌, Bool, true, false, List, length, Option, Result, OnOk, OnErr, IfErr}
use Rattle.std.specs.Io.KnownBytes.{Consumes}
pub use Rattle.rmp_wire.specs.Kinds.{parts_head}
use Rattle.rmp_wire.specs.declared.source.Source.{Ghosts}
use Rattle.rmp_wire.specs.Msg.{Msg, Msgs, count, depth_all}
use Rattle.rmp_wire.specs.Canonical.{SpellsAs}
use Rattle.rmp_wire.specs.Spelling.{IsBytes}
use Rattle.rmp_decode.specs.Law.{Explains}
use Rattle.rmp_decode.specs.Pieces.{PullsPayload}
use Rattle.rmp_decode.specs.Seq.{SpellsRow, RefusesRow}
use Rattle.rmp_decode.specs.State.{left, faults_of, Stays}
use Rattle.rmp_decode.specs.declared.deserializer.Deserializer.{Deserializer}
use Rattle.rmp_decode.specs.declared.deserializer.Kept.TheVariants.{Nothing}
use Rattle.rmp_decode.specs.declared.error.Error.{Error}

-- every tree is passed over
abbrev pub any_tree : Msg → Unit {0} → Type 0
any_tree m u = Unit {0}

abbrev pub any_row : Msgs → Type 0
any_row ms = Unit {0}

-- how many messages follow it
abbrev pub parts_count : Bool → ℕ → ℕ
parts_count true n = 2 * n
parts_count false n = n

-- so many bytes were taken
pub record Passes (len : ℕ) (old new : Option (List ℕ)) : Type 0 where
  pub bytes : List ℕ
  pub long : length bytes ≡ len
  pub are_bytes : IsBytes bytes
  pub taken : Consumes old new bytes

-- all that passing over so many bytes promises
abbrev pub PassesPayload : {R : Type 0} → Ghosts R → Bool → ℕ → R → R → Result (Unit {0}) Error → Type 0
PassesPayload g lends n old new result = PullsPayload g n lends (λ before after _. Passes n before after) old new result

-- so many messages were taken, one after another
pub record PassesRow {R C : Type 0} (g : Ghosts R) (room n : ℕ) (old new : Deserializer R C) : Type 0 where
  pub bytes : List ℕ
  pub trees : Msgs
  pub takes : Consumes (left g old) (left g new) bytes
  pub spelled : SpellsRow (SpellsAs old.strict) bytes trees
  pub many : count trees ≡ n
  pub fits : depth_all trees < room

-- What passing over n messages does that nest below the room.
pub record SkipsRow {R C : Type 0} (g : Ghosts R) (room n : ℕ) (old new : Deserializer R C) (result : Result (Unit {0}) Error) : Type 0 where
  pub ok : OnOk result (PassesRow g room n old new)
  pub ready : OnOk result (new.failed ≡ false)
  pub clean : OnOk result (new.kept ≡ Nothing)
  pub sound : OnOk result (faults_of g new ≡ faults_of g old)
  pub err : IfErr result (λ e. Explains e (faults_of g old) (faults_of g new) (RefusesRow (SpellsAs old.strict) any_row room n (left g old)))
  pub failed : OnErr result (new.failed ≡ true)
  pub stays : Stays g old new
