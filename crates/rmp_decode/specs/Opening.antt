-- What opening a list, bytes or a map does: a head is consumed, or it is refused.
use Rattle.std.specs.Prelude.{◌≡◌, ◌≢◌, ◌⊎◌, ℕ, ◌<◌, Bool, true, false, Result, Ok, Err, IfOk, IfErr, OnOk}
use Rattle.rmp_wire.specs.Canonical.{SpellsAs}
use Rattle.rmp_wire.specs.Kinds.{parts_head}
use Rattle.rmp_wire.specs.Msg.{Msg}
use Rattle.rmp_wire.specs.declared.head.Head.{Head}
use Rattle.rmp_wire.specs.declared.head.Head.TheVariants.{Array, Map}
use Rattle.rmp_wire.specs.declared.marker.Marker.{Marker}
use Rattle.rmp_wire.specs.declared.source.Source.{Ghosts}
use Rattle.rmp_decode.specs.Exact.{RefusesBy}
use Rattle.rmp_decode.specs.Law.{TakesHead, ReadsHead, Explains, IsFailedBefore, Refuses}
use Rattle.rmp_decode.specs.State.{left, faults_of, room_of, Stays}
use Rattle.rmp_decode.specs.declared.deserializer.Deserializer.{Deserializer}
use Rattle.rmp_decode.specs.declared.deserializer.Kept.TheVariants.{Nothing}
use Rattle.rmp_decode.specs.declared.deserializer.heads.Levels.{Levels}
use Rattle.rmp_decode.specs.declared.deserializer.heads.Levels.TheVariants.{Lists, Maps, Pairs, Parts}
use Rattle.rmp_decode.specs.declared.error.Error.{Error}
use Rattle.rmp_decode.specs.declared.error.Error.TheVariants.{OutOfMemory, DepthLimitExceeded}

-- the head counts as a level of nesting
abbrev pub IsLevel : Levels → Head → Type 0
IsLevel Lists h = (n : ℕ) × (h ≡ Array n)
IsLevel Maps h = (n : ℕ) × (h ≡ Map n)
IsLevel Pairs h = h ≡ Map 1
IsLevel Parts h = (p : Bool × ℕ) × (h ≡ parts_head p.0 p.1)

-- a head was consumed that is a level where none is left
pub record NestsTooDeep {R C : Type 0} (g : Ghosts R) (levels : Levels) (old new : Deserializer R C) (e : Error) : Type 0 where
  pub next : Marker × Head
  pub begun : ReadsHead g old new (Ok next)
  pub level : IsLevel levels next.1
  pub deep : room_of old ≡ 1
  pub limit : e ≡ DepthLimitExceeded

-- no head was there, or it nests too deep
abbrev pub FailsAtHead : {R C : Type 0} → Ghosts R → Levels → Deserializer R C → Deserializer R C → Error → Type 0
FailsAtHead g levels old new e = ReadsHead g old new (Err e) ⊎ NestsTooDeep g levels old new e

-- No message that is wanted could be opened. The table says which error that is, by the room.
pub record FailsToOpenAs {R C : Type 0} (g : Ghosts R) (Wants : Msg → Type 0) (table : ℕ → Marker → Head → Error → Type 0)
    (old new : Deserializer R C) (e : Error) : Type 0 where
  pub failed : new.failed ≡ true
  pub stays : Stays g old new
  pub before : old.failed ≡ true → IsFailedBefore e × (new ≡ old)
  pub err : old.failed ≡ false → Explains e (faults_of g old) (faults_of g new) (Refuses (SpellsAs old.strict) Wants (room_of old) (left g old))
  pub memory : e ≢ OutOfMemory
  pub exact : old.failed ≡ false → RefusesBy old.strict (table (room_of old)) (faults_of g old) (faults_of g new) (left g old) e

-- The head of what is answered was consumed, and the reader is marked failed until the parts are read. What nests needs a level of room.
pub record TakesOpening {R C A : Type 0} (g : Ghosts R) (head : A → Head) (Nests : A → Type 0) (Wants : Msg → Type 0)
    (table : ℕ → Marker → Head → Error → Type 0) (old new : Deserializer R C) (result : Result A Error) : Type 0 where
  pub ok : IfOk result (λ a. TakesHead g (head a) old new)
  pub deep : IfOk result (λ a. Nests a → 1 < old.room)
  pub stays : Stays g old new
  pub sound : OnOk result (faults_of g new ≡ faults_of g old)
  pub fresh : OnOk result (old.failed ≡ false)
  pub clean : OnOk result (new.kept ≡ Nothing)
  pub failed : new.failed ≡ true
  pub err : IfErr result (FailsToOpenAs g Wants table old new)
