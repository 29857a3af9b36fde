-- The next message of a source, or its end.
use Rattle.std.specs.Prelude.{◌≡◌, ◌≢◌, ◌⊎◌, ℕ, Bool, true, false, List, [], Option, None, Some, IfSome, Result, Ok, Err}
use Rattle.std.specs.Io.KnownBytes.{IsAtEnd, Keeps}
use Rattle.rmp_wire.specs.Msg.{Msg}
use Rattle.rmp_wire.specs.declared.source.Source.{Ghosts}
use Rattle.rmp_decode.specs.Law.{GoesOn, IsFailedBefore, Lawful}
use Rattle.rmp_decode.specs.Options.{RefusesThere}
use Rattle.rmp_decode.specs.Refusing.{Setting, Refusals}
use Rattle.rmp_decode.specs.State.{faults_of, kept_bytes, left, Stays}
use Rattle.rmp_decode.specs.declared.deserializer.Deserializer.{Deserializer}
use Rattle.rmp_decode.specs.declared.deserializer.Kept.TheVariants.{Nothing}
use Rattle.rmp_decode.specs.declared.error.Error.{Error}
use Rattle.rmp_decode.specs.declared.error.Error.TheVariants.{InvalidMarkerRead, OutOfMemory}

-- at least one byte is left, if the bytes are told
abbrev pub IsThere : Option (List ℕ) → Type 0
IsThere known = IfSome known (λ xs. xs ≢ [])

-- a fault where a message's first byte is wanted
abbrev pub IsMarkerFault : Error → Type 0
IsMarkerFault (InvalidMarkerRead fault) = Unit {0}
IsMarkerFault _ = ⊥

-- the source had a fault before the first byte (it counts them: before, after)
abbrev pub FaultsFirst : ℕ → ℕ → Error → Type 0
FaultsFirst before after e = (after ≢ before) × IsMarkerFault e

-- how the next message is refused: the type refuses it, or the source had a fault before it
abbrev pub RefusesNext : (Setting → Refusals) → Setting → Refusals
RefusesNext P s before after known e = FaultsFirst before after e ⊎ RefusesThere (P s) before after known e

module _ {R C : Type 0} (g : Ghosts R) where
  -- Nothing is left. Nothing was consumed, and the reader is ready.
  pub record EndsHere (old new : Deserializer R C) : Type 0 where
    pub end : IsAtEnd (left g old)
    pub same : Keeps (left g old) (left g new)
    pub fresh : old.failed ≡ false
    pub ready : new.failed ≡ false
    pub clean : new.kept ≡ Nothing
    pub sound : faults_of g new ≡ faults_of g old
    pub stays : Stays g old new

  -- a message's first byte is there, and what is left stays
  pub record SeesNext (old new : Deserializer R C) : Type 0 where
    pub there : IsThere (left g old)
    pub same : Keeps (left g old) (left g new)
    pub goes_on : GoesOn (kept_bytes old.kept) (kept_bytes new.kept)
    pub fresh : old.failed ≡ false
    pub ready : new.failed ≡ false
    pub sound : faults_of g new ≡ faults_of g old
    pub stays : Stays g old new

  -- a read had failed before, or the source had a fault
  pub record FailsToFind (old new : Deserializer R C) (e : Error) : Type 0 where
    pub failed : new.failed ≡ true
    pub before : old.failed ≡ true → IsFailedBefore e × (new ≡ old)
    pub fault : old.failed ≡ false → FaultsFirst (faults_of g old) (faults_of g new) e
    pub memory : e ≢ OutOfMemory
    pub stays : Stays g old new

  -- what looking for a message's first byte does
  abbrev pub FindsNext : Deserializer R C → Deserializer R C → Result Bool Error → Type 0
  FindsNext old new (Ok true) = SeesNext old new
  FindsNext old new (Ok false) = EndsHere old new
  FindsNext old new (Err e) = FailsToFind old new e

  -- What the read of the next message does: it ends here, or one message is read or refused, as a type with this reading does.
  abbrev pub NextRead : {V : Type 0} → (Msg → V → Type 0) → Deserializer R C → Deserializer R C → Result (Option V) Error → Type 0
  NextRead reads old new (Ok None) = EndsHere old new
  NextRead reads old new (Ok (Some v)) = Lawful g reads old new (Ok v)
  NextRead {V} reads old new (Err e) = Lawful {V = V} g reads old new (Err e)
