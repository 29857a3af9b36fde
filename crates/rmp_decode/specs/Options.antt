-- Options, and how their reading looks at the first byte of a message.
use Rattle.std.specs.Prelude.{◌≡◌, ◌≢◌, ◌⊎◌, ℕ, Bool, true, false, List, [], ◌∷◌, Option, None, Some, IfSome, Result, Ok, Err, MatchResult, if◌then◌else◌}
use Rattle.std.specs.Fn.{FnOnceReturnsAtMut}
use Rattle.std.specs.Io.KnownBytes.{Keeps}
use Rattle.rmp_wire.specs.Msg.{Msg, nil}
use Rattle.rmp_wire.specs.declared.source.Source.{Ghosts}
use Rattle.rmp_decode.specs.Exact.{IsMarkerEnd, UnlessFault}
use Rattle.rmp_decode.specs.Law.{Explains, GoesOn, IsFailedBefore, Lawful, NoMessage}
use Rattle.rmp_decode.specs.Refusing.{Setting, Refusals}
use Rattle.rmp_decode.specs.State.{faults_of, kept_bytes, left, Stays}
use Rattle.rmp_decode.specs.With.{Reading}
use Rattle.rmp_decode.specs.declared.deserializer.Deserializer.{Deserializer}
use Rattle.rmp_decode.specs.declared.error.Error.{Error}
use Rattle.rmp_decode.specs.declared.error.Error.TheVariants.{OutOfMemory, Uncategorized}
use Rattle.rmp_decode.specs.declared.text.Text.TheVariants.{FailedBefore}

-- nil is none, and every other message what its value is read from
abbrev pub IsOption : {V : Type 0} → (Msg → V → Type 0) → Msg → Option V → Type 0
IsOption reads m None = m ≡ nil
IsOption reads m (Some v) = (m ≢ nil) × reads m v

abbrev pub IsNil : Msg → Unit {0} → Type 0
IsNil m u = m ≡ nil

-- these bytes begin with one that isn't nil
pub record BeginsOther (bytes : List ℕ) : Type 0 where
  pub byte : ℕ
  pub following : List ℕ
  pub is : bytes ≡ byte ∷ following
  pub other : byte ≢ 0xc0

-- the bytes are told, and begin with one that isn't nil
abbrev pub ToldOther : Option (List ℕ) → Type 0
ToldOther None = ⊥
ToldOther (Some xs) = BeginsOther xs

-- no message is there, since the bytes end or the source had a fault
abbrev pub EndsBefore : ℕ → ℕ → Option (List ℕ) → Error → Type 0
EndsBefore before after known e = UnlessFault before after e (IfSome known (λ xs. (xs ≡ []) × IsMarkerEnd e))

-- how a message that was looked at is refused: as P says of what was left, where that was told
pub record RefusesThere (P : Refusals) (before after : ℕ) (known : Option (List ℕ)) (e : Error) : Type 0 where
  pub there : Option (List ℕ)
  pub same : Keeps known there
  pub refused : P before after there e

-- how an option is refused: its value is, or no message is there
abbrev pub RefusesOption : (Setting → Refusals) → Setting → Refusals
RefusesOption P s before after known e = EndsBefore before after known e ⊎ RefusesThere (P s) before after known e

module _ {R C : Type 0} (g : Ghosts R) where
  -- the next message is another than nil: its first byte is kept back, and what remains is the same
  pub record SeesOther (old new : Deserializer R C) : Type 0 where
    pub ready : new.failed ≡ false
    pub same : Keeps (left g old) (left g new)
    pub goes_on : GoesOn (kept_bytes old.kept) (kept_bytes new.kept)
    pub begins : BeginsOther (kept_bytes new.kept)
    pub sound : faults_of g new ≡ faults_of g old
    pub stays : Stays g old new

  -- there is no first byte
  pub record FailsToSee (old new : Deserializer R C) (e : Error) : Type 0 where
    pub failed : new.failed ≡ true
    pub before : old.failed ≡ true → IsFailedBefore e × (new ≡ old)
    pub err : old.failed ≡ false → Explains e (faults_of g old) (faults_of g new) (NoMessage old.strict (left g old))
    pub ends : old.failed ≡ false → EndsBefore (faults_of g old) (faults_of g new) (left g old) e
    pub memory : e ≢ OutOfMemory
    pub stays : Stays g old new

  -- What looking for nil does: it is consumed, or the next message is another, or there is none.
  abbrev pub Looks : Deserializer R C → Deserializer R C → Result Bool Error → Type 0
  Looks old new (Ok true) = Lawful g IsNil old new (Ok tt)
  Looks old new (Ok false) = (old.failed ≡ false) × SeesOther old new
  Looks old new (Err e) = FailsToSee old new e

  -- What looking for a buffered nil does: it is consumed, or the next message is another, or nothing is buffered. In the last two nothing changes.
  abbrev pub LooksAhead : Deserializer R C → Deserializer R C → Option Bool → Type 0
  LooksAhead old new (Some true) = Lawful g IsNil old new (Ok tt)
  LooksAhead old new (Some false) = (old.failed ≡ false) × (ToldOther (left g old) × (new ≡ old))
  LooksAhead old new None = new ≡ old

  -- The next message is another than nil, and was offered to f, once. An answer of f that leaves the reader failed counts as a failure.
  pub record ValueGiven {F X : Type 0} (once : Reading F R C X) (f : F) (old new : Deserializer R C) (result : Result (Option X) Error) : Type 0 where
    pub lent : Deserializer R C
    pub gave : Result X Error
    pub rest : Deserializer R C
    pub fresh : old.failed ≡ false
    pub sees : SeesOther old lent
    pub called : FnOnceReturnsAtMut once f lent gave rest
    pub answers : MatchResult gave (λ x. result ≡ (if rest.failed then Err (Uncategorized FailedBefore) else Ok (Some x))) (λ e. result ≡ Err e)
    pub keeps : MatchResult gave (λ _. new ≡ rest) (λ _. new ≡ record rest { failed = true })

  -- nil was taken
  abbrev pub ReadsNone : {X : Type 0} → Deserializer R C → Deserializer R C → Result (Option X) Error → Type 0
  ReadsNone old new (Ok None) = Lawful g IsNil old new (Ok tt)
  ReadsNone old new (Ok (Some x)) = ⊥
  ReadsNone old new (Err e) = FailsToSee old new e

  -- an option whose value f reads
  abbrev pub OptionRead : {F X : Type 0} → Reading F R C X → F → Deserializer R C → Deserializer R C → Result (Option X) Error → Type 0
  OptionRead once f old new result = ReadsNone old new result ⊎ ValueGiven once f old new result
