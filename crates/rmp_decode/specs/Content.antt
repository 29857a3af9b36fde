-- Which error a read returns that wants a head and its payload, by how the bytes begin.
use Rattle.std.specs.Prelude.{◌≡◌, ◌≢◌, ◌<◌, ℕ, Bool, true, false, List, ◌++◌, length, Option, IfSome, Result, IfErr, IsUtf8}
use Rattle.rmp_wire.specs.declared.head.Head.{Head}
use Rattle.rmp_wire.specs.declared.head.Head.TheVariants.{Text, Bin, Array, Ext}
use Rattle.rmp_wire.specs.declared.marker.Marker.{Marker}
use Rattle.rmp_wire.specs.declared.source.Source.{Ghosts}
use Rattle.rmp_decode.specs.Exact.{BeginsWith, BeginsWithNone, Ends, UnlessFault, IsDataEnd, IsUtf8Error}
use Rattle.rmp_decode.specs.Kinds.{content_len}
use Rattle.rmp_decode.specs.State.{left, faults_of}
use Rattle.rmp_decode.specs.declared.deserializer.Deserializer.{Deserializer}
use Rattle.rmp_decode.specs.declared.error.Error.{Error}
use Rattle.rmp_decode.specs.declared.error.Error.TheVariants.{OutOfMemory, Syntax, TypeMismatch}
use Rattle.rmp_decode.specs.declared.text.Text.TheVariants.{InvalidType, InvalidValue}

-- the bytes begin with the head, and fewer bytes follow than its payload has
pub record CutPayload (strict : Bool) (h : Head) (xs : List ℕ) : Type 0 where
  pub marker : Marker
  pub starts : BeginsWith strict marker h xs
  pub short : length starts.rest < content_len h

-- the bytes begin with the head, and its whole payload s follows
pub record WholePayload (strict : Bool) (h : Head) (s xs : List ℕ) : Type 0 where
  pub marker : Marker
  pub starts : BeginsWith strict marker h xs
  pub following : List ℕ
  pub content : starts.rest ≡ s ++ following
  pub long : length s ≡ content_len h

-- The error is the one for a head that isn't wanted, says that the input ended within the content of one that is, is the one for that content where
-- it is whole, or says why the bytes begin with no head. Where a payload is wanted memory may run out instead, and nowhere else.
pub record ExactOfContent (strict : Bool) (wanted : Head → Type 0) (other : Marker → Head → Error) (refused : Head → List ℕ → Error
    → Type 0) (xs : List ℕ) (e : Error) : Type 0 where
  pub others : (m : Marker) (h : Head) → BeginsWith strict m h xs → (wanted h → ⊥) → e ≡ other m h
  pub cut : (h : Head) → wanted h → CutPayload strict h xs → e ≢ OutOfMemory → IsDataEnd e
  pub whole : (h : Head) (s : List ℕ) → wanted h → WholePayload strict h s xs → e ≢ OutOfMemory → refused h s e
  pub ends : BeginsWithNone strict xs → Ends xs e

-- Exactly which error it is, where the bytes are told and the source had no fault (it counts them: before, after). A fault is told by the error.
unfoldable pub RefusesContent : Bool → (Head → Type 0) → (Marker → Head → Error) → (Head → List ℕ → Error → Type 0) → ℕ → ℕ → Option (List ℕ) → Error → Type 0
RefusesContent strict wanted other refused before after known e =
    UnlessFault before after e (IfSome known (λ xs. ExactOfContent strict wanted other refused xs e))

-- the same of what a ready reader answers that was in one state and is in another then
abbrev pub RefusesLeaf : {R C V : Type 0} → Ghosts R → (Head → Type 0) → (Marker → Head → Error) → (Head → List ℕ → Error → Type 0) → Deserializer R C
    → Deserializer R C → Result V Error → Type 0
RefusesLeaf g wanted other refused old new result = old.failed ≡ false
    → IfErr result (RefusesContent old.strict wanted other refused (faults_of g old) (faults_of g new) (left g old))

-- ---- which heads are wanted

-- a text
abbrev pub IsTextHead : Head → Type 0
IsTextHead (Text n) = Unit {0}
IsTextHead h = ⊥

-- a text or bytes
abbrev pub IsRawHead : Head → Type 0
IsRawHead (Text n) = Unit {0}
IsRawHead (Bin n) = Unit {0}
IsRawHead h = ⊥

-- a text, bytes or a list
abbrev pub IsBufferHead : Head → Type 0
IsBufferHead (Array n) = Unit {0}
IsBufferHead h = IsRawHead h

-- an extension
abbrev pub IsExtHead : Head → Type 0
IsExtHead (Ext n tag) = Unit {0}
IsExtHead h = ⊥

-- ---- how a message of another kind is refused

-- where a text, bytes, or bytes of its own are wanted
abbrev pub not_raw : Marker → Head → Error
not_raw m h = Syntax InvalidType

-- where an extension is wanted
abbrev pub not_ext : Marker → Head → Error
not_ext m h = TypeMismatch m

-- ---- how whole content is refused

-- it isn't
abbrev pub never_refused : Head → List ℕ → Error → Type 0
never_refused h s e = ⊥

-- one answer for UTF-8, another for what isn't
abbrev pub ByUtf8 : List ℕ → Type 0 → Type 0 → Type 0
ByUtf8 s valid invalid = (IsUtf8 s → valid) × ((IsUtf8 s → ⊥) → invalid)

-- a text where one of a single character is wanted
abbrev pub not_char : Head → List ℕ → Error → Type 0
not_char h s e = ByUtf8 s (e ≡ Syntax InvalidValue) (IsUtf8Error e)

-- a text or bytes where they have to be UTF-8: only where they aren't
abbrev pub not_string : Head → List ℕ → Error → Type 0
not_string (Text n) s e = (IsUtf8 s → ⊥) × IsUtf8Error e
not_string h s e = (IsUtf8 s → ⊥) × (e ≡ Syntax InvalidValue)

-- a text or bytes that can't be lent, where they have to be
abbrev pub not_lent : Head → List ℕ → Error → Type 0
not_lent (Text n) s e = ByUtf8 s (e ≡ Syntax InvalidType) (IsUtf8Error e)
not_lent h s e = e ≡ Syntax InvalidType

-- a text or bytes where they have to be lent, by whether the source lends
abbrev pub not_bytes : Bool → Head → List ℕ → Error → Type 0
not_bytes true h s e = ⊥
not_bytes false h s e = not_lent h s e

-- where they have to be UTF-8, too
abbrev pub not_str : Bool → Head → List ℕ → Error → Type 0
not_str true h s e = not_string h s e
not_str false h s e = not_lent h s e

-- a text or bytes aren't, where bytes of its own are wanted; how a list is, isn't said here
abbrev pub not_buffer : Head → List ℕ → Error → Type 0
not_buffer (Array n) s e = Unit {0}
not_buffer h s e = ⊥
