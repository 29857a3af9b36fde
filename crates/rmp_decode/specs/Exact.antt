-- Which error a read returns that wants one head, by how the bytes begin.
use Rattle.std.specs.Prelude.{◌≡◌, ◌≢◌, ◌⊎◌, ℕ, Bool, false, List, [], ◌∷◌, ◌++◌, Option, IfSome, Result, IfErr}
use Rattle.std.specs.declared.io.ErrorKind.TheVariants.{UnexpectedEof}
use Rattle.rmp_wire.specs.Faults.{fault_kind}
use Rattle.rmp_wire.specs.Sources.{AtMostOne}
use Rattle.rmp_wire.specs.Canonical.{heads_of}
use Rattle.rmp_wire.specs.Taking.{marker_of}
use Rattle.rmp_wire.specs.declared.head.Head.{Head}
use Rattle.rmp_wire.specs.declared.marker.Marker.{Marker}
use Rattle.rmp_wire.specs.declared.marker.Marker.TheVariants.{Reserved}
use Rattle.rmp_wire.specs.declared.source.Source.{Ghosts}
use Rattle.rmp_decode.specs.State.{left, faults_of}
use Rattle.rmp_decode.specs.declared.deserializer.Deserializer.{Deserializer}
use Rattle.rmp_decode.specs.declared.error.Error.{Error}
use Rattle.rmp_decode.specs.declared.error.Error.TheVariants.{InvalidMarkerRead, InvalidDataRead, TypeMismatch, Utf8Error, OutOfMemory, NotCanonical}

-- the bytes begin with this head, whole, under this marker: one of any width, or where reading is strict a canonical one
pub record BeginsWith (strict : Bool) (m : Marker) (h : Head) (xs : List ℕ) : Type 0 where
  pub byte : ℕ
  pub following : List ℕ
  pub rest : List ℕ
  pub front : xs ≡ (byte ∷ following) ++ rest
  pub is_marker : m ≡ marker_of byte
  pub is_head : heads_of strict h (byte ∷ following)

-- the bytes begin with no such head
abbrev pub BeginsWithNone : Bool → List ℕ → Type 0
BeginsWithNone strict xs = (m : Marker) (h : Head) → BeginsWith strict m h xs → ⊥

-- the error says that the input ended before a message's first byte
abbrev pub IsMarkerEnd : Error → Type 0
IsMarkerEnd (InvalidMarkerRead fault) = fault_kind fault ≡ UnexpectedEof
IsMarkerEnd _ = ⊥

-- the error says that the input ended after a message's first byte
abbrev pub IsDataEnd : Error → Type 0
IsDataEnd (InvalidDataRead fault) = fault_kind fault ≡ UnexpectedEof
IsDataEnd _ = ⊥

-- the error says that the input ended
abbrev pub IsEnd : Error → Type 0
IsEnd e = IsMarkerEnd e ⊎ IsDataEnd e

-- a read of the source failed, or memory was short
abbrev pub IsReadFault : Error → Type 0
IsReadFault (InvalidMarkerRead fault) = Unit {0}
IsReadFault (InvalidDataRead fault) = Unit {0}
IsReadFault OutOfMemory = Unit {0}
IsReadFault _ = ⊥

-- The source had at most one fault (it counts them: before, after). Where it had one, the error says that a read of it failed, or memory was short.
pub record TellsFault (before after : ℕ) (e : Error) : Type 0 where
  pub counts : AtMostOne before after
  pub told : after ≢ before → IsReadFault e

-- Where the source had no fault P holds, and otherwise the error tells it.
abbrev pub UnlessFault : ℕ → ℕ → Error → Type 0 → Type 0
UnlessFault before after e P = (after ≡ before → P) × TellsFault before after e

-- the source had a fault, which the error tells
abbrev pub FaultTold : ℕ → ℕ → Error → Type 0
FaultTold before after e = (after ≢ before) × TellsFault before after e

-- a text isn't UTF-8
abbrev pub IsUtf8Error : Error → Type 0
IsUtf8Error (Utf8Error why) = Unit {0}
IsUtf8Error _ = ⊥

-- the bytes begin with a whole head of some width
pub record OtherWidth (xs : List ℕ) : Type 0 where
  pub marker : Marker
  pub head : Head
  pub starts : BeginsWith false marker head xs

-- The error where the bytes begin with no such head: they end before it, the byte c1 is there, they end inside of it, or it is a
-- head of another width.
abbrev pub Ends : List ℕ → Error → Type 0
Ends [] e = IsMarkerEnd e
Ends (b ∷ xs) e = (b ≡ 0xc1 → e ≡ TypeMismatch Reserved) × (b ≢ 0xc1 → (BeginsWithNone false (b ∷ xs) × IsDataEnd e) ⊎ (OtherWidth (b ∷ xs) × (e ≡ NotCanonical)))

-- the error is one that the table allows for the head that the bytes begin with, or says why there is none
pub record ExactBy (strict : Bool) (table : Marker → Head → Error → Type 0) (xs : List ℕ) (e : Error) : Type 0 where
  pub starts : (m : Marker) (h : Head) → BeginsWith strict m h xs → table m h e
  pub ends : BeginsWithNone strict xs → Ends xs e

-- the same of a table that has one error for each head
abbrev pub Exact : Bool → (Marker → Head → Error) → List ℕ → Error → Type 0
Exact strict table xs e = ExactBy strict (λ m h e. e ≡ table m h) xs e

-- Exactly which error it is, where the bytes are told and the source had no fault (it counts them: before, after). A fault is told by the error.
unfoldable pub RefusesExactly : Bool → (Marker → Head → Error) → ℕ → ℕ → Option (List ℕ) → Error → Type 0
RefusesExactly strict table before after known e = UnlessFault before after e (IfSome known (λ xs. Exact strict table xs e))

-- the same of what a ready reader answers that was in one state and is in another then
abbrev pub RefusesHead : {R C V : Type 0} → Ghosts R → (Marker → Head → Error) → Deserializer R C → Deserializer R C → Result V Error → Type 0
RefusesHead g table old new result = old.failed ≡ false → IfErr result (RefusesExactly old.strict table (faults_of g old) (faults_of g new) (left g old))

-- the same of a table that allows errors
unfoldable pub RefusesBy : Bool → (Marker → Head → Error → Type 0) → ℕ → ℕ → Option (List ℕ) → Error → Type 0
RefusesBy strict table before after known e = UnlessFault before after e (IfSome known (λ xs. ExactBy strict table xs e))

-- the same where no head could be taken
unfoldable pub EndsExactly : Bool → ℕ → ℕ → Option (List ℕ) → Error → Type 0
EndsExactly strict before after known e = UnlessFault before after e (IfSome known (λ xs. BeginsWithNone strict xs × Ends xs e))
