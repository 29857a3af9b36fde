-- What an access lends to a function that reads a part, and how it answers by what that function answers.
use Rattle.std.specs.Prelude.{◌≡◌, ◌+◌, ℕ, Bool, true, false, Result, Ok, Err, IfErr, Option, Some, OnOk, OnErr, MatchResult, if◌then◌else◌}
use Rattle.std.specs.Borrow.{MutBor}
use Rattle.std.specs.Fn.{Once, FnOnceTakesAtMut, FnOnceReturnsAtMut}
use Rattle.std.specs.Io.KnownBytes.{IsAtEnd}
use Rattle.rmp_wire.specs.declared.error.IoFault.{IoFault}
use Rattle.rmp_wire.specs.declared.source.Source.{Ghosts}
use Rattle.rmp_decode.specs.Exact.{IsDataEnd, UnlessFault}
use Rattle.rmp_decode.specs.Law.{Explains}
use Rattle.rmp_decode.specs.Seq.{KeepsByte}
use Rattle.rmp_decode.specs.State.{faults_of, Stays, levels_outside}
use Rattle.rmp_decode.specs.declared.deserializer.Deserializer.{Deserializer}
use Rattle.rmp_decode.specs.declared.access.map.MapAccess.{MapAccess}
use Rattle.rmp_decode.specs.declared.access.seq.SeqAccess.{SeqAccess}
use Rattle.rmp_decode.specs.declared.error.Error.{Error}
use Rattle.rmp_decode.specs.declared.error.Error.TheVariants.{InvalidDataRead, Uncategorized}
use Rattle.rmp_decode.specs.declared.text.Text.TheVariants.{FailedBefore}

-- functions that read a part from a reader
abbrev pub Reading : (F R C X : Type 0) → Type 1
Reading F R C X = Once F (MutBor (Deserializer R C) × Unit {0}) (Result X Error × (MutBor (Deserializer R C) × Unit {0}))

-- the reader as a part is read from it that nests below the room
abbrev pub part_reader : {R C : Type 0} → Deserializer R C → ℕ → Deserializer R C
part_reader d inner = record d { room = inner; failed = false }

-- what a part's failure adds to the levels
abbrev pub levels_after : {X : Type 0} → Result X Error → ℕ → ℕ → ℕ → ℕ
levels_after (Ok x) levels outer inner = levels
levels_after (Err e) levels outer inner = levels_outside levels outer inner

-- The part was offered to f, once. An answer of f that leaves the reader failed counts as a failure.
pub record PartGiven {F R C X : Type 0} (once : Reading F R C X) (f : F) (inner : ℕ) (old new : Deserializer R C) (result : Result X Error) : Type 0 where
  pub gave : Result X Error
  pub rest : Deserializer R C
  pub called : FnOnceReturnsAtMut once f (part_reader old inner) gave rest
  pub answers : MatchResult gave (λ x. result ≡ (if rest.failed then Err (Uncategorized FailedBefore) else Ok x)) (λ e. result ≡ Err e)
  pub keeps : new ≡ record rest { room = old.room; limit = old.limit; failed = true; levels = levels_after result rest.levels old.room inner }

-- ---- elements

-- a byte of bytes is kept back as the number that is to be read
pub record OffersByte {R C : Type 0} (g : Ghosts R) (old new : Deserializer R C) : Type 0 where
  pub keeps : KeepsByte g old new
  pub stays : Stays g old new
  pub faults_same : faults_of g new ≡ faults_of g old

-- the next element of bytes, or of a list
abbrev pub OffersPart : {R C : Type 0} → Ghosts R → Bool → Deserializer R C → Deserializer R C → Type 0
OffersPart g true old new = OffersByte g old new
OffersPart g false old new = new ≡ old

-- a buffered byte was kept back (true), or nothing happened
pub record OffersAhead {R C : Type 0} (g : Ghosts R) (old new : Deserializer R C) (kept : Bool) : Type 0 where
  pub ok : kept ≡ true → OffersByte g old new
  pub failed : kept ≡ true → new.failed ≡ old.failed
  pub none : kept ≡ false → new ≡ old

-- All that the offer of an element does, of bytes or of a list. Only a byte can be missing.
pub record Offers {R C : Type 0} (g : Ghosts R) (in_bytes : Bool) (old new : Deserializer R C) (result : Result (Unit {0}) IoFault) : Type 0 where
  pub ok : OnOk result (OffersPart g in_bytes old new)
  pub bytes : OnErr result (in_bytes ≡ true)
  pub stays : Stays g old new
  pub failed : new.failed ≡ old.failed
  pub err : IfErr result (λ f. Explains (InvalidDataRead f) (faults_of g old) (faults_of g new) (IsAtEnd (g.ahead old.reader)))
  pub end : IfErr result (λ f. UnlessFault (faults_of g old) (faults_of g new) (InvalidDataRead f) (IsDataEnd (InvalidDataRead f)))

-- the reader as the next element is read from it
pub record Lends {R C : Type 0} (g : Ghosts R) (s : SeqAccess R C) (d : Deserializer R C) : Type 0 where
  pub from : Deserializer R C
  pub offers : OffersPart g s.bytes s.de.now from
  pub lent : d ≡ part_reader from s.inner

-- f may be called on the next element
abbrev pub CanRead : {F R C X : Type 0} → Ghosts R → Reading F R C X → F → SeqAccess R C → Type 0
CanRead {F} {R} {C} g once f s = (d : Deserializer R C) → Lends g s d → FnOnceTakesAtMut once f d

-- the next element was offered to f
pub record PartRead {F R C X : Type 0} (g : Ghosts R) (once : Reading F R C X) (f : F) (old new : SeqAccess R C) (result : Result (Option X) Error) : Type
    0 where
  pub from : Deserializer R C
  pub offers : OffersPart g old.bytes old.de.now from
  pub given : Result X Error
  pub part : PartGiven once f old.inner from new.de.now given
  pub answers : MatchResult given (λ x. result ≡ Ok (Some x)) (λ e. result ≡ Err e)
  pub fewer : OnOk result (old.left ≡ new.left + 1)

-- The bytes ended before the element, or the source had a fault, and f wasn't called.
pub record PartMissing {R C X : Type 0} (g : Ghosts R) (old new : SeqAccess R C) (result : Result (Option X) Error) : Type 0 where
  pub bytes : old.bytes ≡ true
  pub error : Error
  pub answers : result ≡ Err error
  pub stays : Stays g old.de.now new.de.now
  pub err : Explains error (faults_of g old.de.now) (faults_of g new.de.now) (IsAtEnd (g.ahead old.de.now.reader))
  pub end : UnlessFault (faults_of g old.de.now) (faults_of g new.de.now) error (IsDataEnd error)

-- the list's counts but that of what is left stay
pub record SameList {R C : Type 0} (old new : SeqAccess R C) : Type 0 where
  pub count : new.count ≡ old.count
  pub inner : new.inner ≡ old.inner
  pub bytes : new.bytes ≡ old.bytes

-- ---- keys and values

-- the room of a map's parts
abbrev pub part_room : {R C : Type 0} → MapAccess R C → ℕ
part_room a = a.inner

-- the next key was offered to f
pub record KeyRead {F R C X : Type 0} (once : Reading F R C X) (f : F) (old new : MapAccess R C) (result : Result (Option X) Error) : Type 0 where
  pub given : Result X Error
  pub part : PartGiven once f old.inner old.de.now new.de.now given
  pub answers : MatchResult given (λ x. result ≡ Ok (Some x)) (λ e. result ≡ Err e)
  pub fewer : OnOk result (old.left ≡ new.left + 1)
  pub owes : OnOk result (new.owes ≡ true)
  pub count : new.count ≡ old.count
  pub inner : new.inner ≡ old.inner

-- the value of the last key was offered to f
pub record ValueRead {F R C X : Type 0} (once : Reading F R C X) (f : F) (old new : MapAccess R C) (result : Result X Error) : Type 0 where
  pub part : PartGiven once f old.inner old.de.now new.de.now result
  pub left : new.left ≡ old.left
  pub owes : OnOk result (new.owes ≡ false)
  pub count : new.count ≡ old.count
  pub inner : new.inner ≡ old.inner
