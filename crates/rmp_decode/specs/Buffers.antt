-- Bytes from a text, from bytes, or from a list of numbers.
use Rattle.std.specs.Prelude.{◌≡◌, ◌⊎◌, ℕ, ◌+◌, ◌<◌, ◌≤◌, Bool, List, Option, Some, IfSome, IfNone, IfOk, IfErr, Result, Ok, Vec, true, false}
use Rattle.std.specs.declared.alloc.Global.{Global}
use Rattle.rmp_wire.specs.declared.head.Head.{Head}
use Rattle.rmp_wire.specs.declared.marker.Marker.{Marker}
use Rattle.rmp_wire.specs.declared.source.Source.{Ghosts}
use Rattle.rmp_wire.specs.declared.head.Head.TheVariants.{Array}
use Rattle.rmp_wire.specs.Msg.{Msg, Msgs, text, bin, list}
use Rattle.rmp_wire.specs.Canonical.{SpellsAs}
use Rattle.rmp_decode.specs.Consumed.{LeavesAfter, LeavesRest, no_payload}
use Rattle.rmp_decode.specs.Content.{IsRawHead, IsBufferHead, RefusesLeaf, not_raw, not_buffer}
use Rattle.rmp_decode.specs.Exact.{BeginsWith, Exact, RefusesExactly, TellsFault}
use Rattle.rmp_decode.specs.Kinds.{other_number}
use Rattle.rmp_decode.specs.Law.{Begins, Explains, Readable, Lawful, ReadsHead}
use Rattle.rmp_decode.specs.Payloads.{Kind}
use Rattle.rmp_decode.specs.Read.{IsUnsigned}
use Rattle.rmp_decode.specs.Rows.{ReadsEach}
use Rattle.rmp_decode.specs.Seq.{BeginsRow, IsOpen, TakesElement, FailsToTake, reference_of}
use Rattle.rmp_decode.specs.State.{left, faults_of, room_of}
use Rattle.rmp_decode.specs.declared.deserializer.Deserializer.{Deserializer}
use Rattle.rmp_decode.specs.declared.access.seq.SeqAccess.{SeqAccess}
use Rattle.rmp_decode.specs.declared.error.Error.{Error}
use Rattle.rmp_decode.specs.declared.error.Error.TheVariants.{DepthLimitExceeded, OutOfMemory}

-- the bytes of a text, which may be no UTF-8, or of bytes, or a list of as many numbers up to 255
abbrev pub IsBuffer : Msg → List ℕ → Type 0
IsBuffer (text s) b = b ≡ s
IsBuffer (bin s) b = b ≡ s
IsBuffer (list ms) b = ReadsEach (IsUnsigned 255) ms b
IsBuffer m b = ⊥

-- what the rest of a read does, whose beginning took this head
abbrev pub AfterHead : {R C V : Type 0} → Ghosts R → (Msg → V → Type 0) → Head → Deserializer R C → Deserializer R C → Result V Error → Type 0
AfterHead {R} {C} g reads h mid new result = (old : Deserializer R C) (m : Marker) → ReadsHead g old mid (Ok (m, h)) → Lawful g reads old new result

-- the access to a list of as many elements, whose head was taken
pub record ListAfterHead {R C : Type 0} (len : ℕ) (mid : Deserializer R C) (s : SeqAccess R C) : Type 0 where
  pub lender : s.de.now ≡ mid
  pub left : s.left ≡ len
  pub count : s.count ≡ len
  pub deep : 1 < mid.room
  pub inner : s.inner + 1 ≡ mid.room
  pub list : s.bytes ≡ false
  pub sound : s.sound ≡ true

-- ---- which error comes of a list

-- numbers up to 255
abbrev pub AreBytes : Msgs → Type 0
AreBytes ms = (b : List ℕ) × ReadsEach (IsUnsigned 255) ms b

-- the bytes begin with no whole number up to 255
abbrev pub NoByte : Bool → List ℕ → Type 0
NoByte strict xs = Begins (SpellsAs strict) (Readable (IsUnsigned 255)) 1 xs → ⊥

-- Of n items that are wanted, the bytes begin with some that are whole and numbers up to 255. The next one isn't, and is refused as
-- `deserialize_u8` refuses it; or memory was short for the last of these.
pub record RefusesItem (strict : Bool) (n : ℕ) (e : Error) (xs : List ℕ) : Type 0 where
  pub many : ℕ
  pub before : BeginsRow (SpellsAs strict) AreBytes 1 many xs
  pub refused : ((many < n) × NoByte strict before.rest × Exact strict other_number before.rest e) ⊎ ((0 < many) × (many ≤ n) × (e ≡ OutOfMemory))

-- the same of what was left, where the bytes are told and the source had no fault
unfoldable pub RefusesItems : {R C : Type 0} → Ghosts R → ℕ → Deserializer R C → Deserializer R C → Error → Type 0
RefusesItems g n old new e = faults_of g new ≡ faults_of g old → IfSome (left g old) (RefusesItem old.strict n e)

-- A list is refused as a whole where it would nest too deep, and otherwise at one of its items.
pub record RefusesListOf (strict : Bool) (room n : ℕ) (e : Error) (following : List ℕ) : Type 0 where
  pub deep : room ≤ 1 → e ≡ DepthLimitExceeded
  pub item : 1 < room → RefusesItem strict n e following

-- the same of what was left, where the bytes are told and the source had no fault
unfoldable pub RefusesListIn : Bool → ℕ → ℕ → ℕ → Option (List ℕ) → Error → Type 0
RefusesListIn strict room before after known e = after ≡ before
    → IfSome known (λ xs. (m : Marker) (n : ℕ) → (s : BeginsWith strict m (Array n) xs) → RefusesListOf strict room n e s.rest)

-- the same of a reader that was in one state and is in another then
abbrev pub RefusesList : {R C : Type 0} → Ghosts R → Deserializer R C → Deserializer R C → Error → Type 0
RefusesList g old new e = RefusesListIn old.strict (room_of old) (faults_of g old) (faults_of g new) (left g old) e

-- ---- what a refused list leaves

-- Of n items that are wanted, the bytes begin with some that are whole and numbers up to 255. The next one isn't, and P holds of the bytes that begin with it.
pub record AtItem (strict : Bool) (n : ℕ) (P : List ℕ → Type 0) (xs : List ℕ) : Type 0 where
  pub many : ℕ
  pub few : many < n
  pub before : BeginsRow (SpellsAs strict) AreBytes 1 many xs
  pub none : NoByte strict before.rest
  pub holds : P before.rest

-- A list that would nest too deep leaves what follows its head, and any other what follows the head of the item that is refused.
pub record LeavesList (strict : Bool) (room n : ℕ) (new : Option (List ℕ)) (following : List ℕ) : Type 0 where
  pub deep : room ≤ 1 → new ≡ Some following
  pub item : 1 < room → AtItem strict n (LeavesRest strict no_payload new) following

-- the same of a list whose head was taken, where the bytes are told, unless memory was short or the source had a fault
unfoldable pub ListLeaves : {R C : Type 0} → Ghosts R → ℕ → Deserializer R C → Deserializer R C → Error → Type 0
ListLeaves g n mid new e = Explains e (faults_of g mid) (faults_of g new) (IfSome (left g mid) (LeavesList mid.strict (room_of mid) n (left g new)))

-- where bytes of its own are wanted, a list leaves this, and any other message what a text or bytes would
pub record LeavesBuffer (strict : Bool) (room : ℕ) (new : Option (List ℕ)) (xs : List ℕ) : Type 0 where
  pub leaf : ((m : Marker) (n : ℕ) → BeginsWith strict m (Array n) xs → ⊥) → LeavesRest strict IsRawHead new xs
  pub list : (m : Marker) (n : ℕ) → (s : BeginsWith strict m (Array n) xs) → LeavesList strict room n new s.rest

-- the same of a ready reader that was in one state and is in another then
unfoldable pub BufferLeaves : {R C : Type 0} → Ghosts R → Deserializer R C → Deserializer R C → Error → Type 0
BufferLeaves g old new e = Explains e (faults_of g old) (faults_of g new) (IfSome (left g old) (LeavesBuffer old.strict (room_of old) (left g new)))

-- ---- all that a read promises

-- bytes of its own, from a text, from bytes, or from a list of numbers
abbrev pub a_buffer : Kind (Vec ℕ Global)
a_buffer = record {
  reads = λ m v. IsBuffer m v.items;
  wanted = IsBufferHead;
  payload = IsRawHead;
  other = not_raw;
  refused = not_buffer;
  lends = false;
}

-- of one from its head on
pub record ReadsBuffer {R C : Type 0} (g : Ghosts R) (old new : Deserializer R C) (result : Result (Vec ℕ Global) Error) : Type 0 where
  pub law : Lawful g a_buffer.reads old new result
  pub exact : RefusesLeaf g IsBufferHead not_raw not_buffer old new result
  pub list : old.failed ≡ false → IfErr result (RefusesList g old new)
  pub taken : old.failed ≡ false → IfErr result (BufferLeaves g old new)

-- of the next number of a list that is open
pub record ReadsNumber {R C : Type 0} (g : Ghosts R) (old new : SeqAccess R C) (result : Result (Option ℕ) Error) : Type 0 where
  pub same_reference : reference_of new ≡ reference_of old
  pub none : IsOpen old → IfOk result (λ o. IfNone o ((old.left ≡ 0) × (new ≡ old)))
  pub some : IsOpen old → IfOk result (λ o. IfSome o (TakesElement g (IsUnsigned 255) old new))
  pub err : IsOpen old → IfErr result (FailsToTake g (IsUnsigned 255) old new)
  pub exact : IfErr result (RefusesExactly old.de.now.strict other_number (faults_of g old.de.now) (faults_of g new.de.now) (left g old.de.now))
  pub taken : IfErr result (LeavesAfter old.de.now.strict no_payload (left g old.de.now) (left g new.de.now) (faults_of g old.de.now) (faults_of g new.de.now))
  pub marked : old.de.now.failed ≡ true → new.de.now.failed ≡ true

-- of a list whose head was taken
pub record ReadsByteList {R C : Type 0} (g : Ghosts R) (n : ℕ) (mid new : Deserializer R C) (result : Result (Vec ℕ Global) Error) : Type 0 where
  pub law : AfterHead g a_buffer.reads (Array n) mid new result
  pub deep : IfErr result (λ e. mid.room ≤ 1 → e ≡ DepthLimitExceeded)
  pub items : IfErr result (λ e. 1 < mid.room → RefusesItems g n mid new e)
  pub taken : IfErr result (ListLeaves g n mid new)
  pub fault : IfErr result (TellsFault (faults_of g mid) (faults_of g new))
