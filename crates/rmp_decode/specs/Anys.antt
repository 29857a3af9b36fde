-- What reading a message of any kind gives.
use Rattle.std.specs.Prelude.{◌≡◌, ◌⊎◌, ℕ, ℤ, Bool, true, false, List, ◌++◌, length, Option, IfSome, Ok, IsUtf8}
use Rattle.std.specs.Borrow.{GName}
use Rattle.std.specs.Io.KnownBytes.{Consumes}
use Rattle.rmp_wire.specs.declared.head.Head.{Head}
use Rattle.rmp_wire.specs.declared.head.Head.TheVariants as head
use Rattle.rmp_wire.specs.declared.marker.Marker.{Marker}
use Rattle.rmp_wire.specs.declared.source.Source.{Ghosts}
use Rattle.rmp_wire.specs.Msg.{nil, truth, whole, float32, float64}
use Rattle.rmp_wire.specs.Sources.{IsShort, Skips}
use Rattle.rmp_wire.specs.Canonical.{SpellsAs}
use Rattle.rmp_wire.specs.Spelling.{IsBytes}
use Rattle.rmp_decode.specs.Content.{not_string}
use Rattle.rmp_decode.specs.Exact.{BeginsWith, BeginsWithNone, Ends, TellsFault, UnlessFault, IsDataEnd, IsUtf8Error}
use Rattle.rmp_decode.specs.Law.{Lawful, ReadsHead, Refuses, Explains, IsFailedBefore}
use Rattle.rmp_decode.specs.Maps.{OpensMap}
use Rattle.rmp_decode.specs.Pieces.{RefusesPiece}
use Rattle.rmp_decode.specs.Seq.{Opens}
use Rattle.rmp_decode.specs.Skip.{parts_head}
use Rattle.rmp_decode.specs.State.{left, faults_of, room_of, Stays}
use Rattle.rmp_decode.specs.declared.deserializer.Deserializer.{Deserializer}
use Rattle.rmp_decode.specs.declared.access.any.Any.{Any}
use Rattle.rmp_decode.specs.declared.access.any.Any.TheVariants as any
use Rattle.rmp_decode.specs.declared.access.any.Leaf.{Leaf}
use Rattle.rmp_decode.specs.declared.access.any.RawAccess.{RawAccess}
use Rattle.rmp_decode.specs.declared.error.Error.{Error}
use Rattle.rmp_decode.specs.declared.error.Error.TheVariants.{DepthLimitExceeded, Syntax}
use Rattle.rmp_decode.specs.declared.text.Text.TheVariants.{InvalidType}

-- `leaf.value()`
abbrev pub leaf_value : {R C T : Type 0} → Leaf R C T → T
leaf_value a = a.value

-- the reader that read it
abbrev pub leaf_lender : {R C T : Type 0} → Leaf R C T → Deserializer R C
leaf_lender a = a.de.now

-- how many bytes are still to be read
abbrev pub raw_len : {R C : Type 0} → RawAccess R C → ℕ
raw_len a = a.len

-- the type of an extension
abbrev pub raw_tag : {R C : Type 0} → RawAccess R C → ℤ
raw_tag a = a.tag

-- the reader before them
abbrev pub raw_lender : {R C : Type 0} → RawAccess R C → Deserializer R C
raw_lender a = a.de.now

-- the reference to the reader
abbrev pub any_name : {R C : Type 0} → Any R C → GName
any_name (any.Nil a) = a.de.ghost_name
any_name (any.Truth a) = a.de.ghost_name
any_name (any.Whole a) = a.de.ghost_name
any_name (any.F32Bits a) = a.de.ghost_name
any_name (any.F64Bits a) = a.de.ghost_name
any_name (any.Text a) = a.de.ghost_name
any_name (any.Bytes a) = a.de.ghost_name
any_name (any.Seq a) = a.de.ghost_name
any_name (any.Map a) = a.de.ghost_name
any_name (any.Ext a) = a.de.ghost_name

-- this head was consumed, and its payload wasn't
pub record OpensRaw {R C : Type 0} (g : Ghosts R) (h : Head) (old : Deserializer R C) (a : RawAccess R C) : Type 0 where
  pub marker : Marker
  pub begun : ReadsHead g old a.de.now (Ok (marker, h))

-- a leaf was read whole, and of another message what opens it was taken
abbrev pub OpensAny : {R C : Type 0} → Ghosts R → Deserializer R C → Any R C → Type 0
OpensAny g old (any.Nil a) = Lawful g (λ m v. m ≡ nil) old a.de.now (Ok a.value)
OpensAny g old (any.Truth a) = Lawful g (λ m v. m ≡ truth v) old a.de.now (Ok a.value)
OpensAny g old (any.Whole a) = Lawful g (λ m v. m ≡ whole v) old a.de.now (Ok a.value)
OpensAny g old (any.F32Bits a) = Lawful g (λ m v. m ≡ float32 v) old a.de.now (Ok a.value)
OpensAny g old (any.F64Bits a) = Lawful g (λ m v. m ≡ float64 v) old a.de.now (Ok a.value)
OpensAny g old (any.Text a) = OpensRaw g (head.Text a.len) old a
OpensAny g old (any.Bytes a) = OpensRaw g (head.Bin a.len) old a
OpensAny g old (any.Seq a) = Opens g old a × (a.bytes ≡ false)
OpensAny g old (any.Map a) = OpensMap g old a
OpensAny g old (any.Ext a) = OpensRaw g (head.Ext a.len a.tag) old a

-- the bytes begin with the head of a list or a map
pub record OpensParts (strict : Bool) (xs : List ℕ) : Type 0 where
  pub is_map : Bool
  pub len : ℕ
  pub marker : Marker
  pub starts : BeginsWith strict marker (parts_head is_map len) xs

-- why no message can be opened: the bytes begin with no whole head, or with that of a list or a map that would nest too deep
abbrev pub UnopenedFor : Bool → ℕ → List ℕ → Error → Type 0
UnopenedFor strict room xs e = (BeginsWithNone strict xs × Ends xs e) ⊎ (OpensParts strict xs × (room ≡ 1) × (e ≡ DepthLimitExceeded))

-- Exactly which error it is, where the bytes are told and the source had no fault (it counts them: before, after). A fault is told by the error.
unfoldable pub RefusesAny : Bool → ℕ → ℕ → ℕ → Option (List ℕ) → Error → Type 0
RefusesAny strict room before after known e = UnlessFault before after e (IfSome known (λ xs. UnopenedFor strict room xs e))

-- no message that nests below the room begins there
pub record FailsToOpenAny {R C : Type 0} (g : Ghosts R) (old new : Deserializer R C) (e : Error) : Type 0 where
  pub failed : new.failed ≡ true
  pub stays : Stays g old new
  pub before : old.failed ≡ true → IsFailedBefore e × (new ≡ old)
  pub err : old.failed ≡ false → Explains e (faults_of g old) (faults_of g new) (Refuses (SpellsAs old.strict) (λ m. Unit {0}) (room_of old) (left g old))
  pub exact : old.failed ≡ false → RefusesAny old.strict (room_of old) (faults_of g old) (faults_of g new) (left g old) e

-- the content was taken, and the reader is ready
pub record TakesContent {R C : Type 0} (g : Ghosts R) (len : ℕ) (old new : Deserializer R C) (s : List ℕ) : Type 0 where
  pub long : length s ≡ len
  pub are_bytes : IsBytes s
  pub taken : Consumes (g.ahead old.reader) (g.ahead new.reader) s
  pub kept : new.kept ≡ old.kept
  pub ready : new.failed ≡ false
  pub sound : faults_of g new ≡ faults_of g old
  pub stays : Stays g old new

-- too little of it was there, and the error says that the input ended
pub record FailsContent {R C : Type 0} (g : Ghosts R) (len : ℕ) (old new : Deserializer R C) (e : Error) : Type 0 where
  pub failed : new.failed ≡ old.failed
  pub stays : Stays g old new
  pub err : Explains e (faults_of g old) (faults_of g new) (IsShort len (g.ahead old.reader))
  pub exact : Explains e (faults_of g old) (faults_of g new) (IsDataEnd e)
  pub fault : TellsFault (faults_of g old) (faults_of g new) e

-- the source doesn't lend, or too little of it was there
pub record FailsToLend {R C : Type 0} (g : Ghosts R) (len : ℕ) (old new : Deserializer R C) (e : Error) : Type 0 where
  pub failed : new.failed ≡ old.failed
  pub stays : Stays g old new
  pub exact : (e ≡ Syntax InvalidType) ⊎ FailsContent g len old new e
  pub fault : TellsFault (faults_of g old) (faults_of g new) e
  -- where the source doesn't lend it was consumed, and nothing that follows it
  pub taken : e ≡ Syntax InvalidType → Skips len (g.ahead old.reader) (g.ahead new.reader)

-- where the bytes are told, they don't begin with so many that are UTF-8
abbrev pub StartsWithNoText : ℕ → Option (List ℕ) → Type 0
StartsWithNoText len known = IfSome known (λ xs. (s r : List ℕ) → xs ≡ s ++ r → length s ≡ len → IsUtf8 s → ⊥)

-- it was no text, and which error says so
pub record FailsText {R C : Type 0} (g : Ghosts R) (len : ℕ) (old new : Deserializer R C) (e : Error) : Type 0 where
  pub failed : new.failed ≡ old.failed
  pub stays : Stays g old new
  pub err : Explains e (faults_of g old) (faults_of g new) (StartsWithNoText len (g.ahead old.reader))
  pub exact : Explains e (faults_of g old) (faults_of g new) (RefusesPiece len (not_string (head.Text len)) (g.ahead old.reader) e)
  pub fault : TellsFault (faults_of g old) (faults_of g new) e
  -- where it isn't UTF-8 it was consumed, and nothing that follows it
  pub taken : Explains e (faults_of g old) (faults_of g new) (IsUtf8Error e → Skips len (g.ahead old.reader) (g.ahead new.reader))
