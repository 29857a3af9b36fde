-- What an access to the elements of a list does to the `Deserializer` that it borrows.
use Rattle.std.specs.Prelude.{◌≡◌, ◌⊎◌, ℕ, ◌+◌, ◌<◌, max, Bool, true, false, List, [], ◌∷◌, ◌++◌, Option, Result, IfSome, pos}
use Rattle.std.specs.Borrow.{GName}
use Rattle.std.specs.Io.KnownBytes.{Consumes}
pub use Rattle.rmp_wire.specs.Kinds.{seq_head}
use Rattle.rmp_wire.specs.declared.head.Head.{Head}
use Rattle.rmp_wire.specs.declared.head.Head.TheVariants.{Array, Bin}
use Rattle.rmp_wire.specs.declared.marker.Marker.{Marker}
use Rattle.rmp_wire.specs.declared.source.Source.{Ghosts}
use Rattle.rmp_wire.specs.Msg.{Msg, whole, bin, list, Msgs, no_items, item, count, depth, depth_all}
use Rattle.rmp_wire.specs.Canonical.{SpellsAs}
use Rattle.rmp_wire.specs.Spelling.{Joined}
use Rattle.rmp_decode.specs.Law.{TakesHead, Refuses, Readable, Explains}
use Rattle.rmp_decode.specs.Opening.{FailsToOpenAs, TakesOpening}
use Rattle.rmp_decode.specs.State.{left, faults_of, room_of, Stays}
use Rattle.rmp_decode.specs.declared.deserializer.Deserializer.{Deserializer}
use Rattle.rmp_decode.specs.declared.deserializer.Kept.TheVariants.{Nothing, Number}
use Rattle.rmp_decode.specs.declared.access.seq.SeqAccess.{SeqAccess}
use Rattle.rmp_decode.specs.declared.error.Error.{Error}
use Rattle.rmp_decode.specs.declared.error.Error.TheVariants.{DepthLimitExceeded, Syntax}
use Rattle.rmp_decode.specs.declared.text.Text.TheVariants.{InvalidType}

-- a list of the numbers that bytes are
abbrev pub numbers : List ℕ → Msgs
numbers [] = no_items
numbers (b ∷ s) = item (whole (pos b)) (numbers s)

-- a list whose items are such, or bytes whose numbers are
abbrev pub OfRow : (Msgs → Type 0) → Msg → Type 0
OfRow Q (bin s) = Q (numbers s)
OfRow Q (list ms) = Q ms
OfRow Q m = ⊥

abbrev pub IsSeq : Msg → Type 0
IsSeq m = OfRow (λ ms. Unit {0}) m

-- a byte of bytes spells the number that it is
pub record SpellsByte (bytes : List ℕ) (m : Msg) : Type 0 where
  pub byte : ℕ
  pub small : byte < 256
  pub alone : bytes ≡ byte ∷ []
  pub number : m ≡ whole (pos byte)

-- how an element is encoded in bytes, or in a list, by whether reading is strict
abbrev pub SpellsIn : Bool → Bool → List ℕ → Msg → Type 0
SpellsIn strict true = SpellsByte
SpellsIn strict false = SpellsAs strict

-- bytes open no level
abbrev pub levels : Bool → ℕ
levels true = 0
levels false = 1

-- how many elements are still to come
abbrev pub left_in : {R C : Type 0} → SeqAccess R C → ℕ
left_in s = s.left

-- how many there were at first
abbrev pub count_in : {R C : Type 0} → SeqAccess R C → ℕ
count_in s = s.count

-- whether they are the numbers of bytes
abbrev pub in_bytes : {R C : Type 0} → SeqAccess R C → Bool
in_bytes s = s.bytes

-- no call of the access has failed
abbrev pub is_sound : {R C : Type 0} → SeqAccess R C → Bool
is_sound s = s.sound

-- what it borrows
abbrev pub lender_of : {R C : Type 0} → SeqAccess R C → Deserializer R C
lender_of s = s.de.now

-- the name of that reference, which every call keeps
abbrev pub reference_of : {R C : Type 0} → SeqAccess R C → GName
reference_of s = s.de.ghost_name

-- an element may be read that nests below this
abbrev pub inner_of : {R C : Type 0} → SeqAccess R C → ℕ
inner_of s = max 1 s.inner

-- no call of the access has failed, and the reader is marked failed until the access ends
pub record IsOpen {R C : Type 0} (s : SeqAccess R C) : Type 0 where
  pub sound : s.sound ≡ true
  pub marked : s.de.now.failed ≡ true
  pub clean : s.de.now.kept ≡ Nothing

-- the head of a list or of bytes was taken
pub record Opens {R C : Type 0} (g : Ghosts R) (old : Deserializer R C) (s : SeqAccess R C) : Type 0 where
  pub fresh : old.failed ≡ false
  pub head : TakesHead g (seq_head s.bytes s.left) old s.de.now
  pub count : s.count ≡ s.left
  pub room : room_of old ≡ inner_of s + levels s.bytes
  pub stays : Stays g old s.de.now
  pub faults_same : faults_of g s.de.now ≡ faults_of g old
  pub opened : IsOpen s

-- how a message is refused where a list is wanted, by the room: a list only where no level is left, bytes never, and another kind
abbrev pub not_seq : ℕ → Marker → Head → Error → Type 0
not_seq room m (Array n) e = (room ≡ 1) × (e ≡ DepthLimitExceeded)
not_seq room m (Bin n) e = ⊥
not_seq room m h e = e ≡ Syntax InvalidType

-- no list could be opened
abbrev pub FailsToOpen : {R C : Type 0} → Ghosts R → Deserializer R C → Deserializer R C → Error → Type 0
FailsToOpen g = FailsToOpenAs g IsSeq not_seq

-- the head of bytes (true) or of a list was consumed; a list nests
abbrev pub TakesSeqHead : {R C : Type 0} → Ghosts R → Deserializer R C → Deserializer R C → Result (Bool × ℕ) Error → Type 0
TakesSeqHead g = TakesOpening g (λ p. seq_head p.0 p.1) (λ p. p.0 ≡ false) IsSeq not_seq

-- the next element was read
pub record TakesElement {R C V : Type 0} (g : Ghosts R) (reads : Msg → V → Type 0) (old new : SeqAccess R C) (v : V) : Type 0 where
  pub bytes : List ℕ
  pub tree : Msg
  pub takes : Consumes (left g old.de.now) (left g new.de.now) bytes
  pub spelled : SpellsIn old.de.now.strict old.bytes bytes tree
  pub fits : depth tree < inner_of old
  pub value : reads tree v
  pub fewer : old.left ≡ new.left + 1
  pub count : new.count ≡ old.count
  pub inner : new.inner ≡ old.inner
  pub bytes_same : new.bytes ≡ old.bytes
  pub stays : Stays g old.de.now new.de.now
  pub faults_same : faults_of g new.de.now ≡ faults_of g old.de.now
  pub still : IsOpen new

-- there was an element, and it was refused
pub record FailsToTake {R C V : Type 0} (g : Ghosts R) (reads : Msg → V → Type 0) (old new : SeqAccess R C) (e : Error) : Type 0 where
  pub some : 0 < old.left
  pub stays : Stays g old.de.now new.de.now
  pub err : Explains e (faults_of g old.de.now) (faults_of g new.de.now)
      (Refuses (SpellsIn old.de.now.strict old.bytes) (Readable reads) (inner_of old) (left g old.de.now))

-- there was no element, or it was refused
pub record FailsElement {R C V : Type 0} (g : Ghosts R) (reads : Msg → V → Type 0) (old new : SeqAccess R C) (e : Error) : Type 0 where
  pub stays : Stays g old.de.now new.de.now
  pub err : (old.left ≡ 0) ⊎ ((0 < old.left) × Explains e (faults_of g old.de.now) (faults_of g new.de.now)
      (Refuses (SpellsIn old.de.now.strict old.bytes) (Readable reads) (inner_of old) (left g old.de.now)))

-- a byte was taken, and is kept back as a number
pub record KeepsByte {R C : Type 0} (g : Ghosts R) (old new : Deserializer R C) : Type 0 where
  pub byte : ℕ
  pub small : byte < 256
  pub taken : Consumes (g.ahead old.reader) (g.ahead new.reader) (byte ∷ [])
  pub kept : new.kept ≡ Number byte

-- ---- rows of elements

-- the items follow one another
abbrev pub SpellsRow : (List ℕ → Msg → Type 0) → List ℕ → Msgs → Type 0
SpellsRow spells b no_items = b ≡ []
SpellsRow spells b (item m ms) = Joined (λ first. spells first m) (λ rest. SpellsRow spells rest ms) b

-- a beginning of xs spells n items of which P holds and that nest below the room
pub record BeginsRow (spells : List ℕ → Msg → Type 0) (P : Msgs → Type 0) (room n : ℕ) (xs : List ℕ) : Type 0 where
  pub bytes : List ℕ
  pub rest : List ℕ
  pub trees : Msgs
  pub front : xs ≡ bytes ++ rest
  pub spelled : SpellsRow spells bytes trees
  pub many : count trees ≡ n
  pub fits : depth_all trees < room
  pub holds : P trees

-- where the bytes are told, none of their beginnings is such
unfoldable pub RefusesRow : (List ℕ → Msg → Type 0) → (Msgs → Type 0) → ℕ → ℕ → Option (List ℕ) → Type 0
RefusesRow spells P room n known = IfSome known (λ xs. BeginsRow spells P room n xs → ⊥)

-- ---- elements of several types, one after another

-- these elements were read so far
pub record Run {R C : Type 0} (g : Ghosts R) (start now : SeqAccess R C) (ms : Msgs) : Type 0 where
  pub bytes : List ℕ
  pub takes : Consumes (left g start.de.now) (left g now.de.now) bytes
  pub spelled : SpellsRow (SpellsIn start.de.now.strict start.bytes) bytes ms
  pub fits : depth_all ms < inner_of start
  pub many : count ms + now.left ≡ start.left
  pub same_reference : now.de.ghost_name ≡ start.de.ghost_name
  pub count_same : now.count ≡ start.count
  pub inner : now.inner ≡ start.inner
  pub bytes_same : now.bytes ≡ start.bytes
  pub stays : Stays g start.de.now now.de.now
  pub faults_same : faults_of g now.de.now ≡ faults_of g start.de.now
  pub still : IsOpen now

-- elements were read, and together they are read as v
pub record TakesParts {R C V : Type 0} (g : Ghosts R) (Q : V → Msgs → Type 0) (old new : SeqAccess R C) (v : V) : Type 0 where
  pub trees : Msgs
  pub run : Run g old new trees
  pub value : Q v trees

-- no row of elements that is to come has such parts
pub record FailsParts {R C V : Type 0} (g : Ghosts R) (Q : V → Msgs → Type 0) (old new : SeqAccess R C) (e : Error) : Type 0 where
  pub stays : Stays g old.de.now new.de.now
  pub failed : new.de.now.failed ≡ true
  pub err : Explains e (faults_of g old.de.now) (faults_of g new.de.now)
      (RefusesRow (SpellsIn old.de.now.strict old.bytes) (λ ms. (v : V) × Q v ms) (inner_of old) old.left (left g old.de.now))
