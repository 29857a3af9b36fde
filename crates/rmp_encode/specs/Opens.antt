-- What a contract sees of an open list or map, of a known length or an unknown one.
use Rattle.std.specs.Prelude.{◌≡◌, ℕ, ◌+◌, ◌≤◌, ◌<◌, [], ◌∷◌, ◌^◌, ◌-◌, ◌%◌, Bool, true, false, List, length, Option, None, Some}
use Rattle.std.specs.Borrow.{GName}
use Rattle.std.specs.declared.vec.Vec.{Vec}
use Rattle.std.specs.declared.alloc.Global.{Global}
use Rattle.rmp_wire.specs.Msg.{Msg}
use Rattle.rmp_wire.specs.declared.sink.Sink.{Ghosts}
use Rattle.rmp_encode.specs.declared.serializer.Serializer.{Serializer}
use Rattle.rmp_encode.specs.declared.unknown_length.MaybeUnknownLengthCompound.{MaybeUnknownLengthCompound}
use Rattle.rmp_encode.specs.Data.{Data}
use Rattle.rmp_encode.specs.Going.{AreMany, head_at, IsWriting, IsKeepingAt}
use Rattle.rmp_encode.specs.Markers.{no_fault}
use Rattle.rmp_encode.specs.Sizes.{most, size_at}
use Rattle.rmp_encode.specs.Writes.{Marks}

-- the compound's own type, with its buffer
abbrev pub Open : Type 0 → Type 0 → Type 0
Open W C = MaybeUnknownLengthCompound W C (Option (Serializer (Vec ℕ Global) C))

-- the serializer that it writes to, and the reference to it
abbrev pub inside : {W C P : Type 0} → MaybeUnknownLengthCompound W C P → Serializer W C
inside q = q.se.now

abbrev pub reference : {W C : Type 0} → Open W C → GName
reference q = q.se.ghost_name

-- how many parts remain if there is no buffer, and how many are in it if there is one
abbrev pub counted : {W C : Type 0} → Open W C → ℕ
counted q = q.count

-- how many parts remain, if that is known
abbrev pub left_at : {B : Type 0} → Option B → ℕ → Option ℕ
left_at None n = Some n
left_at (Some b) n = None

abbrev pub left_of : {W C : Type 0} → Open W C → Option ℕ
left_of q = left_at q.buffer q.count

-- no call has returned an error
abbrev pub is_sound : {W C : Type 0} → Open W C → Bool
is_sound q = q.sound

-- a map is open, not a list
abbrev pub is_map : {W C : Type 0} → Open W C → Bool
is_map q = q.pairs

-- how many elements or pairs remain, if that is known
abbrev pub not_begun_at : Bool → Option ℕ → Option ℕ
not_begun_at pairs None = None
not_begun_at pairs (Some n) = Some (size_at pairs n)

abbrev pub not_begun : {W C : Type 0} → Open W C → Option ℕ
not_begun q = not_begun_at q.pairs (left_of q)

-- how many values a map owes its keys: one after a key, and none after a value
abbrev pub owed_at : Bool → ℕ → ℕ
owed_at true n = n % 2
owed_at false n = 0

abbrev pub owed : {W C : Type 0} → Open W C → ℕ
owed q = owed_at q.pairs q.count

-- how many parts a map of n pairs has
abbrev pub twice : Option ℕ → Option ℕ
twice None = None
twice (Some n) = Some (n + n)

-- one more is allowed
abbrev pub MayTake : Option ℕ → Type 0
MayTake None = Unit {0}
MayTake (Some n) = 0 < n

-- the end is allowed
abbrev pub MayEnd : Option ℕ → Type 0
MayEnd None = Unit {0}
MayEnd (Some n) = n ≡ 0

-- as many are kept as a head can count
abbrev pub IsFull : {W C : Type 0} → Open W C → Type 0
IsFull q = (left_of q ≡ None) × (most q.pairs ≤ q.count)

-- what the opening writes: a head, if the number is known
abbrev pub head_items : Bool → Option ℕ → List (List ℕ)
head_items pairs None = []
head_items pairs (Some n) = head_at pairs n ∷ []

-- after one more
abbrev pub one_less : Option ℕ → Option ℕ
one_less None = None
one_less (Some n) = Some (n - 1)

-- each key has its value
pub record IsPaired (all : List (Option Data)) : Type 0 where
  pub size : ℕ
  pub many : AreMany true size all

-- the list is as long as its opening said, if it did
abbrev pub IsLong : Option ℕ → List (Option Data) → Type 0
IsLong None all = Unit {0}
IsLong (Some n) all = length all ≡ n

-- the map has as many pairs as its opening said, if it did
abbrev pub IsMapLong : Option ℕ → List (Option Data) → Type 0
IsMapLong None all = IsPaired all
IsMapLong (Some n) all = length all ≡ n + n

-- a head has room for this number of elements or pairs, if it is known
abbrev pub MayOpen : Option ℕ → Type 0
MayOpen None = Unit {0}
MayOpen (Some n) = n < 2 ^ 32

-- parts are in a buffer, which allocates
abbrev pub is_kept : Option ℕ → Bool
is_kept None = true
is_kept (Some n) = false

-- what is known of the error of a part: a buffer never faults
abbrev pub part_marks : Option ℕ → Marks → Marks
part_marks None marks = no_fault
part_marks (Some n) marks = marks

-- if the length is unknown, the serializer doesn't change
abbrev pub Stays : {S : Type 0} → Option ℕ → S → S → Type 0
Stays None old new = new ≡ old
Stays (Some n) old new = Unit {0}

module _ {W C : Type 0} (g : Ghosts W) where
  abbrev pub IsOpenAt : Bool → Serializer W C → Option Msg → List (Option Data) → Option (Serializer (Vec ℕ Global) C) → ℕ → Serializer W C → Type 0
  IsOpenAt pairs old t rest None count now = (count ≡ length rest) × IsWriting g old t rest now
  IsOpenAt pairs old t rest (Some b) count now = IsKeepingAt g pairs old t rest count b now

  -- of the tree t of the list or map that was opened at old, `rest` remains
  pub record IsOpen (old : Serializer W C) (t : Option Msg) (rest : List (Option Data)) (q : Open W C) : Type 0 where
    pub sound : q.sound ≡ true
    pub state : IsOpenAt q.pairs old t rest q.buffer q.count q.se.now
