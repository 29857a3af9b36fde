-- What an access to the pairs of a map does to the `Deserializer` that it borrows.
use Rattle.std.specs.Prelude.{◌≡◌, ℕ, ◌+◌, max, Bool, true, false, List, [], ◌∷◌, reverse, Result}
use Rattle.std.specs.BTreeMap.{is_at}
use Rattle.std.specs.Borrow.{GName}
use Rattle.std.specs.List.Sorted.{IsStrictlySortedBy}
use Rattle.std.specs.Map.{keys_of, lookup, lookup_key}
use Rattle.std.specs.declared.cmp.Ordering.{Ordering}
use Rattle.rmp_wire.specs.declared.head.Head.{Head}
use Rattle.rmp_wire.specs.declared.head.Head.TheVariants.{Map}
use Rattle.rmp_wire.specs.declared.marker.Marker.{Marker}
use Rattle.rmp_wire.specs.declared.source.Source.{Ghosts}
use Rattle.rmp_wire.specs.Msg.{Msg, map, Pairs, no_pairs, pair}
use Rattle.rmp_decode.specs.Opening.{FailsToOpenAs, TakesOpening}
use Rattle.rmp_decode.specs.Law.{TakesHead}
use Rattle.rmp_decode.specs.Parts.{TakesPart}
use Rattle.rmp_decode.specs.Seq.{IsOpen}
use Rattle.rmp_decode.specs.State.{faults_of, room_of, Stays}
use Rattle.rmp_decode.specs.declared.deserializer.Deserializer.{Deserializer}
use Rattle.rmp_decode.specs.declared.access.map.MapAccess.{MapAccess}
use Rattle.rmp_decode.specs.declared.access.seq.SeqAccess.{SeqAccess}
use Rattle.rmp_decode.specs.declared.error.Error.{Error}
use Rattle.rmp_decode.specs.declared.error.Error.TheVariants.{DepthLimitExceeded, Syntax}
use Rattle.rmp_decode.specs.declared.text.Text.TheVariants.{InvalidType}

-- ---- what types read of the pairs of a map

-- a map whose pairs are such
abbrev pub OfMap : (Pairs → Type 0) → Msg → Type 0
OfMap Q (map ps) = Q ps
OfMap Q m = ⊥

abbrev pub IsMap : Msg → Type 0
IsMap m = OfMap (λ ps. Unit {0}) m

-- each pair is read as the key and the value at its place
abbrev pub ReadsPairs : {K V : Type 0} → (Msg → K → Type 0) → (Msg → V → Type 0) → Pairs → List (K × V) → Type 0
ReadsPairs keys values no_pairs [] = Unit {0}
ReadsPairs keys values (pair k v ps) (e ∷ es) = keys k e.0 × values v e.1 × ReadsPairs keys values ps es
ReadsPairs keys values no_pairs (e ∷ es) = ⊥
ReadsPairs keys values (pair k v ps) [] = ⊥

-- the entries that pairs make: in the keys' order, and of equal keys the first, with the last value
pub record Collects {K V : Type 0} (cmp : K → K → Ordering) (pairs entries : List (K × V)) : Type 0 where
  pub ordered : IsStrictlySortedBy cmp (keys_of entries)
  pub first : (q : K) → lookup_key (is_at (cmp q)) entries ≡ lookup_key (is_at (cmp q)) pairs
  pub last : (q : K) → lookup (is_at (cmp q)) entries ≡ lookup (is_at (cmp q)) (reverse pairs)

-- a map whose pairs make these entries
abbrev pub ReadsEntries : {K V : Type 0} → (K → K → Ordering) → (Msg → K → Type 0) → (Msg → V → Type 0) → List (K × V) → Msg → Type 0
ReadsEntries {K} {V} cmp keys values es m = OfMap (λ ps. (ns : List (K × V)) × ReadsPairs keys values ps ns × Collects cmp ns es) m

-- ---- the access

-- how many pairs haven't begun
abbrev pub pairs_left : {R C : Type 0} → MapAccess R C → ℕ
pairs_left a = a.left

-- how many there were at first
abbrev pub pairs_in : {R C : Type 0} → MapAccess R C → ℕ
pairs_in a = a.count

-- a key was read, and its value not yet
abbrev pub owes_value : {R C : Type 0} → MapAccess R C → Bool
owes_value a = a.owes

-- no call of the access has failed
abbrev pub is_map_sound : {R C : Type 0} → MapAccess R C → Bool
is_map_sound a = a.sound

-- what it borrows
abbrev pub map_lender : {R C : Type 0} → MapAccess R C → Deserializer R C
map_lender a = a.de.now

-- the name of that reference, which every call keeps
abbrev pub map_reference : {R C : Type 0} → MapAccess R C → GName
map_reference a = a.de.ghost_name

-- a key or a value may be read that nests below this
abbrev pub map_inner : {R C : Type 0} → MapAccess R C → ℕ
map_inner a = max 1 a.inner

-- the next part is a key, unless a call has failed
abbrev pub AtKey : {R C : Type 0} → MapAccess R C → Type 0
AtKey a = a.sound ≡ true → a.owes ≡ false

-- the next part is the value of the key that was read, unless a call has failed
abbrev pub AtValue : {R C : Type 0} → MapAccess R C → Type 0
AtValue a = a.sound ≡ true → a.owes ≡ true

-- how many keys and values are still to come
abbrev pub owed : Bool → ℕ
owed true = 1
owed false = 0

abbrev pub to_come : {R C : Type 0} → MapAccess R C → ℕ
to_come a = a.left + a.left + owed a.owes

-- the same access, to the list of its keys and values
abbrev pub as_row : {R C : Type 0} → MapAccess R C → SeqAccess R C
as_row a = record { de = a.de; left = to_come a; count = a.count + a.count; inner = a.inner; bytes = false; sound = a.sound }

-- no call of the access has failed, and the reader is marked failed until the access ends
abbrev pub IsMapOpen : {R C : Type 0} → MapAccess R C → Type 0
IsMapOpen a = IsOpen (as_row a)

-- the head of a map was taken
pub record OpensMap {R C : Type 0} (g : Ghosts R) (old : Deserializer R C) (a : MapAccess R C) : Type 0 where
  pub fresh : old.failed ≡ false
  pub head : TakesHead g (Map a.left) old a.de.now
  pub count : a.count ≡ a.left
  pub at_key : a.owes ≡ false
  pub room : room_of old ≡ map_inner a + 1
  pub stays : Stays g old a.de.now
  pub faults_same : faults_of g a.de.now ≡ faults_of g old
  pub opened : IsMapOpen a

-- how a message is refused where a map is wanted, by the room: a map only where no level is left, and another kind
abbrev pub not_map : ℕ → Marker → Head → Error → Type 0
not_map room m (Map n) e = (room ≡ 1) × (e ≡ DepthLimitExceeded)
not_map room m h e = e ≡ Syntax InvalidType

-- no map could be opened
abbrev pub FailsToOpenMap : {R C : Type 0} → Ghosts R → Deserializer R C → Deserializer R C → Error → Type 0
FailsToOpenMap g = FailsToOpenAs g IsMap not_map

-- the head of a map was consumed
abbrev pub TakesMapHead : {R C : Type 0} → Ghosts R → Deserializer R C → Deserializer R C → Result ℕ Error → Type 0
TakesMapHead g = TakesOpening g Map (λ n. Unit {0}) IsMap not_map

-- the next key was read
pub record TakesKey {R C K : Type 0} (g : Ghosts R) (reads : Msg → K → Type 0) (old new : MapAccess R C) (k : K) : Type 0 where
  pub part : TakesPart g reads (map_inner old) old.de.now new.de.now k
  pub fewer : old.left ≡ new.left + 1
  pub owes : new.owes ≡ true
  pub count : new.count ≡ old.count
  pub inner : new.inner ≡ old.inner
  pub still : IsMapOpen new

-- its value was read
pub record TakesValue {R C V : Type 0} (g : Ghosts R) (reads : Msg → V → Type 0) (old new : MapAccess R C) (v : V) : Type 0 where
  pub part : TakesPart g reads (map_inner old) old.de.now new.de.now v
  pub same_left : new.left ≡ old.left
  pub owes : new.owes ≡ false
  pub count : new.count ≡ old.count
  pub inner : new.inner ≡ old.inner
  pub still : IsMapOpen new
