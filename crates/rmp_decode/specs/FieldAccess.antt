-- What an access to the fields of a struct does to the `Deserializer` that it borrows.
use Rattle.std.specs.Prelude.{◌≡◌, ◌≢◌, ◌⊎◌, ℕ, zero, suc, ◌+◌, ◌-◌, ◌<◌, ◌≤◌, max, Bool, true, false, List, length, Result, Ok, Err, IfOk, OnErr, MatchResult}
use Rattle.std.specs.Prelude.{Option, Some, None, IfSome, MatchOption}
use Rattle.std.specs.Borrow.{GName}
use Rattle.std.specs.Int.{bit_at}
use Rattle.rmp_wire.specs.declared.source.Source.{Ghosts}
use Rattle.rmp_wire.specs.Msg.{Msg}
use Rattle.rmp_decode.specs.Exact.{RefusesBy}
use Rattle.rmp_decode.specs.Fields.{HasFields, not_fields, name_refusal, pass_refusal}
use Rattle.rmp_decode.specs.Law.{Readable}
use Rattle.rmp_decode.specs.MapRefusing.{EntryRefused}
use Rattle.rmp_decode.specs.Maps.{IsMapOpen, OpensMap, TakesKey, TakesValue, map_inner}
use Rattle.rmp_decode.specs.Names.{bytes_of, IsName}
use Rattle.rmp_decode.specs.Parts.{FailsPart}
use Rattle.rmp_decode.specs.Refusing.{Setting, Refusals, ElementRefused}
use Rattle.rmp_decode.specs.Seq.{Opens, TakesElement, FailsToTake}
use Rattle.rmp_decode.specs.Skip.{any_tree}
use Rattle.rmp_decode.specs.State.{left, Stays}
use Rattle.rmp_decode.specs.Variants.{RefusesContentOf, ContentRefusedBy}
use Rattle.rmp_decode.specs.With.{part_reader, Reading, CanRead, PartRead, PartMissing, ValueRead}
use Rattle.rmp_decode.specs.declared.access.variant.Variant.{Variant}
use Rattle.rmp_decode.specs.declared.deserializer.Deserializer.{Deserializer}
use Rattle.rmp_decode.specs.declared.deserializer.Kept.TheVariants.{Nothing}
use Rattle.rmp_decode.specs.declared.access.field_access.FieldAccess.{FieldAccess}
use Rattle.rmp_decode.specs.declared.access.map.MapAccess.{MapAccess}
use Rattle.rmp_decode.specs.declared.access.seq.SeqAccess.{SeqAccess}
use Rattle.rmp_decode.specs.declared.error.Error.{Error}
use Rattle.rmp_decode.specs.declared.error.Error.TheVariants.{Syntax}
use Rattle.rmp_decode.specs.declared.text.Text.TheVariants.{DuplicateField, InvalidLength, InvalidType}

-- ---- what is seen of it

-- the fields are in a map
abbrev pub is_of_map : {R C : Type 0} → FieldAccess R C → Bool
is_of_map a = a.is_map

-- how many elements or pairs haven't begun
abbrev pub fields_left : {R C : Type 0} → FieldAccess R C → ℕ
fields_left a = a.left

-- how many there were at first
abbrev pub fields_in : {R C : Type 0} → FieldAccess R C → ℕ
fields_in a = a.count

-- a place was answered, and its value is still to be read
abbrev pub owes_field : {R C : Type 0} → FieldAccess R C → Bool
owes_field a = a.owes

-- no call of the access has failed
abbrev pub is_struct_sound : {R C : Type 0} → FieldAccess R C → Bool
is_struct_sound a = a.sound

-- what it borrows
abbrev pub struct_lender : {R C : Type 0} → FieldAccess R C → Deserializer R C
struct_lender a = a.de.now

-- the name of that reference, which every call keeps
abbrev pub struct_reference : {R C : Type 0} → FieldAccess R C → GName
struct_reference a = a.de.ghost_name

abbrev pub names_in : {R C : Type 0} → FieldAccess R C → List (List ℕ)
names_in a = bytes_of a.names.now

-- next is the place of a field, unless a call has failed
abbrev pub AtField : {R C : Type 0} → FieldAccess R C → Type 0
AtField a = a.sound ≡ true → a.owes ≡ false

-- next is the value of the field whose place was answered, unless a call has failed
abbrev pub AtFieldValue : {R C : Type 0} → FieldAccess R C → Type 0
AtFieldValue a = a.sound ≡ true → a.owes ≡ true

-- the access to a map's pairs that it is
abbrev pub as_map : {R C : Type 0} → FieldAccess R C → MapAccess R C
as_map a = record { de = a.de; left = a.left; count = a.count; inner = a.inner; owes = a.owes; sound = a.sound }

abbrev pub begun : Bool → ℕ
begun true = 1
begun false = 0

-- the access to a list's elements that it is: one whose value is owed is still to come
abbrev pub as_seq : {R C : Type 0} → FieldAccess R C → SeqAccess R C
as_seq a = record { de = a.de; left = a.left + begun a.owes; count = a.count; inner = a.inner; bytes = a.bytes; sound = a.sound }

-- no call has failed, the reader is marked failed until the access ends, and there are few names
pub record IsStructOpen {R C : Type 0} (a : FieldAccess R C) : Type 0 where
  pub sound : a.sound ≡ true
  pub marked : a.de.now.failed ≡ true
  pub clean : a.de.now.kept ≡ Nothing
  pub few : length (names_in a) ≤ 128
  pub pairs : a.is_map ≡ true → a.bytes ≡ false

-- the same, of which a call has failed
abbrev pub unsound : {R C : Type 0} → FieldAccess R C → FieldAccess R C
unsound a = record a { sound = false }

-- all but its counts stays
pub record SameStruct {R C : Type 0} (old new : FieldAccess R C) : Type 0 where
  pub is_map : new.is_map ≡ old.is_map
  pub bytes : new.bytes ≡ old.bytes
  pub names : new.names ≡ old.names
  pub count : new.count ≡ old.count
  pub inner : new.inner ≡ old.inner

-- ---- openings

abbrev pub OpensAs : {R C : Type 0} → Bool → Ghosts R → Deserializer R C → FieldAccess R C → Type 0
OpensAs true g old a = OpensMap g old (as_map a)
OpensAs false g old a = Opens g old (as_seq a)

-- the head of a map, of a list or of bytes was taken, and no field was met
pub record OpensStruct {R C : Type 0} (g : Ghosts R) (names : List (List ℕ)) (old : Deserializer R C) (a : FieldAccess R C) : Type 0 where
  pub opens : OpensAs a.is_map g old a
  pub names_same : names_in a ≡ names
  pub none_met : a.met ≡ 0
  pub at_field : a.owes ≡ false
  pub still : IsStructOpen a

-- the access, as if its reader had the room of a variant's content
abbrev pub struct_within : {R C : Type 0} → ℕ → FieldAccess R C → FieldAccess R C
struct_within inner a = record a { de = record a.de { now = record a.de.now { room = inner } } }

-- they are the content of a variant: opened as by a reader of its own that has the content's room
pub record OpensStructIn {R C : Type 0} (g : Ghosts R) (names : List (List ℕ)) (inner : ℕ) (old : Deserializer R C) (a : FieldAccess R C) : Type 0 where
  pub opens : OpensStruct g names (part_reader old inner) (struct_within inner a)
  pub stays : Stays g old a.de.now

-- the content of a variant is none, or has no fields
pub record FailsToOpenStructOf {R C : Type 0} (g : Ghosts R) (v : Variant R C) (last : Deserializer R C) (e : Error) : Type 0 where
  pub err : RefusesContentOf g true (λ human. Readable (λ m (u : Unit {0}). HasFields m)) v last e
  pub bare : v.bare ≡ true → (e ≡ Syntax InvalidType) × (last ≡ v.de.now)
  pub exact : v.bare ≡ false → ContentRefusedBy g (λ strict. RefusesBy strict (not_fields (max 1 v.inner))) v last e

-- ---- the place of the next field

-- a key that is of no name was read, and its value passed over
pub record PassesPair {R C : Type 0} (g : Ghosts R) (names : List (List ℕ)) (old new : MapAccess R C) : Type 0 where
  pub key : MapAccess R C
  pub named : TakesKey g (IsName names) old key None
  pub value : TakesValue g any_tree key new tt
  pub key_same : key.de.ghost_name ≡ old.de.ghost_name
  pub value_same : new.de.ghost_name ≡ key.de.ghost_name

-- so many of them, one after another
abbrev pub Passes : {R C : Type 0} → Ghosts R → List (List ℕ) → ℕ → MapAccess R C → MapAccess R C → Type 0
Passes g names zero old new = new ≡ old
Passes {R} {C} g names (suc n) old new = (mid : MapAccess R C) × Passes g names n old mid × PassesPair g names mid new

-- after pairs of no name a key was read, of the name at that place
pub record TakesName {R C : Type 0} (g : Ghosts R) (names : List (List ℕ)) (place : ℕ) (old new : MapAccess R C) : Type 0 where
  pub many : ℕ
  pub mid : MapAccess R C
  pub passed : Passes g names many old mid
  pub named : TakesKey g (IsName names) mid new (Some place)
  pub same_reference : new.de.ghost_name ≡ mid.de.ghost_name

-- what pairs were left were of no name, and were passed over
pub record NoName {R C : Type 0} (g : Ghosts R) (names : List (List ℕ)) (old new : MapAccess R C) : Type 0 where
  pub many : ℕ
  pub passed : Passes g names many old new
  pub none : new.left ≡ 0
  pub at_key : new.owes ≡ false
  pub still : IsMapOpen new

-- the field at that place wasn't met before, and now is
pub record Meets {R C : Type 0} (place : ℕ) (old new : FieldAccess R C) : Type 0 where
  pub first : bit_at old.met place ≡ 0
  pub met : bit_at new.met place ≡ 1
  pub others : (n : ℕ) → n ≢ place → bit_at new.met n ≡ bit_at old.met n

-- from a map a key was taken, and from a list nothing: the place is how many elements have begun
abbrev pub TakesPlaceAs : {R C : Type 0} → Bool → Ghosts R → ℕ → FieldAccess R C → FieldAccess R C → Type 0
TakesPlaceAs true g place old new = TakesName g (names_in old) place (as_map old) (as_map new) × Meets place old new
TakesPlaceAs false g place old new = (place ≡ old.count - old.left) × (0 < old.left) × (new ≡ record old { left = old.left - 1; owes = true })

pub record TakesPlace {R C : Type 0} (g : Ghosts R) (old new : FieldAccess R C) (place : ℕ) : Type 0 where
  pub below : place < length (names_in old)
  pub by : TakesPlaceAs old.is_map g place old new
  pub owes : new.owes ≡ true
  pub still : IsStructOpen new

-- no pair of a map is left, or as many elements of a list as there are names have begun
abbrev pub NoPlaceAs : {R C : Type 0} → Bool → Ghosts R → FieldAccess R C → FieldAccess R C → Type 0
NoPlaceAs true g old new = NoName g (names_in old) (as_map old) (as_map new) × (new.met ≡ old.met)
NoPlaceAs false g old new = (length (names_in old) ≤ old.count - old.left) × (new ≡ old)

pub record NoPlace {R C : Type 0} (g : Ghosts R) (old new : FieldAccess R C) : Type 0 where
  pub by : NoPlaceAs old.is_map g old new
  pub at_field : new.owes ≡ false
  pub still : IsStructOpen new

-- there was a pair, whose key was refused
pub record FailsKey {R C : Type 0} (g : Ghosts R) (human lends : Bool) (names : List (List ℕ)) (old new : MapAccess R C) (e : Error) : Type 0 where
  pub some : 0 < old.left
  pub part : FailsPart g (IsName names) (map_inner old) old.de.now new.de.now e
  pub refused : EntryRefused g human lends name_refusal old new e

-- a value couldn't be passed over
pub record FailsToPass {R C : Type 0} (g : Ghosts R) (human lends : Bool) (old new : MapAccess R C) (e : Error) : Type 0 where
  pub part : FailsPart g any_tree (map_inner old) old.de.now new.de.now e
  pub refused : EntryRefused g human lends pass_refusal old new e

-- the same after a key of no name
pub record FailsAfter {R C : Type 0} (g : Ghosts R) (human lends : Bool) (names : List (List ℕ)) (old new : MapAccess R C) (e : Error) : Type 0 where
  pub key : MapAccess R C
  pub named : TakesKey g (IsName names) old key None
  pub same_reference : key.de.ghost_name ≡ old.de.ghost_name
  pub value : FailsToPass g human lends key new e

-- after pairs of no name a key was refused, or the value of one of no name couldn't be skipped
pub record FailsName {R C : Type 0} (g : Ghosts R) (human lends : Bool) (names : List (List ℕ)) (old new : MapAccess R C) (e : Error) : Type 0 where
  pub many : ℕ
  pub mid : MapAccess R C
  pub passed : Passes g names many old mid
  pub pair : FailsKey g human lends names mid new e ⊎ FailsAfter g human lends names mid new e

-- all that the read of the next name of a map promises
pub record ReadsName {R C : Type 0} (g : Ghosts R) (human lends : Bool) (old new : FieldAccess R C) (result : Result (Option ℕ) Error) : Type 0 where
  pub same_reference : new.de.ghost_name ≡ old.de.ghost_name
  pub same : SameStruct old new
  pub met : new.met ≡ old.met
  pub answers : IsMapOpen (as_map old)
      → MatchResult result (λ o. MatchOption o (NoName g (names_in old) (as_map old) (as_map new)) (λ place. TakesName g (names_in old) place (as_map old) (as_map new)))
      (FailsName g human lends (names_in old) (as_map old) (as_map new))
  pub fewer : IfOk result (λ o. IfSome o (λ place. new.left < old.left))
  pub failed : OnErr result (new.sound ≡ false)

-- a key was read of a field that was met before
pub record MeetsAgain {R C : Type 0} (g : Ghosts R) (old new : FieldAccess R C) (e : Error) : Type 0 where
  pub place : ℕ
  pub key : MapAccess R C
  pub named : TakesName g (names_in old) place (as_map old) key
  pub met : bit_at old.met place ≡ 1
  pub error : e ≡ Syntax DuplicateField
  pub same : new.de.now ≡ key.de.now

-- a list has fewer elements than there are names
pub record EndsEarly {R C : Type 0} (old new : FieldAccess R C) (e : Error) : Type 0 where
  pub none : old.left ≡ 0
  pub short : old.count < length (names_in old)
  pub error : e ≡ Syntax InvalidLength
  pub same : new.de.now ≡ old.de.now

abbrev pub FailsPlaceAs : {R C : Type 0} → Bool → Ghosts R → Bool → Bool → FieldAccess R C → FieldAccess R C → Error → Type 0
FailsPlaceAs true g human lends old new e = FailsName g human lends (names_in old) (as_map old) (as_map new) e ⊎ MeetsAgain g old new e
FailsPlaceAs false g human lends old new e = EndsEarly old new e

abbrev pub FailsPlace : {R C : Type 0} → Ghosts R → Bool → Bool → FieldAccess R C → FieldAccess R C → Error → Type 0
FailsPlace g human lends old new e = FailsPlaceAs old.is_map g human lends old new e

-- ---- the value of a field

abbrev pub TakesFieldAs : {R C V : Type 0} → Bool → Ghosts R → (Msg → V → Type 0) → FieldAccess R C → FieldAccess R C → V → Type 0
TakesFieldAs true g reads old new v = TakesValue g reads (as_map old) (as_map new) v
TakesFieldAs false g reads old new v = TakesElement g reads (as_seq old) (as_seq new) v

-- the value of the field was read whose place was answered
pub record TakesField {R C V : Type 0} (g : Ghosts R) (reads : Msg → V → Type 0) (old new : FieldAccess R C) (v : V) : Type 0 where
  pub by : TakesFieldAs old.is_map g reads old new v
  pub met : new.met ≡ old.met
  pub owes : new.owes ≡ false
  pub still : IsStructOpen new

abbrev pub FailsFieldAs : {R C V : Type 0} → Bool → Ghosts R → (Msg → V → Type 0) → FieldAccess R C → FieldAccess R C → Error → Type 0
FailsFieldAs true g reads old new e = FailsPart g reads (map_inner (as_map old)) old.de.now new.de.now e
FailsFieldAs false g reads old new e = FailsToTake g reads (as_seq old) (as_seq new) e

-- it was refused
abbrev pub FailsField : {R C V : Type 0} → Ghosts R → (Msg → V → Type 0) → FieldAccess R C → FieldAccess R C → Error → Type 0
FailsField g reads old new e = FailsFieldAs old.is_map g reads old new e × (new.de.now.failed ≡ true)

abbrev pub ValueRefusedAs : {R C : Type 0} → Bool → Ghosts R → Bool → Bool → (Setting → Refusals) → FieldAccess R C → FieldAccess R C → Error → Type 0
ValueRefusedAs true g human lends P old new e = EntryRefused g human lends P (as_map old) (as_map new) e
ValueRefusedAs false g human lends P old new e = ElementRefused g human lends P (as_seq old) (as_seq new) (left g old.de.now) e

-- which error it is
abbrev pub ValueRefused : {R C : Type 0} → Ghosts R → Bool → Bool → (Setting → Refusals) → FieldAccess R C → FieldAccess R C → Error → Type 0
ValueRefused g human lends P old new e = ValueRefusedAs old.is_map g human lends P old new e

-- ---- the value of a field, by a function

-- f may be called on the value of the field whose place was answered
abbrev pub CanReadField : {F R C X : Type 0} → Ghosts R → Reading F R C X → F → FieldAccess R C → Type 0
CanReadField g once f a = CanRead g once f (as_seq a)

-- an answer, as that of an element that was there
abbrev pub as_element : {X : Type 0} → Result X Error → Result (Option X) Error
as_element (Ok x) = Ok (Some x)
as_element (Err e) = Err e

-- of a map it was offered to f as a value, and of a list as an element, unless the bytes ended before it
abbrev pub FieldReadAs : {F R C X : Type 0} → Bool → Ghosts R → Reading F R C X → F → FieldAccess R C → FieldAccess R C → Result X Error → Type 0
FieldReadAs true g once f old new result = ValueRead once f (as_map old) (as_map new) result
FieldReadAs false g once f old new result = PartRead g once f (as_seq old) (as_seq new) (as_element result)
    ⊎ PartMissing g (as_seq old) (as_seq new) (as_element result)

-- the value of the field whose place was answered was offered to f
pub record FieldRead {F R C X : Type 0} (g : Ghosts R) (once : Reading F R C X) (f : F) (old new : FieldAccess R C) (result : Result X Error) : Type 0 where
  pub by : FieldReadAs old.is_map g once f old new result
  pub met : new.met ≡ old.met
