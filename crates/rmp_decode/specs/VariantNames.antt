-- Which messages select a variant, and the error where none is selected.
use Rattle.std.specs.Prelude.{◌≡◌, ◌≢◌, ℕ, ℤ, pos, Bool, true, List, ◌++◌, length, Option, Some, IfSome, Result, Ok, IfOk, IfErr}
use Rattle.std.specs.Io.KnownBytes.{Consumes}
use Rattle.rmp_wire.specs.declared.head.Head.{Head}
use Rattle.rmp_wire.specs.declared.head.Head.TheVariants.{Text, Whole}
use Rattle.rmp_wire.specs.declared.marker.Marker.{Marker}
use Rattle.rmp_wire.specs.declared.source.Source.{Ghosts}
use Rattle.rmp_wire.specs.Msg.{Msg}
use Rattle.rmp_wire.specs.Spelling.{IsBytes}
use Rattle.rmp_decode.specs.Content.{IsRawHead, ByUtf8, RefusesContent, RefusesLeaf}
use Rattle.rmp_decode.specs.Exact.{IsUtf8Error}
use Rattle.rmp_decode.specs.Law.{Lawful, ReadsHead}
use Rattle.rmp_decode.specs.Names.{place_of, place_below, IsName}
use Rattle.rmp_decode.specs.Refusing.{Refusals}
use Rattle.rmp_decode.specs.declared.deserializer.Deserializer.{Deserializer}
use Rattle.rmp_decode.specs.declared.error.Error.{Error}
use Rattle.rmp_decode.specs.declared.error.Error.TheVariants.{OutOfMemory, Syntax}
use Rattle.rmp_decode.specs.declared.text.Text.TheVariants.{InvalidType, UnknownVariant}

-- the name of the variant at that place
abbrev pub IsPlace : List (List ℕ) → Msg → ℕ → Type 0
IsPlace names m n = IsName names m (Some n)

-- so many bytes were taken, and are the name at that place
pub record TakesName (names : List (List ℕ)) (len : ℕ) (old new : Option (List ℕ)) (n : ℕ) : Type 0 where
  pub bytes : List ℕ
  pub long : length bytes ≡ len
  pub are_bytes : IsBytes bytes
  pub taken : Consumes old new bytes
  pub place : place_of names bytes ≡ Some n

-- where the bytes are told, they don't begin with so many that are a name
abbrev pub StartsWithNoName : List (List ℕ) → ℕ → Option (List ℕ) → Type 0
StartsWithNoName names len known =
    IfSome known (λ xs. (s r : List ℕ) (n : ℕ) → xs ≡ s ++ r → length s ≡ len → place_of names s ≡ Some n → ⊥)

-- how a message is refused where the name of a variant is wanted: a number from 0 on that is no place, and another kind
abbrev pub other_name : Marker → Head → Error
other_name m (Whole (pos n)) = Syntax UnknownVariant
other_name m h = Syntax InvalidType

-- and a text or bytes that are no name
abbrev pub unknown_name : Head → List ℕ → Error → Type 0
unknown_name (Text n) s e = ByUtf8 s (e ≡ Syntax UnknownVariant) (IsUtf8Error e)
unknown_name h s e = e ≡ Syntax UnknownVariant

-- how a name is refused
abbrev pub RefusesName : Bool → Refusals
RefusesName strict = RefusesContent strict IsRawHead other_name unknown_name

-- ---- all that a read promises

-- of the place that a number is, whose head was taken
pub record PlacesNumber (count : ℕ) (h : Head) (result : Result ℕ Error) : Type 0 where
  pub ok : IfOk result (λ n. (z : ℤ) × (h ≡ Whole z) × (place_below count z ≡ Some (Some n)))
  pub err : IfErr result (λ e. (z : ℤ) (n : ℕ) → h ≡ Whole z → place_below count z ≢ Some (Some n))
  pub exact : (IsRawHead h → ⊥) → IfErr result (λ e. (m : Marker) → e ≡ other_name m h)
  pub memory : IfErr result (λ e. e ≢ OutOfMemory)

-- of the place of a variant, by its name
pub record ReadsPlace {R C : Type 0} (g : Ghosts R) (names : List (List ℕ)) (lends : Bool) (old new : Deserializer R C) (result : Result ℕ Error) : Type
    0 where
  pub law : Lawful g (IsPlace names) old new result
  pub exact : RefusesLeaf g IsRawHead other_name unknown_name old new result
  pub memory : lends ≡ true → IfErr result (λ e. e ≢ OutOfMemory)

-- the same of the rest of a read, whose beginning took this head
abbrev pub ReadsPlaceRest : {R C : Type 0} → Ghosts R → List (List ℕ) → Bool → Head → Deserializer R C → Deserializer R C → Result ℕ Error → Type 0
ReadsPlaceRest {R} {C} g names lends h mid new result =
    (old : Deserializer R C) (m : Marker) → ReadsHead g old mid (Ok (m, h)) → ReadsPlace g names lends old new result
