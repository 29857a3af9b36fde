-- What an explained refusal says.
use Rattle.std.specs.Prelude.{◌≡◌, ◌⊎◌, ℕ, ◌-◌, ◌≤◌, List, ◌++◌, length, drop, Option, Some, None, MatchOption, IsUtf8, String}
use Rattle.std.specs.Option.{option_map}
use Rattle.std.specs.String.{string_bytes}
use Rattle.std.specs.declared.alloc.Global.{Global}
use Rattle.rmp_wire.specs.Heads.{IsHead}
use Rattle.rmp_wire.specs.Reading.{NoHead}
use Rattle.rmp_wire.specs.declared.head.Head.{Head}
use Rattle.rmp_wire.specs.declared.head.Head.TheVariants as heads
use Rattle.rmp_wire.specs.declared.marker.Marker.TheVariants.{Reserved}
use Rattle.rmp_decode.specs.declared.error.Error.{Error}
use Rattle.rmp_decode.specs.declared.error.Error.TheVariants as errors
use Rattle.rmp_decode.specs.declared.text.Text.TheVariants.{DuplicateField, UnknownVariant}
use Rattle.rmp_decode.specs.Words.{field_of}
use Rattle.rmp_path.specs.Places.{Locates, IsOutward}
use Rattle.rmp_path.specs.declared.location.Location.{Location}
use Rattle.rmp_serde.specs.Paths.{IsPathOf}
use Rattle.rmp_serde.specs.declared.refusal.Explained.{Explained}
use Rattle.rmp_serde.specs.declared.path.Path.{Path}
use Rattle.rmp_serde.specs.declared.value.kind.Kind.{Kind}
use Rattle.rmp_serde.specs.declared.value.kind.Kind.TheVariants as kinds

abbrev pub error_in : Explained → Error
error_in e = e.error

abbrev pub position_in : Explained → ℕ
position_in e = e.position

abbrev pub path_in : Explained → Option Path
path_in e = e.path

abbrev pub head_in : Explained → Option Head
head_in e = e.head

-- the name of a field that is missing, or else the one that was found in the message
abbrev pub told_name : Option (List ℕ) → Option (String Global) → Option (List ℕ)
told_name (Some name) found = Some name
told_name None found = option_map string_bytes found

abbrev pub name_in : Explained → Option (List ℕ)
name_in e = told_name (field_of e.error) e.found

-- the kind of the message that a head begins
abbrev pub kind_begun : Head → Kind
kind_begun heads.Nil = kinds.Nil
kind_begun (heads.Truth t) = kinds.Truth
kind_begun (heads.Whole z) = kinds.Whole
kind_begun (heads.F32Bits n) = kinds.F32
kind_begun (heads.F64Bits n) = kinds.F64
kind_begun (heads.Text n) = kinds.Text
kind_begun (heads.Bin n) = kinds.Bytes
kind_begun (heads.Array n) = kinds.List
kind_begun (heads.Map n) = kinds.Map
kind_begun (heads.Ext n tag) = kinds.Ext

-- the bytes begin with this head, or with no whole one
abbrev pub BeginsWith : List ℕ → Option Head → Type 0
BeginsWith xs (Some h) = (head rest : List ℕ) × (xs ≡ head ++ rest) × IsHead h head
BeginsWith xs None = NoHead (Some xs)

-- the part at the last byte that was consumed, as many levels inside of the message as were counted
abbrev pub IsInside : List ℕ → ℕ → ℕ → Location → Type 0
IsInside input position levels found = (inner : Location) × Locates input (position - 1) inner × IsOutward levels inner found

-- The refused part, by the error: where the bytes end, the innermost one at their end; where a head is wrong, the innermost one at the last byte that was
-- consumed; and otherwise the one at that byte which is as many levels inside of the message as were counted.
abbrev pub Refuses : List ℕ → ℕ → ℕ → Error → Location → Type 0
Refuses input position levels (errors.InvalidMarkerRead fault) found = Locates input (length input) found
Refuses input position levels (errors.InvalidDataRead fault) found = Locates input (length input) found
Refuses input position levels (errors.TypeMismatch m) found =
    ((m ≡ Reserved) × Locates input (position - 1) found) ⊎ IsInside input position levels found
Refuses input position levels errors.DepthLimitExceeded found = Locates input (position - 1) found
Refuses input position levels errors.NotCanonical found = Locates input (position - 1) found
Refuses input position levels errors.OutOfRange found = IsInside input position levels found
Refuses input position levels (errors.LengthMismatch n) found = IsInside input position levels found
Refuses input position levels (errors.Uncategorized text) found = IsInside input position levels found
Refuses input position levels (errors.Syntax text) found = IsInside input position levels found
Refuses input position levels (errors.Utf8Error e) found = IsInside input position levels found
Refuses input position levels errors.OutOfMemory found = IsInside input position levels found

-- the head is that of the text s, which follows it
pub record TextFollows (h : Head) (rest s : List ℕ) : Type 0 where
  pub more : List ℕ
  pub is_text : h ≡ heads.Text (length s)
  pub split : rest ≡ s ++ more

-- the head and the bytes after it are those of this text, or of none that is UTF-8
abbrev pub IsTextAfter : Head → List ℕ → Option (String Global) → Type 0
IsTextAfter h rest (Some s) = TextFollows h rest (string_bytes s)
IsTextAfter h rest None = (s : List ℕ) → TextFollows h rest s → IsUtf8 s → ⊥

-- the bytes begin with the text s
pub record BeginsText (s xs : List ℕ) : Type 0 where
  pub head : List ℕ
  pub rest : List ℕ
  pub front : xs ≡ head ++ (s ++ rest)
  pub is_head : IsHead (heads.Text (length s)) head

-- the bytes begin with this text, or with none that is UTF-8
abbrev pub IsTextAt : List ℕ → Option (String Global) → Type 0
IsTextAt xs (Some s) = BeginsText (string_bytes s) xs
IsTextAt xs None = (s : List ℕ) → BeginsText s xs → IsUtf8 s → ⊥

-- the text that is the part at the last byte that was consumed, if it is one
abbrev pub FindsText : List ℕ → ℕ → Option (String Global) → Type 0
FindsText input position n = (inner : Location) × Locates input (position - 1) inner × IsTextAt (drop inner.place input) n

-- the name in the message that the error is about: of a field that comes twice, or of a variant that is unknown
abbrev pub FindsName : List ℕ → ℕ → Error → Option (String Global) → Type 0
FindsName input position (errors.Syntax DuplicateField) n = FindsText input position n
FindsName input position (errors.Syntax UnknownVariant) n = FindsText input position n
FindsName input position e n = n ≡ None

-- the path to the refused part, the head that is there, and the name that the error is about
pub record NamesPart (input : List ℕ) (position levels : ℕ) (error : Error) (h : Option Head) (n : Option (String Global)) (p : Path) : Type 0 where
  pub found : Location
  pub refused : Refuses input position levels error found
  pub path : IsPathOf input found p
  pub head : BeginsWith (drop found.place input) h
  pub name : FindsName input position error n

-- the error as it was, and the path to the refused part with what is there, unless memory for it was refused
pub record Explains (input : List ℕ) (position levels : ℕ) (error : Error) (e : Explained) : Type 0 where
  pub same : e.error ≡ error
  pub at : e.position ≡ position
  pub path : MatchOption e.path ((e.head ≡ None) × (e.found ≡ None)) (NamesPart input position levels error e.head e.found)

-- A read's error, explained. Where the bytes end, the part is the one at their end. Otherwise it is told by a position within the input and by a
-- number of levels, which are the reader's: no law of reads says where a failed one stopped, nor at which level.
pub record ExplainsRead (input : List ℕ) (e : Explained) : Type 0 where
  pub within : e.position ≤ length input
  pub levels : ℕ
  pub explains : Explains input e.position levels e.error e
