-- Which error the read of fields answers, by those of their types.
use Rattle.std.specs.Option.{option_map}
use Rattle.std.specs.Prelude.{◌≡◌, ◌⊎◌, ℕ, zero, suc, ◌<◌, Bool, List, [], ◌∷◌, length, Option, Some, None, MatchOption, cond}
use Rattle.rmp_wire.specs.Msg.{Msg, Pairs}
use Rattle.rmp_decode.specs.Exact.{RefusesBy}
use Rattle.rmp_wire.specs.declared.source.Source.{Ghosts}
use Rattle.rmp_decode.specs.Fields.{blank, put, met, not_fields, name_refusal, BeginsSome, pass_refusal, Field, Absent, NoField, Slot, IsFull}
use Rattle.rmp_decode.specs.MapRefusing.{OpenedMap, AfterPairs, EntryRefused}
use Rattle.rmp_decode.specs.Names.{IsName}
use Rattle.rmp_decode.specs.Refusing.{Setting, Refusals, Part, part_of, AfterMessage, Opened, RefusesParts, Excess}
use Rattle.rmp_decode.specs.declared.access.map.MapAccess.{MapAccess}
use Rattle.rmp_decode.specs.declared.error.Error.{Error}
use Rattle.rmp_decode.specs.declared.error.Error.TheVariants.{Syntax}
use Rattle.rmp_decode.specs.declared.text.Text.TheVariants.{DuplicateField}
use Rattle.rmp_decode.specs.Words.{field_of, fitting}

-- each tree that is there is one that its field wants
abbrev pub PartsHold : Setting → List Part → List (Option Msg) → Type 0
PartsHold s [] [] = Unit {0}
PartsHold s [] (f ∷ fs) = ⊥
PartsHold s (p ∷ ps) [] = ⊥
PartsHold s (p ∷ ps) (None ∷ fs) = PartsHold s ps fs
PartsHold s (p ∷ ps) (Some m ∷ fs) = p.holds s m × PartsHold s ps fs

-- the value of the field at a place is refused so
abbrev pub FieldRefused : List Part → ℕ → Setting → Refusals
FieldRefused [] n s before after known e = ⊥
FieldRefused (p ∷ ps) zero s before after known e = p.refuses s before after known e
FieldRefused (p ∷ ps) (suc n) s before after known e = FieldRefused ps n s before after known e

-- the field at the place was met before: no tree may be put there
abbrev pub IsMet : ℕ → List (Option Msg) → Type 0
IsMet n fs = (m : Msg) → put n m fs ≡ None

-- After a key that names a field: the field was read before, or its value is refused.
abbrev pub NamedRefused : List Part → List (Option Msg) → ℕ → Setting → Refusals
NamedRefused ps fs n s before after known e = ((e ≡ Syntax DuplicateField) × IsMet n fs) ⊎ FieldRefused ps n s before after known e

-- There is a pair to come: its key says nothing, or is of no name, and its value can't be passed over, or names a field that is refused.
abbrev pub PairFails : List (List ℕ) → List Part → List (Option Msg) → Setting → ℕ → ℕ → ℕ → Option (List ℕ) → Error → Type 0
PairFails names ps fs s before after left known e =
    (0 < left) × (name_refusal s before after known e
    ⊎ AfterMessage s (λ k. IsName names k None) (pass_refusal s before after) known e
    ⊎ ((n : ℕ) × AfterMessage s (λ k. IsName names k (Some n)) (NamedRefused ps fs n s before after) known e))

-- the place of the first field that isn't there and is needed, since it has no default
abbrev pub missing_place : List Bool → List (Option Msg) → Option ℕ
missing_place [] fs = None
missing_place (b ∷ needed) [] = None
missing_place (b ∷ needed) (None ∷ fs) = cond b (Some 0) (option_map suc (missing_place needed fs))
missing_place (b ∷ needed) (Some m ∷ fs) = option_map suc (missing_place needed fs)

-- its name
abbrev pub missing_name : List (List ℕ) → List Bool → List (Option Msg) → Option (List ℕ)
missing_name [] needed fs = None
missing_name (name ∷ names) [] fs = None
missing_name (name ∷ names) (b ∷ needed) [] = None
missing_name (name ∷ names) (b ∷ needed) (None ∷ fs) = cond b (Some name) (missing_name names needed fs)
missing_name (name ∷ names) (b ∷ needed) (Some m ∷ fs) = missing_name names needed fs

-- No pair is to come, and a field is missing that has no default: the error has the name of the first one, or as much of it as fits.
abbrev pub Lacks : List (List ℕ) → List Bool → List (Option Msg) → ℕ → Error → Type 0
Lacks names needed fs left e = (left ≡ 0) × MatchOption (missing_name names needed fs) ⊥ (λ name. field_of e ≡ Some (fitting name))

-- pairs whose fields are these, each of them one that is wanted
abbrev pub AreMet : List (List ℕ) → List Part → List (Option Msg) → Setting → Pairs → Type 0
AreMet names ps fs s pairs = (met names (blank names) pairs ≡ Some fs) × PartsHold s ps fs

-- How fields of these names are refused, by which of them have no default: they can't be opened, an element of a list is refused or there are
-- more or fewer, or after some pairs of a map the next one is refused, or a field is missing.
unfoldable pub RefusesFields : List (List ℕ) → List Bool → List Part → Setting → Refusals
RefusesFields names needed ps s before after known e =
    RefusesBy s.strict (not_fields s.room) before after known e
    ⊎ Opened s (λ b i. RefusesParts b i before after ps (Excess (length ps))) known e
    ⊎ OpenedMap s (λ i n known e. (fs : List (Option Msg))
    × AfterPairs i (AreMet names ps fs i) n (λ left known e. PairFails names ps fs i before after left known e ⊎ Lacks names needed fs left e) known e)
    known e

-- after pairs of a map, and a key of no name, a list or a map begins that isn't empty
abbrev pub PassesSome : List (List ℕ) → Setting → Option (List ℕ) → Error → Type 0
PassesSome names s = OpenedMap s (λ i n. AfterPairs i (λ pairs. Unit {0}) n
    (λ left. AfterMessage i (λ k. IsName names k None) (λ rest e. BeginsSome i.strict rest)))

-- a value of a map's next pair was wanted for the field at a place: it was read before, or the value is refused
abbrev pub FillRefused : {R C S : Type 0} → Ghosts R → Bool → Bool → (List (Option Msg) → S → Type 0) → List Part → ℕ → MapAccess R C → MapAccess R C → S
    → Error → Type 0
FillRefused g human lends holds ps place old new s e = ((e ≡ Syntax DuplicateField) × IsFull holds place old new s)
    ⊎ EntryRefused g human lends (FieldRefused ps place) old new e

-- ---- what a pair's fields are

pub no_field_held : (s : Setting) (fs : List (Option Msg)) → NoField fs → PartsHold s [] fs
no_field_held s [] h = tt
no_field_held s (f ∷ fs) h = h

module _ {V W : Type 0} (reads : Bool → Bool → Msg → V → Type 0) (refuses : Setting → Refusals) (rest : Bool → Bool → List (Option Msg) → W
    → Type 0) (ps : List Part) (law : (s : Setting) (fs : List (Option Msg)) (w : W) → rest s.human s.lends fs w → PartsHold s ps fs) where
  pub slot_held : (s : Setting) (fs : List (Option Msg)) (o : Option V) (w : W) → Slot (reads s.human s.lends) (rest s.human s.lends) fs o w
      → PartsHold s (part_of reads refuses ∷ ps) fs
  slot_held s [] o w h = absurd h
  slot_held s (None ∷ fs) o w h = law s fs w h.1
  slot_held s (Some m ∷ fs) o w h = ((h.0.0, h.0.2), law s fs w h.1)

  pub field_held : (absent : Option V) (s : Setting) (fs : List (Option Msg)) (v : V) (w : W)
      → Field (λ k. reads s.human s.lends k v) (Absent absent v) (λ gs. rest s.human s.lends gs w) fs → PartsHold s (part_of reads refuses ∷ ps) fs
  field_held absent s [] v w h = absurd h
  field_held absent s (None ∷ fs) v w h = law s fs w h.1
  field_held absent s (Some m ∷ fs) v w h = ((v, h.0), law s fs w h.1)
