-- The message tree of a value, `None` where the type refuses the value, and the tree's spelling.
use Rattle.std.specs.Prelude.{ℕ, ℤ, pos, List, [], ◌∷◌, ◌++◌, Bool, true, false, Option, None, Some, IsSomeAnd, cond, codes}
use Rattle.std.specs.Str.{bytes_eq}
use Rattle.std.specs.Borrow.{Bor}
use Rattle.std.specs.Option.{option_map}
use Rattle.rmp_wire.specs.declared.head.Head.TheVariants.{Whole, Array, Map, Ext}
use Rattle.rmp_wire.specs.Heads.{canon_head}
use Rattle.rmp_wire.specs.Msg as msg
use Rattle.rmp_wire.specs.Msg.{Msg}
use Rattle.rmp_wire.specs.Spelling.{canon, Fits}
use Rattle.rmp_encode.specs.declared.settings.Settings.{Settings}
use Rattle.rmp_wire.specs.declared.config.BytesMode.{BytesMode}
use Rattle.rmp_wire.specs.declared.config.BytesMode.TheVariants.{Normal, ForceIterables, ForceAll}
use Rattle.rmp_encode.specs.Data.{Data, unit, byte, wrapped, text, sequence, slice, tuple, mapping, structure, newtype_variant, tuple_variant}
use Rattle.rmp_encode.specs.Data.{struct_variant, Parts, no_parts, part}
use Rattle.rmp_encode.specs.Data.{Entries, no_entries, entry, Fields, no_fields, field, byte_in, lower}

-- there is a tree, and each number and length in it fits its head
unfoldable pub HasTree : Option Msg → Type 0
HasTree t = IsSomeAnd t Fits

-- the canonical spelling of the tree, and no bytes where there is none
unfoldable pub spell : Option Msg → List ℕ
spell None = []
spell (Some m) = canon m

-- the message of a value, if it isn't refused
abbrev pub tree_of : Settings → Option Data → Option Msg
tree_of s d = option_map (lower s) d

-- a value has a tree that fits, and the tree's spelling
abbrev pub Has : Settings → Option Data → Type 0
Has s d = HasTree (tree_of s d)

abbrev pub spelling : Settings → Option Data → List ℕ
spelling s d = spell (tree_of s d)

-- what a `Some` is, from what the value is
abbrev pub wrapped_of : Option Data → Option Data
wrapped_of d = option_map wrapped d

-- what an option is, from what the values are
abbrev pub option_of : {A : Type 0} → (A → Option Data) → Option A → Option Data
option_of f None = Some unit
option_of f (Some x) = wrapped_of (f x)

-- what a newtype struct is, from its name and from what its value is: the name of an extension is refused
abbrev pub newtype_of : List ℕ → Option Data → Option Data
newtype_of name d = cond (bytes_eq name (codes "_ExtStruct")) None (wrapped_of d)

-- the parts of a list of values, refused where one is
abbrev pub parts_of : List (Option Data) → Option Parts
parts_of [] = Some no_parts
parts_of (None ∷ ds) = None
parts_of (Some d ∷ ds) = option_map (part d) (parts_of ds)

unfoldable pub sequence_of : List (Option Data) → Option Data
sequence_of ds = option_map sequence (parts_of ds)

-- the entries of a map, from its keys and values in turn, refused where one is or where the last key has no value
abbrev pub entries_of : List (Option Data) → Option Entries
entries_of [] = Some no_entries
entries_of (None ∷ ds) = None
entries_of (Some k ∷ []) = None
entries_of (Some k ∷ (None ∷ ds)) = None
entries_of (Some k ∷ (Some v ∷ ds)) = option_map (entry k v) (entries_of ds)

-- keys and values in turn
abbrev pub in_turn : {K V : Type 0} → (K → Option Data) → (V → Option Data) → List (K × V) → List (Option Data)
in_turn k v [] = []
in_turn k v (e ∷ es) = k e.0 ∷ (v e.1 ∷ in_turn k v es)

unfoldable pub mapping_of : List (Option Data) → Option Data
mapping_of ds = option_map mapping (entries_of ds)

unfoldable pub slice_of : List (Option Data) → Option Data
slice_of ds = option_map slice (parts_of ds)

unfoldable pub tuple_of : List (Option Data) → Option Data
tuple_of ds = option_map tuple (parts_of ds)

-- a field before other fields, refused where one of them is
abbrev pub push_field : List ℕ → Option Data → Option Fields → Option Fields
push_field name None o = None
push_field name (Some d) o = option_map (field name d) o

-- the fields of a struct, each a name and a value, refused where a value is
abbrev pub fields_of : List (List ℕ × Option Data) → Option Fields
fields_of [] = Some no_fields
fields_of (f ∷ fs) = push_field f.0 f.1 (fields_of fs)

-- a struct of these fields
unfoldable pub structure_of : List (List ℕ × Option Data) → Option Data
structure_of fs = option_map structure (fields_of fs)

-- what is written of a field: its value, and with names its name before it
abbrev pub name_parts : Bool → List ℕ → List (Option Data)
name_parts true name = Some (text name) ∷ []
name_parts false name = []

abbrev pub field_parts : Bool → List ℕ × Option Data → List (Option Data)
field_parts named f = name_parts named f.0 ++ f.1 ∷ []

-- fields with these names and values, in order
abbrev pub fields_by : List (Bor (List ℕ)) → List (Option Data) → List (List ℕ × Option Data)
fields_by ns [] = []
fields_by [] (d ∷ ds) = []
fields_by (n ∷ ns) (d ∷ ds) = (n.now, d) ∷ fields_by ns ds

-- variants, by name and content
unfoldable pub newtype_variant_of : List ℕ → Option Data → Option Data
newtype_variant_of name d = option_map (newtype_variant name) d

unfoldable pub tuple_variant_of : List ℕ → List (Option Data) → Option Data
tuple_variant_of name ds = option_map (tuple_variant name) (parts_of ds)

unfoldable pub struct_variant_of : List ℕ → List (List ℕ × Option Data) → Option Data
struct_variant_of name fs = option_map (struct_variant name) (fields_of fs)

-- the byte, if the value is a `u8`
abbrev pub byte_of : Option Data → Option ℕ
byte_of None = None
byte_of (Some d) = byte_in d

-- the value of a byte
abbrev pub a_byte : ℕ → Option Data
a_byte b = Some (byte b)

-- whether a mode turns tuples, and slices, into bytes
abbrev pub forces_all : BytesMode → Bool
forces_all Normal = false
forces_all ForceIterables = false
forces_all ForceAll = true

abbrev pub forces_slices : BytesMode → Bool
forces_slices Normal = false
forces_slices ForceIterables = true
forces_slices ForceAll = true

-- the canonical heads of a list, a map, a number from 0 on, and an extension
abbrev pub array_head : ℕ → List ℕ
array_head n = canon_head (Array n)

abbrev pub map_head : ℕ → List ℕ
map_head n = canon_head (Map n)

-- what precedes a variant's content: the head of a map of one pair, and the name
abbrev pub variant_head : List ℕ → List ℕ
variant_head name = map_head 1 ++ canon (msg.text name)

-- the items at the opening of a variant's content, of which this is the head
abbrev pub variant_items : List ℕ → List ℕ → List (List ℕ)
variant_items name head = map_head 1 ∷ canon (msg.text name) ∷ head ∷ []

abbrev pub number_head : ℕ → List ℕ
number_head n = canon_head (Whole (pos n))

abbrev pub ext_head : ℕ → ℤ → List ℕ
ext_head n tag = canon_head (Ext n tag)
