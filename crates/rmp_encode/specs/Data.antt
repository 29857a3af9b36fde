-- What a value is, as the kinds of calls that lower it, and the message that it lowers to.
use Rattle.std.specs.Prelude.{ℕ, ℤ, pos, List, [], ◌∷◌, length, Bool, true, false, ◌&&◌, ◌||◌, nat_le, Option, Some, None, encode_utf8}
use Rattle.std.specs.List.{list_any}
use Rattle.std.specs.Int.{w128, to_be_bytes, cast_unsigned}
use Rattle.rmp_wire.specs.Msg as msg
use Rattle.rmp_wire.specs.Msg.{Msg, Msgs, Pairs}
use Rattle.rmp_encode.specs.declared.settings.Settings.{Settings}
use Rattle.rmp_wire.specs.declared.config.BytesMode.{BytesMode}
use Rattle.rmp_wire.specs.declared.config.BytesMode.TheVariants.{Normal, ForceIterables, ForceAll}

-- A value, by the call that writes it.
mutual
  pub data Data : Type 0 where
    unit : Data  -- unit and none
    truth : Bool → Data
    byte : ℕ → Data  -- a `u8`
    whole : ℤ → Data  -- any other whole number of up to 64 bits
    unsigned128 : ℕ → Data
    signed128 : ℤ → Data
    float32 : ℕ → Data  -- the bits of a float
    float64 : ℕ → Data
    char : ℕ → Data
    text : List ℕ → Data
    bytes : List ℕ → Data
    wrapped : Data → Data  -- some, and a newtype struct
    unit_struct : Data
    sequence : Parts → Data  -- a sequence and a tuple struct
    slice : Parts → Data  -- the items of a slice or a `Vec`
    tuple : Parts → Data  -- a tuple and an array
    mapping : Entries → Data
    structure : Fields → Data
    unit_variant : List ℕ → Data
    newtype_variant : List ℕ → Data → Data
    tuple_variant : List ℕ → Parts → Data
    struct_variant : List ℕ → Fields → Data
    extension : ℤ → List ℕ → Data

  pub data Parts : Type 0 where
    no_parts : Parts
    part : Data → Parts → Parts

  pub data Entries : Type 0 where
    no_entries : Entries
    entry : Data → Data → Entries → Entries

  -- each a name and a value
  pub data Fields : Type 0 where
    no_fields : Fields
    field : List ℕ → Data → Fields → Fields

-- the byte, if the value is a `u8`
abbrev pub byte_in : Data → Option ℕ
byte_in (byte n) = Some n
byte_in d = None

-- a byte before other bytes, if each is there
abbrev pub push_byte : Option ℕ → Option (List ℕ) → Option (List ℕ)
push_byte None o = None
push_byte (Some b) None = None
push_byte (Some b) (Some s) = Some (b ∷ s)

-- the bytes that the parts are, if each is a `u8`
abbrev pub all_bytes : Parts → Option (List ℕ)
all_bytes no_parts = Some []
all_bytes (part d ds) = push_byte (byte_in d) (all_bytes ds)

-- whether the items of a slice that are these bytes are written as bytes
unfoldable pub packs_slice : BytesMode → List ℕ → Bool
packs_slice Normal s = false
packs_slice ForceIterables s = nat_le 1 (length s)
packs_slice ForceAll s = nat_le 1 (length s)

-- whether the parts of a tuple that are these bytes are written as bytes, which are no longer there than a list of numbers
unfoldable pub packs_tuple : BytesMode → List ℕ → Bool
packs_tuple Normal s = false
packs_tuple ForceIterables s = false
packs_tuple ForceAll s = nat_le 1 (length s) && (nat_le 16 (length s) || list_any (nat_le 128) s)

-- these bytes, or this list
abbrev pub bin_or_list : Bool → List ℕ → Msgs → Msg
bin_or_list true s ms = msg.bin s
bin_or_list false s ms = msg.list ms

-- bytes, if the parts are bytes that are packed, and the list otherwise
abbrev pub packed : (List ℕ → Bool) → Option (List ℕ) → Msgs → Msg
packed packs None ms = msg.list ms
packed packs (Some s) ms = bin_or_list (packs s) s ms

-- a struct: with names a map from each name, and the list of the values otherwise
abbrev pub map_or_list : Bool → Pairs → Msgs → Msg
map_or_list true ps ms = msg.map ps
map_or_list false ps ms = msg.list ms

-- a map of one pair, from a name
abbrev pub variant : List ℕ → Msg → Msg
variant name m = msg.map (msg.pair (msg.text name) m msg.no_pairs)

-- the message that a value is written as
unfoldable mutual
  pub lower : Settings → Data → Msg
  lower s unit = msg.nil
  lower s (truth t) = msg.truth t
  lower s (byte n) = msg.whole (pos n)
  lower s (whole z) = msg.whole z
  lower s (unsigned128 n) = msg.bin (to_be_bytes w128 n)
  lower s (signed128 z) = msg.bin (to_be_bytes w128 (cast_unsigned w128 z))
  lower s (float32 n) = msg.float32 n
  lower s (float64 n) = msg.float64 n
  lower s (char n) = msg.text (encode_utf8 n)
  lower s (text t) = msg.text t
  lower s (bytes t) = msg.bin t
  lower s (wrapped d) = lower s d
  lower s unit_struct = msg.list msg.no_items
  lower s (sequence ds) = msg.list (lower_parts s ds)
  lower s (slice ds) = packed (packs_slice s.bytes) (all_bytes ds) (lower_parts s ds)
  lower s (tuple ds) = packed (packs_tuple s.bytes) (all_bytes ds) (lower_parts s ds)
  lower s (mapping es) = msg.map (lower_entries s es)
  lower s (structure fs) = map_or_list s.named (lower_named s fs) (lower_values s fs)
  lower s (unit_variant name) = msg.text name
  lower s (newtype_variant name d) = variant name (lower s d)
  lower s (tuple_variant name ds) = variant name (msg.list (lower_parts s ds))
  lower s (struct_variant name fs) = variant name (map_or_list s.named (lower_named s fs) (lower_values s fs))
  lower s (extension tag t) = msg.extension tag t

  pub lower_parts : Settings → Parts → Msgs
  lower_parts s no_parts = msg.no_items
  lower_parts s (part d ds) = msg.item (lower s d) (lower_parts s ds)

  pub lower_entries : Settings → Entries → Pairs
  lower_entries s no_entries = msg.no_pairs
  lower_entries s (entry k v es) = msg.pair (lower s k) (lower s v) (lower_entries s es)

  pub lower_named : Settings → Fields → Pairs
  lower_named s no_fields = msg.no_pairs
  lower_named s (field name d fs) = msg.pair (msg.text name) (lower s d) (lower_named s fs)

  pub lower_values : Settings → Fields → Msgs
  lower_values s no_fields = msg.no_items
  lower_values s (field name d fs) = msg.item (lower s d) (lower_values s fs)
