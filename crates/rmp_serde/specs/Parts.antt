-- The parts of a tree.
use Rattle.std.specs.Prelude.{ℕ, suc, ◌*◌, ◌^◌, nat_lt, ℤ, pos, negsuc, Bool, if◌then◌else◌, List, [], Option, Some, None, slice_get}
use Rattle.rmp_wire.specs.Msg.{Msg, nil, truth, whole, float32, float64, text, bin, list, map, extension, Msgs, count, count_pairs, items_of, pairs_of}
use Rattle.rmp_serde.specs.Tokens.{flat_pairs, first_tree, row_from}
use Rattle.rmp_serde.specs.declared.value.kind.Kind.{Kind}
use Rattle.rmp_serde.specs.declared.value.kind.Kind.TheVariants as kinds
use Rattle.rmp_serde.specs.declared.value.reference.ValueRef.{ValueRef}

-- the messages of the value from the reference's index on, in order
abbrev pub row_at : ValueRef → Msgs
row_at v = row_from v.value.now v.at

-- the messages after the head at that index
abbrev pub row_after : ValueRef → Msgs
row_after v = row_from v.value.now (suc v.at)

-- the tree of a reference: the one whose heads begin at the reference's index among those of the whole
abbrev pub tree : ValueRef → Msg
tree v = first_tree (row_at v)

abbrev pub kind_of : Msg → Kind
kind_of nil = kinds.Nil
kind_of (truth t) = kinds.Truth
kind_of (whole z) = kinds.Whole
kind_of (float32 n) = kinds.F32
kind_of (float64 n) = kinds.F64
kind_of (text s) = kinds.Text
kind_of (bin s) = kinds.Bytes
kind_of (list ms) = kinds.List
kind_of (map ps) = kinds.Map
kind_of (extension tag s) = kinds.Ext

abbrev pub truth_of : Msg → Option Bool
truth_of (truth t) = Some t
truth_of _ = None

abbrev pub whole_of : Msg → Option ℤ
whole_of (whole z) = Some z
whole_of _ = None

-- a number from 0 on; in a value it is below 2^64
abbrev pub natural_of : Msg → Option ℕ
natural_of (whole (pos n)) = Some n
natural_of _ = None

-- a number below 2^63; in a value one below 0 is from -2^63 on
abbrev pub signed_of : Msg → Option ℤ
signed_of (whole (pos n)) = if nat_lt n (2 ^ 63) then Some (pos n) else None
signed_of (whole (negsuc n)) = Some (negsuc n)
signed_of _ = None

-- the bits of a 32-bit float
abbrev pub float32_of : Msg → Option ℕ
float32_of (float32 n) = Some n
float32_of _ = None

-- the bits of a 64-bit float
abbrev pub float64_of : Msg → Option ℕ
float64_of (float64 n) = Some n
float64_of _ = None

abbrev pub text_of : Msg → Option (List ℕ)
text_of (text s) = Some s
text_of _ = None

abbrev pub bytes_of : Msg → Option (List ℕ)
bytes_of (bin s) = Some s
bytes_of _ = None

-- an extension's type and its bytes
abbrev pub extension_of : Msg → Option (ℤ × List ℕ)
extension_of (extension tag s) = Some (tag, s)
extension_of _ = None

-- the number of items of a list, or of pairs of a map; 0 for any other kind
abbrev pub parts_count : Msg → ℕ
parts_count (list ms) = count ms
parts_count (map ps) = count_pairs ps
parts_count _ = 0

-- a list's item at an index, which starts at 0
abbrev pub item_of : Msg → ℕ → Option Msg
item_of (list ms) i = slice_get (items_of ms) i
item_of _ i = None

-- the key and the value of a map's pair at an index, which starts at 0
abbrev pub pair_of : Msg → ℕ → Option (Msg × Msg)
pair_of (map ps) i = slice_get (pairs_of ps) i
pair_of _ i = None

-- the content of a text, of bytes or of an extension
abbrev pub content_of : Msg → List ℕ
content_of (text s) = s
content_of (bin s) = s
content_of (extension tag s) = s
content_of _ = []

-- how many messages a list or a map contains; each pair of a map counts as two
abbrev pub parts_of : Msg → ℕ
parts_of (list ms) = count ms
parts_of (map ps) = 2 * count_pairs ps
parts_of _ = 0

-- the items of a list, or the keys and values of a map in turn
abbrev pub parts_in_turn : Msg → List Msg
parts_in_turn (list ms) = items_of ms
parts_in_turn (map ps) = items_of (flat_pairs ps)
parts_in_turn _ = []
