-- What bytes begin with: a marker, a head, and a message within a depth. Each is a function, since no head
-- begins a different head.
use Rattle.std.specs.Prelude.{
  ℕ,
  zero,
  suc,
  ◌+◌,
  ◌-◌,
  ◌%◌,
  List,
  [],
  ◌∷◌,
  cond,
  nat_lt,
  pos,
  negsuc,
  Option,
  Some,
  None,
  option_map,
  option_and_then,
  length,
  take,
  drop,
  slice_index_or,
  false,
  true,
}
use Rattle.std.specs.Int.{Width, w8, w16, w32, w64, from_be_bytes, byte_len, cast_signed, cast_unsigned}
use Rattle.rmp_wire.specs.declared.head.Head.{Head}
use Rattle.rmp_wire.specs.declared.head.Head.TheVariants.{Nil, Truth, Whole, F32Bits, F64Bits, Text, Bin, Array, Map, Ext}
use Rattle.rmp_wire.specs.Msg.{Msg, nil, truth, whole, float32, float64, text, bin, list, map, extension, Msgs, no_items, item, Pairs, no_pairs, pair}
use Rattle.rmp_wire.specs.declared.marker.Marker.{Marker}
use Rattle.rmp_wire.specs.declared.marker.Marker.TheVariants as marker

-- the markers from c0 to df
abbrev pub named_markers : List Marker
named_markers =
    marker.Null ∷ marker.Reserved ∷ marker.False ∷ marker.True ∷ marker.Bin8 ∷ marker.Bin16 ∷ marker.Bin32 ∷ marker.Ext8 ∷ marker.Ext16 ∷ marker.Ext32
    ∷ marker.F32 ∷ marker.F64 ∷ marker.U8 ∷ marker.U16 ∷ marker.U32 ∷ marker.U64 ∷ marker.I8 ∷ marker.I16 ∷ marker.I32 ∷ marker.I64
    ∷ marker.FixExt1 ∷ marker.FixExt2 ∷ marker.FixExt4 ∷ marker.FixExt8 ∷ marker.FixExt16 ∷ marker.Str8 ∷ marker.Str16 ∷ marker.Str32
    ∷ marker.Array16 ∷ marker.Array32 ∷ marker.Map16 ∷ marker.Map32 ∷ []

-- the marker of a first byte
unfoldable pub marker_of : ℕ → Marker
marker_of b =
    cond (nat_lt b 0x80) (marker.FixPos b) (cond (nat_lt b 0x90) (marker.FixMap (b - 0x80))
    (cond (nat_lt b 0xa0) (marker.FixArray (b - 0x90)) (cond (nat_lt b 0xc0) (marker.FixStr (b - 0xa0))
    (cond (nat_lt b 0xe0) (slice_index_or named_markers (b - 0xc0) marker.Reserved) (marker.FixNeg (negsuc (0xff - b)))))))

-- the byte of a marker; a number that is out of range counts by its low bits
unfoldable pub byte_of : Marker → ℕ
byte_of (marker.FixPos n) = n % 0x80
byte_of (marker.FixMap n) = 0x80 + n % 0x10
byte_of (marker.FixArray n) = 0x90 + n % 0x10
byte_of (marker.FixStr n) = 0xa0 + n % 0x20
byte_of (marker.FixNeg z) = 0xe0 + cast_unsigned w8 z % 0x20
byte_of marker.Null = 0xc0
byte_of marker.Reserved = 0xc1
byte_of marker.False = 0xc2
byte_of marker.True = 0xc3
byte_of marker.Bin8 = 0xc4
byte_of marker.Bin16 = 0xc5
byte_of marker.Bin32 = 0xc6
byte_of marker.Ext8 = 0xc7
byte_of marker.Ext16 = 0xc8
byte_of marker.Ext32 = 0xc9
byte_of marker.F32 = 0xca
byte_of marker.F64 = 0xcb
byte_of marker.U8 = 0xcc
byte_of marker.U16 = 0xcd
byte_of marker.U32 = 0xce
byte_of marker.U64 = 0xcf
byte_of marker.I8 = 0xd0
byte_of marker.I16 = 0xd1
byte_of marker.I32 = 0xd2
byte_of marker.I64 = 0xd3
byte_of marker.FixExt1 = 0xd4
byte_of marker.FixExt2 = 0xd5
byte_of marker.FixExt4 = 0xd6
byte_of marker.FixExt8 = 0xd7
byte_of marker.FixExt16 = 0xd8
byte_of marker.Str8 = 0xd9
byte_of marker.Str16 = 0xda
byte_of marker.Str32 = 0xdb
byte_of marker.Array16 = 0xdc
byte_of marker.Array32 = 0xdd
byte_of marker.Map16 = 0xde
byte_of marker.Map32 = 0xdf

abbrev pub Takes : Type 0 → Type 0
Takes A = List ℕ → Option (A × List ℕ)

-- a big-endian number of the width
unfoldable pub take_number : Width → Takes ℕ
take_number w bytes = cond (nat_lt (length bytes) (byte_len w)) None (Some (from_be_bytes w (take (byte_len w) bytes), drop (byte_len w) bytes))

abbrev pub take_map : {A B : Type 0} → (A → B) → Option (A × List ℕ) → Option (B × List ℕ)
take_map f taken = option_map (λ p. (f p.0, p.1)) taken

abbrev pub take_then : {A B : Type 0} → Option (A × List ℕ) → (A → Takes B) → Option (B × List ℕ)
take_then taken f = option_and_then (λ p. f p.0 p.1) taken

abbrev pub take_signed : Width → Takes Head
take_signed w bytes = take_map (λ n. Whole (cast_signed w n)) (take_number w bytes)

-- the type of an extension of n bytes
abbrev pub take_tag : ℕ → Takes Head
take_tag n bytes = take_map (λ tag. Ext n (cast_signed w8 tag)) (take_number w8 bytes)

-- the rest of a head, after its marker
unfoldable pub head_after : Marker → Takes Head
head_after (marker.FixPos n) bytes = Some (Whole (pos (n % 0x80)), bytes)
head_after (marker.FixMap n) bytes = Some (Map (n % 0x10), bytes)
head_after (marker.FixArray n) bytes = Some (Array (n % 0x10), bytes)
head_after (marker.FixStr n) bytes = Some (Text (n % 0x20), bytes)
head_after marker.Null bytes = Some (Nil, bytes)
head_after marker.Reserved bytes = None
head_after marker.False bytes = Some (Truth false, bytes)
head_after marker.True bytes = Some (Truth true, bytes)
head_after marker.Bin8 bytes = take_map Bin (take_number w8 bytes)
head_after marker.Bin16 bytes = take_map Bin (take_number w16 bytes)
head_after marker.Bin32 bytes = take_map Bin (take_number w32 bytes)
head_after marker.Ext8 bytes = take_then (take_number w8 bytes) take_tag
head_after marker.Ext16 bytes = take_then (take_number w16 bytes) take_tag
head_after marker.Ext32 bytes = take_then (take_number w32 bytes) take_tag
head_after marker.F32 bytes = take_map F32Bits (take_number w32 bytes)
head_after marker.F64 bytes = take_map F64Bits (take_number w64 bytes)
head_after marker.U8 bytes = take_map (λ n. Whole (pos n)) (take_number w8 bytes)
head_after marker.U16 bytes = take_map (λ n. Whole (pos n)) (take_number w16 bytes)
head_after marker.U32 bytes = take_map (λ n. Whole (pos n)) (take_number w32 bytes)
head_after marker.U64 bytes = take_map (λ n. Whole (pos n)) (take_number w64 bytes)
head_after marker.I8 bytes = take_signed w8 bytes
head_after marker.I16 bytes = take_signed w16 bytes
head_after marker.I32 bytes = take_signed w32 bytes
head_after marker.I64 bytes = take_signed w64 bytes
head_after marker.FixExt1 bytes = take_tag 1 bytes
head_after marker.FixExt2 bytes = take_tag 2 bytes
head_after marker.FixExt4 bytes = take_tag 4 bytes
head_after marker.FixExt8 bytes = take_tag 8 bytes
head_after marker.FixExt16 bytes = take_tag 16 bytes
head_after marker.Str8 bytes = take_map Text (take_number w8 bytes)
head_after marker.Str16 bytes = take_map Text (take_number w16 bytes)
head_after marker.Str32 bytes = take_map Text (take_number w32 bytes)
head_after marker.Array16 bytes = take_map Array (take_number w16 bytes)
head_after marker.Array32 bytes = take_map Array (take_number w32 bytes)
head_after marker.Map16 bytes = take_map Map (take_number w16 bytes)
head_after marker.Map32 bytes = take_map Map (take_number w32 bytes)
head_after (marker.FixNeg z) bytes = Some (Whole (negsuc (0x1f - cast_unsigned w8 z % 0x20)), bytes)

-- the head that the bytes begin with, and what follows it
unfoldable pub take_head : Takes Head
unfolding marker_of head_after
take_head [] = None
take_head (b ∷ bytes) = head_after (marker_of b) bytes

-- n bytes
unfoldable pub take_bytes : ℕ → Takes (List ℕ)
take_bytes n bytes = cond (nat_lt (length bytes) n) None (Some (take n bytes, drop n bytes))

-- n items, each taken by the given function
unfoldable pub take_items : Takes Msg → ℕ → Takes Msgs
take_items one zero bytes = Some (no_items, bytes)
take_items one (suc n) bytes = take_then (one bytes) (λ m rest. take_map (item m) (take_items one n rest))

-- n pairs, each key and each value taken by the given function
unfoldable pub take_pairs : Takes Msg → ℕ → Takes Pairs
take_pairs one zero bytes = Some (no_pairs, bytes)
take_pairs one (suc n) bytes = take_then (one bytes) (λ k rest. take_then (one rest) (λ v after. take_map (pair k v) (take_pairs one n after)))

-- what follows a head, with the given functions for items and pairs
unfoldable pub take_rest : (ℕ → Takes Msgs) → (ℕ → Takes Pairs) → Head → Takes Msg
take_rest some_items some_pairs Nil bytes = Some (nil, bytes)
take_rest some_items some_pairs (Truth t) bytes = Some (truth t, bytes)
take_rest some_items some_pairs (Whole z) bytes = Some (whole z, bytes)
take_rest some_items some_pairs (F32Bits n) bytes = Some (float32 n, bytes)
take_rest some_items some_pairs (F64Bits n) bytes = Some (float64 n, bytes)
take_rest some_items some_pairs (Text n) bytes = take_map text (take_bytes n bytes)
take_rest some_items some_pairs (Bin n) bytes = take_map bin (take_bytes n bytes)
take_rest some_items some_pairs (Array n) bytes = take_map list (some_items n bytes)
take_rest some_items some_pairs (Map n) bytes = take_map map (some_pairs n bytes)
take_rest some_items some_pairs (Ext n tag) bytes = take_map (extension tag) (take_bytes n bytes)

-- the message that the bytes begin with, and what follows it, if its lists and maps nest no deeper than the
-- number
unfoldable pub take_msg : ℕ → Takes Msg
unfolding take_head take_items take_pairs take_rest take_bytes
take_msg zero bytes = take_then (take_head bytes) (take_rest (λ n rest. None) (λ n rest. None))
take_msg (suc d) bytes = take_then (take_head bytes) (take_rest (take_items (take_msg d)) (take_pairs (take_msg d)))
