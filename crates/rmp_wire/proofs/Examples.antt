-- Examples of the definitions, on bytes that the MessagePack specification's tables give.
use Rattle.std.proofs.Common.{◌≡◌, ℕ, List, [], ◌∷◌, refl, pos, negsuc, inl, inr, lit<, false, Option, Some, None, suc, arith}
use Rattle.rmp_wire.specs.Heads.{IsHead, canon_head}
use Rattle.rmp_wire.specs.Msg.{Msg, nil, truth, whole, float32, text, bin, list, map, extension, msgs, pairs, depth}
use Rattle.rmp_wire.specs.Spelling.{Spells, canon}
use Rattle.rmp_wire.specs.Taking.{marker_of, head_after, take_head, take_msg}
use Rattle.rmp_wire.proofs.Unique.{take_msg_takes}

-- ---- canonical spellings, and spellings in wider heads

-- the list of 5 and "a"
five_a : Msg
five_a = list (msgs (whole (pos 5) ∷ text (0x61 ∷ []) ∷ []))

five_a_canonical : canon five_a ≡ 0x92 ∷ 0x05 ∷ 0xa1 ∷ 0x61 ∷ []
unfolding canon_head five_a
five_a_canonical = refl

five_a_wide : Spells (0x92 ∷ 0xcd ∷ 0x00 ∷ 0x05 ∷ 0xd9 ∷ 0x01 ∷ 0x61 ∷ []) five_a
unfolding IsHead five_a
five_a_wide = record {
  first = 0x92 ∷ [];
  second = 0xcd ∷ 0x00 ∷ 0x05 ∷ 0xd9 ∷ 0x01 ∷ 0x61 ∷ [];
  is_first = inl (lit< tt, refl);
  is_second = record {
    first = 0xcd ∷ 0x00 ∷ 0x05 ∷ [];
    second = 0xd9 ∷ 0x01 ∷ 0x61 ∷ [];
    is_first = inr (inr (inl (lit< tt, refl)));
    is_second = record {
      first = 0xd9 ∷ 0x01 ∷ 0x61 ∷ [];
      second = [];
      is_first = record {
        first = 0xd9 ∷ 0x01 ∷ [];
        second = 0x61
            ∷ [];
        is_first = inr (inl (lit< tt, refl));
        is_second = (refl, (lit< tt, tt));
        is_whole = refl;
      };
      is_second = refl;
      is_whole = refl;
    };
    is_whole = refl;
  };
  is_whole = refl;
}

-- 256, also in 64 bits
two_hundred_fifty_six : Msg
two_hundred_fifty_six = whole (pos 256)

two_hundred_fifty_six_canonical : canon two_hundred_fifty_six ≡ 0xcd ∷ 0x01 ∷ 0x00 ∷ []
unfolding canon_head two_hundred_fifty_six
two_hundred_fifty_six_canonical = refl

two_hundred_fifty_six_wide : Spells (0xcf ∷ 0x00 ∷ 0x00 ∷ 0x00 ∷ 0x00 ∷ 0x00 ∷ 0x00 ∷ 0x01 ∷ 0x00 ∷ []) two_hundred_fifty_six
unfolding IsHead two_hundred_fifty_six
two_hundred_fifty_six_wide = inr (inr (inr (inr (inl (lit< tt, refl)))))

-- -1, also in 64 bits
minus_one : Msg
minus_one = whole (negsuc 0)

minus_one_canonical : canon minus_one ≡ 0xff ∷ []
unfolding canon_head minus_one
minus_one_canonical = refl

-- 300 is as short with a sign, but the format without one is the canonical one
three_hundred : Msg
three_hundred = whole (pos 300)

three_hundred_canonical : canon three_hundred ≡ 0xcd ∷ 0x01 ∷ 0x2c ∷ []
unfolding canon_head three_hundred
three_hundred_canonical = refl

-- 18446744073709551615
greatest : Msg
greatest = whole (pos 18446744073709551615)

greatest_canonical : canon greatest ≡ 0xcf ∷ 0xff ∷ 0xff ∷ 0xff ∷ 0xff ∷ 0xff ∷ 0xff ∷ 0xff ∷ 0xff ∷ []
unfolding canon_head greatest
greatest_canonical = refl

-- -32769
below_sixteen_bits : Msg
below_sixteen_bits = whole (negsuc 32768)

below_sixteen_bits_canonical : canon below_sixteen_bits ≡ 0xd2 ∷ 0xff ∷ 0xff ∷ 0x7f ∷ 0xff ∷ []
unfolding canon_head below_sixteen_bits
below_sixteen_bits_canonical = refl

-- the empty list, also with a length of 16 bits
empty_list : Msg
empty_list = list (msgs [])

empty_list_canonical : canon empty_list ≡ 0x90 ∷ []
unfolding canon_head empty_list
empty_list_canonical = refl

empty_list_wide : Spells (0xdc ∷ 0x00 ∷ 0x00 ∷ []) empty_list
unfolding IsHead empty_list
empty_list_wide = record { first = 0xdc ∷ 0x00 ∷ 0x00 ∷ []; second = []; is_first = inr (inl (lit< tt, refl)); is_second = refl; is_whole = refl }

-- the empty text, also with a length of 8 bits
empty_text : Msg
empty_text = text []

empty_text_canonical : canon empty_text ≡ 0xa0 ∷ []
unfolding canon_head empty_text
empty_text_canonical = refl

empty_text_wide : Spells (0xd9 ∷ 0x00 ∷ []) empty_text
unfolding IsHead empty_text
empty_text_wide = record { first = 0xd9 ∷ 0x00 ∷ []; second = []; is_first = inr (inl (lit< tt, refl)); is_second = (refl, tt); is_whole = refl }

-- a text whose bytes are no UTF-8 is a text all the same
no_utf8 : Msg
no_utf8 = text (0xff ∷ [])

no_utf8_canonical : canon no_utf8 ≡ 0xa1 ∷ 0xff ∷ []
unfolding canon_head no_utf8
no_utf8_canonical = refl

-- a map whose keys are of different kinds
mixed_map : Msg
mixed_map = map (pairs ((text (0x6b ∷ []), whole (negsuc 0)) ∷ (whole (pos 2), bin (0x00 ∷ [])) ∷ []))

mixed_map_canonical : canon mixed_map ≡ 0x82 ∷ 0xa1 ∷ 0x6b ∷ 0xff ∷ 0x02 ∷ 0xc4 ∷ 0x01 ∷ 0x00 ∷ []
unfolding canon_head mixed_map
mixed_map_canonical = refl

-- a map of one pair, also with a count of 16 bits
one_pair : Msg
one_pair = map (pairs ((whole (pos 1), truth false) ∷ []))

one_pair_canonical : canon one_pair ≡ 0x81 ∷ 0x01 ∷ 0xc2 ∷ []
unfolding canon_head one_pair
one_pair_canonical = refl

one_pair_wide : Spells (0xde ∷ 0x00 ∷ 0x01 ∷ 0x01 ∷ 0xc2 ∷ []) one_pair
unfolding IsHead one_pair
one_pair_wide = record {
  first = 0xde ∷ 0x00 ∷ 0x01 ∷ [];
  second = 0x01 ∷ 0xc2 ∷ [];
  is_first = inr (inl (lit< tt, refl));
  is_second = record {
    first = 0x01 ∷ [];
    second = 0xc2 ∷ [];
    is_first = inl (lit< tt, refl);
    is_second = record { first = 0xc2 ∷ []; second = []; is_first = refl; is_second = refl; is_whole = refl };
    is_whole = refl;
  };
  is_whole = refl;
}

-- an extension of three bytes has no marker of its own
three_bytes : Msg
three_bytes = extension (pos 5) (0x01 ∷ 0x02 ∷ 0x03 ∷ [])

three_bytes_canonical : canon three_bytes ≡ 0xc7 ∷ 0x03 ∷ 0x05 ∷ 0x01 ∷ 0x02 ∷ 0x03 ∷ []
unfolding canon_head three_bytes
three_bytes_canonical = refl

-- an extension of one byte, whose type is -1
timestamp_like : Msg
timestamp_like = extension (negsuc 0) (0x05 ∷ [])

timestamp_like_canonical : canon timestamp_like ≡ 0xd4 ∷ 0xff ∷ 0x05 ∷ []
unfolding canon_head timestamp_like
timestamp_like_canonical = refl

-- the bits of a float
greatest_float : Msg
greatest_float = float32 0x7f7fffff

greatest_float_canonical : canon greatest_float ≡ 0xca ∷ 0x7f ∷ 0x7f ∷ 0xff ∷ 0xff ∷ []
unfolding canon_head greatest_float
greatest_float_canonical = refl

-- ---- depth

five_a_depth : depth five_a ≡ 1
unfolding five_a
five_a_depth = refl

mixed_map_depth : depth (list (msgs (mixed_map ∷ nil ∷ []))) ≡ 2
unfolding mixed_map
mixed_map_depth = refl

-- ---- the byte c1 opens no message

pub reserved_opens_nothing : (rest : List ℕ) (m : Msg) → Spells (0xc1 ∷ rest) m → ⊥
unfolding take_msg take_head marker_of head_after
reserved_opens_nothing rest m s =
    let taken : ◌≡◌ {A = Option (Msg × List ℕ)} None (Some (m, [])) = take_msg_takes m (suc (depth m)) (0xc1 ∷ rest) [] s (omega arith) in
    absurd (cc)
