-- How many bytes follow a marker, and what follows if fewer remain.
use Rattle.std.proofs.Common.{◌≡◌, ◌∙◌, sym, ap, subst, ℕ, negsuc, ◌+◌, ◌-◌, ◌%◌, List, [], ◌∷◌, ◌++◌, length, drop, Option, None, Some, refl, arith, nat_lt, false}
use Rattle.std.specs.Int.{Width, w8, w16, w32, w64, byte_len, from_be_bytes, cast_unsigned}
use Rattle.std.specs.Prelude.{take}
use Rattle.std.proofs.lemmas.List.{length-append, length-drop, append-nil}
use Rattle.std.proofs.lemmas.Bool.{ltb-false}
use Rattle.std.proofs.lemmas.Option.{some_pair_parts}
use Rattle.std.specs.Io.KnownBytes.{Consumes}
use Rattle.std.proofs.KnownBytes.{Consumes-trans}
use Rattle.rmp_wire.specs.declared.error.IoFault.{IoFault}
use Rattle.rmp_wire.specs.declared.head.Head.{Head}
use Rattle.rmp_wire.specs.declared.marker.Marker.{Marker}
use Rattle.rmp_wire.specs.declared.marker.Marker.TheVariants as marker
use Rattle.rmp_wire.specs.Heads.{IsHead}
use Rattle.rmp_wire.specs.Reading.{IsCut, CutsHead}
use Rattle.rmp_wire.specs.Sources.{AtMostOne, IsShort, TakesShort}
use Rattle.rmp_wire.specs.Taking.{marker_of, byte_of, take_number, take_head, head_after, take_map, take_then, take_tag}
use Rattle.rmp_wire.proofs.Heads.{marker_pos, marker_map, marker_array, marker_str, marker_neg, take_head_takes}
use Rattle.rmp_wire.proofs.Taken.{taken_unless, taken_map, taken_then}

-- how many bytes follow the marker in its heads
abbrev pub tail_len : Marker → ℕ
tail_len marker.Bin8 = 1
tail_len marker.Bin16 = 2
tail_len marker.Bin32 = 4
tail_len marker.Ext8 = 2
tail_len marker.Ext16 = 3
tail_len marker.Ext32 = 5
tail_len marker.F32 = 4
tail_len marker.F64 = 8
tail_len marker.U8 = 1
tail_len marker.U16 = 2
tail_len marker.U32 = 4
tail_len marker.U64 = 8
tail_len marker.I8 = 1
tail_len marker.I16 = 2
tail_len marker.I32 = 4
tail_len marker.I64 = 8
tail_len marker.FixExt1 = 1
tail_len marker.FixExt2 = 1
tail_len marker.FixExt4 = 1
tail_len marker.FixExt8 = 1
tail_len marker.FixExt16 = 1
tail_len marker.Str8 = 1
tail_len marker.Str16 = 2
tail_len marker.Str32 = 4
tail_len marker.Array16 = 2
tail_len marker.Array32 = 4
tail_len marker.Map16 = 2
tail_len marker.Map32 = 4
tail_len _ = 0

number_len : (w : Width) (s : List ℕ) (n : ℕ) (x : List ℕ) → take_number w s ≡ Some (n, x) → length s ≡ byte_len w + length x
unfolding take_number
number_len w s n x e =
    let k : ℕ = byte_len w in
    let u : (nat_lt (length s) k ≡ false) × ((from_be_bytes w (take k s), drop k s) ≡ (n, x)) = taken_unless _ _ _ e in
    omega (arith, ltb-false (length s) k u.0, length-drop k s, ap (λ p. length p.1) u.1)

-- nothing remains after what was taken from x
whole_len : (x : List ℕ) → length (x ++ []) ≡ length x
whole_len x = ap length (append-nil x)

alone_len : (k h : Head) (x : List ℕ) → ◌≡◌ {A = Option (Head × List ℕ)} (Some (k, x ++ [])) (Some (h, [])) → length x ≡ 0
alone_len k h x e = sym (whole_len x) ∙ ap length (some_pair_parts k h (x ++ []) [] e).1

wide_len : (w : Width) (f : ℕ → Head) (h : Head) (x : List ℕ) → take_map f (take_number w (x ++ [])) ≡ Some (h, []) → length x ≡ byte_len w
wide_len w f h x e =
    let t : (n : ℕ) × (take_number w (x ++ []) ≡ Some (n, [])) × (h ≡ f n) = taken_map f (take_number w (x ++ [])) h [] e in
    omega (arith, number_len w (x ++ []) t.0 [] t.1, whole_len x)

tagged_len : (w : Width) (h : Head) (x : List ℕ) → take_then (take_number w (x ++ [])) take_tag ≡ Some (h, []) → length x ≡ byte_len w + 1
tagged_len w h x e =
    let t : (n : ℕ) × (rest : List ℕ) × (take_number w (x ++ []) ≡ Some (n, rest))
    × (take_tag n rest ≡ Some (h, [])) = taken_then (take_number w (x ++ [])) take_tag h [] e in
    let u : (k : ℕ) × (take_number w8 t.1 ≡ Some (k, [])) × (h ≡ _) = taken_map _ (take_number w8 t.1) h [] t.3 in
    omega (arith, number_len w (x ++ []) t.0 t.1 t.2, number_len w8 t.1 u.0 [] u.1, whole_len x)

-- a head that its marker holds whole
held_len : (m : Marker) (k h : Head) (b : ℕ) (x : List ℕ) → marker_of b ≡ m → head_after m (x ++ []) ≡ Some (k, x ++ [])
    → take_head (b ∷ (x ++ [])) ≡ Some (h, []) → length x ≡ 0
unfolding take_head
held_len m k h b x is after e = alone_len k h x (sym after ∙ ap (λ t. head_after t (x ++ [])) (sym is) ∙ e)

tail_taken : (m : Marker) (h : Head) (x : List ℕ) → take_head (byte_of m ∷ (x ++ [])) ≡ Some (h, []) → length x ≡ tail_len m
unfolding take_head byte_of
tail_taken (marker.FixPos n) h x e = held_len (marker.FixPos (n % 0x80)) _ h (n % 0x80) x (marker_pos (n % 0x80) (omega arith)) refl e
tail_taken (marker.FixMap n) h x e = held_len (marker.FixMap (n % 0x10)) _ h (0x80 + n % 0x10) x (marker_map (n % 0x10) (omega arith)) refl e
tail_taken (marker.FixArray n) h x e = held_len (marker.FixArray (n % 0x10)) _ h (0x90 + n % 0x10) x (marker_array (n % 0x10) (omega arith)) refl e
tail_taken (marker.FixStr n) h x e = held_len (marker.FixStr (n % 0x20)) _ h (0xa0 + n % 0x20) x (marker_str (n % 0x20) (omega arith)) refl e
tail_taken (marker.FixNeg z) h x e =
    let n : ℕ = 0x1f - cast_unsigned w8 z % 0x20 in
    let low : 0xe0 + cast_unsigned w8 z % 0x20 ≡ 0xff - n = omega arith in
    held_len (marker.FixNeg (negsuc n)) _ h (0xe0 + cast_unsigned w8 z % 0x20) x (ap marker_of low ∙ marker_neg n (omega arith)) refl e
tail_taken marker.Null h x e = alone_len _ h x e
tail_taken marker.False h x e = alone_len _ h x e
tail_taken marker.True h x e = alone_len _ h x e
tail_taken marker.Reserved h x e = absurd (cc)
tail_taken marker.Bin8 h x e = wide_len w8 _ h x e
tail_taken marker.Bin16 h x e = wide_len w16 _ h x e
tail_taken marker.Bin32 h x e = wide_len w32 _ h x e
tail_taken marker.F32 h x e = wide_len w32 _ h x e
tail_taken marker.F64 h x e = wide_len w64 _ h x e
tail_taken marker.U8 h x e = wide_len w8 _ h x e
tail_taken marker.U16 h x e = wide_len w16 _ h x e
tail_taken marker.U32 h x e = wide_len w32 _ h x e
tail_taken marker.U64 h x e = wide_len w64 _ h x e
tail_taken marker.I8 h x e = wide_len w8 _ h x e
tail_taken marker.I16 h x e = wide_len w16 _ h x e
tail_taken marker.I32 h x e = wide_len w32 _ h x e
tail_taken marker.I64 h x e = wide_len w64 _ h x e
tail_taken marker.Str8 h x e = wide_len w8 _ h x e
tail_taken marker.Str16 h x e = wide_len w16 _ h x e
tail_taken marker.Str32 h x e = wide_len w32 _ h x e
tail_taken marker.Array16 h x e = wide_len w16 _ h x e
tail_taken marker.Array32 h x e = wide_len w32 _ h x e
tail_taken marker.Map16 h x e = wide_len w16 _ h x e
tail_taken marker.Map32 h x e = wide_len w32 _ h x e
tail_taken marker.FixExt1 h x e = wide_len w8 _ h x e
tail_taken marker.FixExt2 h x e = wide_len w8 _ h x e
tail_taken marker.FixExt4 h x e = wide_len w8 _ h x e
tail_taken marker.FixExt8 h x e = wide_len w8 _ h x e
tail_taken marker.FixExt16 h x e = wide_len w8 _ h x e
tail_taken marker.Ext8 h x e = tagged_len w8 h x e
tail_taken marker.Ext16 h x e = tagged_len w16 h x e
tail_taken marker.Ext32 h x e = tagged_len w32 h x e

-- the heads of a marker have one length
pub tail_length : (m : Marker) (h : Head) (x : List ℕ) → IsHead h (byte_of m ∷ x) → length x ≡ tail_len m
tail_length m h x p = tail_taken m h x (take_head_takes h (byte_of m ∷ x) [] p)

-- no head begins with the reserved byte
pub reserved_opens_none : (h : Head) (x : List ℕ) → IsHead h (byte_of marker.Reserved ∷ x) → ⊥
unfolding take_head byte_of
reserved_opens_none h x p = let e : ◌≡◌ {A = Option (Head × List ℕ)} None (Some (h, [])) = take_head_takes h (0xc1 ∷ x) [] p in absurd (cc)

-- ---- fewer bytes than the marker's heads have

cut_by_length : (m : Marker) (n : ℕ) (ahead : Option (List ℕ)) → tail_len m ≡ n → IsShort n ahead → IsCut m ahead
cut_by_length m n None l s = tt
cut_by_length m n (Some xs) l s = λ h x rest e p. absurd (omega (arith, tail_length m h x p, ap length e, length-append x rest))

-- Where a call that needs all the bytes after the marker fails, the head is cut.
pub cuts_short : (m : Marker) (n : ℕ) (old new : Option (List ℕ)) (before after : ℕ) (fault : IoFault) → tail_len m ≡ n
    → TakesShort n old new before after fault → CutsHead m old new before after fault
cuts_short m n old new before after fault l t = record {
  part = record { part = t.part.part; short = λ h x p. omega (arith, t.part.short, tail_length m h x p); taken = t.part.taken };
  counts = t.counts;
  cut = λ e. cut_by_length m n old l (t.short e);
  end = t.end;
}

short_more : (n more : ℕ) (ahead : Option (List ℕ)) → IsShort n ahead → IsShort (n + more) ahead
short_more n more None s = tt
short_more n more (Some xs) s = omega arith

-- too few for n bytes are too few for more
pub short_of_more : (n more : ℕ) (old new : Option (List ℕ)) (before after : ℕ) (fault : IoFault) → TakesShort n old new before after fault
    → TakesShort (n + more) old new before after fault
short_of_more n more old new before after fault t = record {
  part = record { part = t.part.part; short = omega (arith, t.part.short); taken = t.part.taken };
  counts = t.counts;
  short = λ e. short_more n more old (t.short e);
  rest = t.rest;
  end = t.end;
}

short_after : (k n : ℕ) (old mid : Option (List ℕ)) (bytes : List ℕ) → length bytes ≡ k → Consumes old mid bytes → IsShort n mid → IsShort (k + n) old
short_after k n None mid bytes l c s = tt
short_after k n (Some xs) None bytes l c s = absurd c
short_after k n (Some xs) (Some ys) bytes l c s = omega (arith, ap length c, length-append bytes ys)

-- the same where k bytes of the head were taken before the call
pub cuts_short_after : (m : Marker) (k n : ℕ) (old mid new : Option (List ℕ)) (bytes : List ℕ) (before between after : ℕ) (fault : IoFault)
    → tail_len m ≡ k + n → length bytes ≡ k → Consumes old mid bytes
    → between ≡ before → TakesShort n mid new between after fault → CutsHead m old new before after fault
cuts_short_after m k n old mid new bytes before between after fault l b c same t = record {
  part = record {
    part = bytes ++ t.part.part;
    short = λ h x p. omega (arith, t.part.short, tail_length m h x p, length-append bytes t.part.part);
    taken = Consumes-trans old mid new _ _ c t.part.taken;
  };
  counts = subst (λ z. AtMostOne z after) same t.counts;
  cut = λ e. cut_by_length m (k + n) old l (short_after k n old mid bytes b c (t.short (e ∙ sym same)));
  end = λ e. t.end (e ∙ sym same);
}
