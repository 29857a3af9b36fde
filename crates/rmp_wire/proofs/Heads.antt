-- Heads: what take_head makes of each, and what follows.
use Rattle.std.proofs.Common.{
  ◌≡◌,
  ◌∙◌,
  sym,
  ap,
  ℕ,
  ◌+◌,
  ◌-◌,
  ◌%◌,
  ◌^◌,
  ◌<◌,
  List,
  [],
  ◌∷◌,
  ◌++◌,
  length,
  Some,
  refl,
  arith,
  true,
  false,
  nat_lt,
  pos,
  negsuc,
  ℤ,
}
use Rattle.std.proofs.lemmas.Nat.{from_be_bytes-to_be_bytes_2, from_be_bytes-to_be_bytes_4, from_be_bytes-to_be_bytes_8}
use Rattle.std.specs.Int.{Width, w8, w16, w32, w64, w128, to_be_bytes, from_be_bytes, byte_len, cast_signed, cast_unsigned}
use Rattle.std.specs.Prelude.{FitsSigned}
use Rattle.std.proofs.lemmas.List.{length-append, take_at, drop_at}
use Rattle.std.proofs.lemmas.Bool.{le-ltb}
use Rattle.std.proofs.lemmas.Bool.Decides.{nat_tests}
use Rattle.std.proofs.lemmas.Int.{ints, to_z-of_z}
use Rattle.std.proofs.lemmas.Option.{some_pair_parts}
use Rattle.std.proofs.lemmas.List.{append_cancel_right}
use Rattle.std.proofs.Common.{inl, inr}
use mir.Val.{bits}
use Rattle.rmp_wire.specs.Heads.{SignedAny, IsHead, tag_byte}
use Rattle.rmp_wire.specs.Taking.{marker_of, take_number, take_head, head_after, take_map, take_then, take_tag, take_signed}
use Rattle.rmp_wire.specs.declared.marker.Marker.{Marker}
use Rattle.rmp_wire.specs.declared.marker.Marker.TheVariants as marker
use Rattle.rmp_wire.specs.declared.head.Head.{Head}
use Rattle.rmp_wire.specs.declared.head.Head.TheVariants.{Nil, Truth, Whole, F32Bits, F64Bits, Text, Bin, Array, Map, Ext}

take_number_gives : (w : Width) (bytes x : List ℕ) (n : ℕ) → length bytes ≡ byte_len w → from_be_bytes w bytes ≡ n → take_number w (bytes ++ x) ≡ Some (n, x)
unfolding take_number
take_number_gives w bytes x n l e =
    let long : nat_lt (length (bytes ++ x)) (byte_len w) ≡ false = le-ltb (length (bytes ++ x)) (byte_len w) (omega (arith, length-append bytes x)) in
    rw (long, take_at bytes x (byte_len w) l, drop_at bytes x (byte_len w) l, e) refl

take_number_8 : (n : ℕ) (x : List ℕ) → n < 2 ^ 8 → take_number w8 (to_be_bytes w8 n ++ x) ≡ Some (n, x)
take_number_8 n x h = take_number_gives w8 (to_be_bytes w8 n) x n refl (omega arith)

take_number_16 : (n : ℕ) (x : List ℕ) → n < 2 ^ 16 → take_number w16 (to_be_bytes w16 n ++ x) ≡ Some (n, x)
take_number_16 n x h = take_number_gives w16 (to_be_bytes w16 n) x n refl (from_be_bytes-to_be_bytes_2 n h)

take_number_32 : (n : ℕ) (x : List ℕ) → n < 2 ^ 32 → take_number w32 (to_be_bytes w32 n ++ x) ≡ Some (n, x)
take_number_32 n x h = take_number_gives w32 (to_be_bytes w32 n) x n refl (from_be_bytes-to_be_bytes_4 n h)

take_number_64 : (n : ℕ) (x : List ℕ) → n < 2 ^ 64 → take_number w64 (to_be_bytes w64 n ++ x) ≡ Some (n, x)
take_number_64 n x h = take_number_gives w64 (to_be_bytes w64 n) x n refl (from_be_bytes-to_be_bytes_8 n h)

-- ---- the markers that hold a number

pub marker_pos : (n : ℕ) → n < 128 → marker_of n ≡ marker.FixPos n
unfolding marker_of
marker_pos n h = grind (arith, nat_tests)

pub marker_map : (n : ℕ) → n < 16 → marker_of (0x80 + n) ≡ marker.FixMap n
unfolding marker_of
marker_map n h = grind (arith, nat_tests)

pub marker_array : (n : ℕ) → n < 16 → marker_of (0x90 + n) ≡ marker.FixArray n
unfolding marker_of
marker_array n h = grind (arith, nat_tests)

pub marker_str : (n : ℕ) → n < 32 → marker_of (0xa0 + n) ≡ marker.FixStr n
unfolding marker_of
marker_str n h = grind (arith, nat_tests)

pub marker_neg : (n : ℕ) → n < 32 → marker_of (0xff - n) ≡ marker.FixNeg (negsuc n)
unfolding marker_of
marker_neg n h = grind (arith, nat_tests)

-- what follows a marker that holds its number
held : (m k : Marker) (make : ℕ → Head) (n j : ℕ) (x : List ℕ) → m ≡ k → head_after k x ≡ Some (make j, x) → j ≡ n → head_after m x ≡ Some (make n, x)
held m k make n j x is e same = ap (λ t. head_after t x) is ∙ e ∙ ap (λ t. Some (make t, x)) same

-- ---- numbers in two's complement

pub unsigned_below : (w : Width) (z : ℤ) → FitsSigned w z → cast_unsigned w z < 2 ^ bits w
unsigned_below w8 z h = omega (arith, ints)
unsigned_below w16 z h = omega (arith, ints)
unsigned_below w32 z h = omega (arith, ints)
unsigned_below w64 z h = omega (arith, ints)
unsigned_below w128 z h = omega (arith, ints)

tag_gives : (n : ℕ) (tag : ℤ) (x : List ℕ) → FitsSigned w8 tag → take_tag n (tag_byte tag ∷ x) ≡ Some (Ext n tag, x)
tag_gives n tag x h = ap (take_map (λ t. Ext n (cast_signed w8 t))) (take_number_gives w8 (tag_byte tag ∷ []) x (tag_byte tag) refl refl)
    ∙ ap (λ t. Some (Ext n t, x)) (to_z-of_z w8 tag h)

signed_gives : (w : Width) (z : ℤ) (x : List ℕ) → FitsSigned w z → take_number w (to_be_bytes w (cast_unsigned w z) ++ x) ≡ Some (cast_unsigned w z, x)
    → take_signed w (to_be_bytes w (cast_unsigned w z) ++ x) ≡ Some (Whole z, x)
signed_gives w z x h e = ap (take_map (λ t. Whole (cast_signed w t))) e ∙ ap (λ t. Some (Whole t, x)) (to_z-of_z w z h)

-- ---- take_head takes each head, whatever follows

take_signed_head : (z : ℤ) (a x : List ℕ) → SignedAny z a → take_head (a ++ x) ≡ Some (Whole z, x)
unfolding take_head
take_signed_head z a x (inl f) = rw f.1 (signed_gives w8 z x f.0 (take_number_8 _ x (unsigned_below w8 z f.0)))
take_signed_head z a x (inr (inl f)) = rw f.1 (signed_gives w16 z x f.0 (take_number_16 _ x (unsigned_below w16 z f.0)))
take_signed_head z a x (inr (inr (inl f))) = rw f.1 (signed_gives w32 z x f.0 (take_number_32 _ x (unsigned_below w32 z f.0)))
take_signed_head z a x (inr (inr (inr f))) = rw f.1 (signed_gives w64 z x f.0 (take_number_64 _ x (unsigned_below w64 z f.0)))

pub take_head_takes : (h : Head) (a x : List ℕ) → IsHead h a → take_head (a ++ x) ≡ Some (h, x)
unfolding take_head IsHead
take_head_takes Nil a x e = rw e refl
take_head_takes (Truth false) a x e = rw e refl
take_head_takes (Truth true) a x e = rw e refl
take_head_takes (Whole (pos n)) a x (inl f) = rw f.1 (held _ _ (λ k. Whole (pos k)) n (n % 0x80) x (marker_pos n f.0) refl (omega arith))
take_head_takes (Whole (pos n)) a x (inr (inl f)) = rw f.1 (ap (take_map (λ k. Whole (pos k))) (take_number_8 n x f.0))
take_head_takes (Whole (pos n)) a x (inr (inr (inl f))) = rw f.1 (ap (take_map (λ k. Whole (pos k))) (take_number_16 n x f.0))
take_head_takes (Whole (pos n)) a x (inr (inr (inr (inl f)))) = rw f.1 (ap (take_map (λ k. Whole (pos k))) (take_number_32 n x f.0))
take_head_takes (Whole (pos n)) a x (inr (inr (inr (inr (inl f))))) = rw f.1 (ap (take_map (λ k. Whole (pos k))) (take_number_64 n x f.0))
take_head_takes (Whole (pos n)) a x (inr (inr (inr (inr (inr f))))) = take_signed_head (pos n) a x f
take_head_takes (Whole (negsuc n)) a x (inl f) = rw f.1
    (held _ _ (λ k. Whole (negsuc k)) n (0x1f - cast_unsigned w8 (negsuc n) % 0x20) x (marker_neg n f.0) refl (omega (arith, ints)))
take_head_takes (Whole (negsuc n)) a x (inr f) = take_signed_head (negsuc n) a x f
take_head_takes (F32Bits n) a x f = rw f.1 (ap (take_map F32Bits) (take_number_32 n x f.0))
take_head_takes (F64Bits n) a x f = rw f.1 (ap (take_map F64Bits) (take_number_64 n x f.0))
take_head_takes (Text n) a x (inl f) = rw f.1 (held _ _ Text n (n % 0x20) x (marker_str n f.0) refl (omega arith))
take_head_takes (Text n) a x (inr (inl f)) = rw f.1 (ap (take_map Text) (take_number_8 n x f.0))
take_head_takes (Text n) a x (inr (inr (inl f))) = rw f.1 (ap (take_map Text) (take_number_16 n x f.0))
take_head_takes (Text n) a x (inr (inr (inr f))) = rw f.1 (ap (take_map Text) (take_number_32 n x f.0))
take_head_takes (Bin n) a x (inl f) = rw f.1 (ap (take_map Bin) (take_number_8 n x f.0))
take_head_takes (Bin n) a x (inr (inl f)) = rw f.1 (ap (take_map Bin) (take_number_16 n x f.0))
take_head_takes (Bin n) a x (inr (inr f)) = rw f.1 (ap (take_map Bin) (take_number_32 n x f.0))
take_head_takes (Array n) a x (inl f) = rw f.1 (held _ _ Array n (n % 0x10) x (marker_array n f.0) refl (omega arith))
take_head_takes (Array n) a x (inr (inl f)) = rw f.1 (ap (take_map Array) (take_number_16 n x f.0))
take_head_takes (Array n) a x (inr (inr f)) = rw f.1 (ap (take_map Array) (take_number_32 n x f.0))
take_head_takes (Map n) a x (inl f) = rw f.1 (held _ _ Map n (n % 0x10) x (marker_map n f.0) refl (omega arith))
take_head_takes (Map n) a x (inr (inl f)) = rw f.1 (ap (take_map Map) (take_number_16 n x f.0))
take_head_takes (Map n) a x (inr (inr f)) = rw f.1 (ap (take_map Map) (take_number_32 n x f.0))
take_head_takes (Ext n tag) a x (inl f) = rw (f.2, f.0) (tag_gives 1 tag x f.1)
take_head_takes (Ext n tag) a x (inr (inl f)) = rw (f.2, f.0) (tag_gives 2 tag x f.1)
take_head_takes (Ext n tag) a x (inr (inr (inl f))) = rw (f.2, f.0) (tag_gives 4 tag x f.1)
take_head_takes (Ext n tag) a x (inr (inr (inr (inl f)))) = rw (f.2, f.0) (tag_gives 8 tag x f.1)
take_head_takes (Ext n tag) a x (inr (inr (inr (inr (inl f))))) = rw (f.2, f.0) (tag_gives 16 tag x f.1)
take_head_takes (Ext n tag) a x (inr (inr (inr (inr (inr (inl f)))))) = rw f.2
    (ap (λ t. take_then t take_tag) (take_number_8 n (tag_byte tag ∷ x) f.0) ∙ tag_gives n tag x f.1)
take_head_takes (Ext n tag) a x (inr (inr (inr (inr (inr (inr (inl f))))))) = rw f.2
    (ap (λ t. take_then t take_tag) (take_number_16 n (tag_byte tag ∷ x) f.0) ∙ tag_gives n tag x f.1)
take_head_takes (Ext n tag) a x (inr (inr (inr (inr (inr (inr (inr f))))))) = rw f.2
    (ap (λ t. take_then t take_tag) (take_number_32 n (tag_byte tag ∷ x) f.0) ∙ tag_gives n tag x f.1)

-- No head begins a different head.
pub heads_differ : (h k : Head) (a b x y : List ℕ) → IsHead h a → IsHead k b → a ++ x ≡ b ++ y → (h ≡ k) × (a ≡ b) × (x ≡ y)
heads_differ h k a b x y p q e =
    let same : Some (h, x) ≡ Some (k, y) = sym (take_head_takes h a x p) ∙ ap take_head e ∙ take_head_takes k b y q in
    let parts : (h ≡ k) × (x ≡ y) = some_pair_parts h k x y same in
    (parts.0, append_cancel_right a b y (ap (λ t. a ++ t) (sym parts.1) ∙ e), parts.1)
