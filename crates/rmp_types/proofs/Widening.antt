-- The double that a float of 32 bits is.
use Rattle.std.proofs.Common.{◌≡◌, ◌⊎◌, ◌∙◌, sym, ap, refl, subst, inl, inr, arith, ℕ, suc, zero, ℤ, pos, negsuc, ◌+◌, ◌-◌, ◌*◌, ◌/◌, ◌%◌, ◌<◌, ◌≤◌, Bool, true, false}
use Rattle.std.specs.Prelude.{◌^◌, T, ◌&&◌, not, from_bits, is_nan, if◌then◌else◌, unsigned_abs}
use Rattle.std.proofs.lemmas.Bool.{cases_lt, cases_eq, cond-true, cond-false, ne_eqb, eq-eqb, le-leb, lt-leb}
use Rattle.std.proofs.lemmas.Int.{ints}
use Rattle.std.proofs.lemmas.Float.{T_from_true}
use Rattle.std.proofs.Math.Nat.{eq_of_mul-eq-mul_right, mul-pos}
use lib.Pow.{pow_pos}
use lib.Signed.{lt_z}
use lib.Dec.{eqb, leb, eqb→eq}
use lib.Ieee.{Float, nan, inf, fin, binary32, binary64, of_bits, of_fields, nan_bits, odd, up, down}
use lib.Ieee.Bits.{nan_bits_is}
use lib.Ieee.Exact.{HasValue, odd_sign}
use lib.Ieee.Fits.{and_l}
use Rattle.rmp_types.specs.Floats.{IsSameFloat, IsWhole, Widens}
use Rattle.rmp_types.specs.FloatBits.{IsSame, IsPlaced, IsSize, NoSize, with_sign}
use Rattle.rmp_types.proofs.Placing.{fields_of}
use Rattle.rmp_types.proofs.Sizes.{moved_up}

-- ---- numbers of the same sign and size

same_number : (t u s : Bool) (m n : ℕ) (e g : ℤ) (w l k : ℕ) → 0 < l * k → HasValue (fin t m e) s w l → HasValue (fin u n g) s (w * k) (l * k)
    → IsSameFloat (fin t m e) (fin u n g)
same_number t u s m n e g w l k p h i =
    let by_first : m * up e * l * k * down g ≡ w * down e * k * down g = ap (λ y. y * k * down g) h.1 in
    let by_second : n * up g * (l * k) * down e ≡ w * k * down g * down e = ap (λ y. y * down e) i.1 in
    (i.0 ∙ sym h.0, eq_of_mul-eq-mul_right (l * k) p (n * up g * down e) (m * up e * down g) (omega (arith, by_first, by_second)))

same_as : (x y : Float) (s : Bool) (w l k : ℕ) → 0 < l * k → HasValue x s w l → HasValue y s (w * k) (l * k) → IsSameFloat x y
same_as nan y s w l k p h i = absurd h
same_as (inf t) y s w l k p h i = absurd h
same_as (fin t m e) nan s w l k p h i = absurd i
same_as (fin t m e) (inf u) s w l k p h i = absurd i
same_as (fin t m e) (fin u n g) s w l k p h i = same_number t u s m n e g w l k p h i

-- ---- by the exponent's field

-- the places below the point of both formats: 2 ^ 149 and 2 ^ 1074 stand for a and b
pub same_placed : (s : Bool) (q x base b : ℕ) (y : Float) → base ≡ 925 + x → HasValue y s (q * 2 ^ base) (2 ^ 1074) → IsSameFloat (odd 24 s q x 149) y
same_placed s q x base b y e h =
    let w : ℕ = q * 2 ^ x in
    let moved : q * 2 ^ base ≡ w * 2 ^ 925 = ap (λ z. q * 2 ^ z) e ∙ moved_up q x 925 in
    same_as (odd 24 s q x 149) y s w (2 ^ 149) (2 ^ 925) (mul-pos (pow_pos 149) (pow_pos 925)) (odd_sign 24 s q x 149)
    (subst (λ z. HasValue y s z (2 ^ 1074)) moved h)

-- neither the first field nor the last
narrow_middle : (s : Bool) (x d : ℕ) → suc x < 255 → of_fields binary32 s (suc x) d ≡ odd 24 s (8388608 + d) x 149
unfolding of_fields
narrow_middle s x d l = cond-false _ _ _ (ne_eqb (suc x) 255 (λ e. omega arith))

narrow_low : (s : Bool) (d : ℕ) → of_fields binary32 s 0 d ≡ odd 24 s d 0 149
unfolding of_fields
narrow_low s d = refl

module _ (d b : ℕ) where
  same_middle : (x : ℕ) → suc x < 255 → IsPlaced (d + 8388608) (924 + suc x) b → IsSame (suc x) d b
  same_middle x l p = record {
    value = λ s. subst (λ z. IsSameFloat z (from_bits binary64 (with_sign s b))) (sym (narrow_middle s x d l))
        (same_placed s (8388608 + d) x (924 + suc x) b _ (omega arith)
        (subst (λ z. HasValue (from_bits binary64 (with_sign s b)) s (z * 2 ^ (924 + suc x)) (2 ^ 1074)) (omega arith) (p s)));
    payload = λ e. absurd (omega (arith, e, l));
  }

  pub same_field : (field : ℕ) → 0 < field → field < 255 → IsPlaced (d + 8388608) (924 + field) b → IsSame field d b
  same_field zero p l i = absurd (omega arith)
  same_field (suc x) p l i = same_middle x l i

  pub same_low : (field : ℕ) → field ≡ 0 → IsPlaced d 925 b → IsSame field d b
  same_low field e p = subst (λ z. IsSame z d b) (sym e) (record {
    value = λ s. subst (λ z. IsSameFloat z (from_bits binary64 (with_sign s b))) (sym (narrow_low s d)) (same_placed s d 0 925 b _ refl (p s));
    payload = λ f. absurd (omega (arith, f));
  })

-- ---- zero

zero_double : (s : Bool) → of_bits binary64 (with_sign s 0) ≡ fin s 0 (pos 0)
unfolding of_fields odd
zero_double s = fields_of s 0 (omega arith)

zero_float : (s : Bool) → of_fields binary32 s 0 0 ≡ fin s 0 (pos 0)
unfolding of_fields odd
zero_float s = refl

zero_value : (s : Bool) → HasValue (of_bits binary64 (with_sign s 0)) s 0 1
zero_value s = subst (λ y. HasValue y s 0 1) (sym (zero_double s)) (refl, refl)

pub same_zero : (field digits : ℕ) → field ≡ 0 → digits ≡ 0 → IsSame field digits 0
same_zero field digits e f = subst (λ z. IsSame z digits 0) (sym e) (subst (λ z. IsSame 0 z 0) (sym f) (record {
  value = λ s. subst (λ z. IsSameFloat z (from_bits binary64 (with_sign s 0))) (sym (zero_float s)) (zero_value s);
  payload = λ g. absurd (omega (arith, g));
}))

-- ---- infinities and NaNs

top_double : (s : Bool) (t : ℕ) → of_fields binary64 s 2047 t ≡ (if eqb t 0 then inf s else nan)
unfolding of_fields
top_double s t = refl

top_float : (s : Bool) (d : ℕ) → of_fields binary32 s 255 d ≡ (if eqb d 0 then inf s else nan)
unfolding of_fields
top_float s d = refl

module _ (s : Bool) (d : ℕ) (l : d < 8388608) where
  abbrev top_bits : ℕ
  top_bits = 9218868437227405312 + d * 536870912

  top_fields : of_bits binary64 (with_sign s top_bits) ≡ (if eqb (d * 536870912) 0 then inf s else nan)
  top_fields =
      let field : top_bits / 4503599627370496 ≡ 2047 = omega (arith, l) in
      let digits : top_bits % 4503599627370496 ≡ d * 536870912 = omega (arith, l) in
      fields_of s top_bits (omega (arith, l)) ∙ ap (λ y. of_fields binary64 s y (top_bits % 4503599627370496)) field
      ∙ ap (λ y. of_fields binary64 s 2047 y) digits ∙ top_double s (d * 536870912)

  infinite : d ≡ 0 → IsSameFloat (of_fields binary32 s 255 d) (of_bits binary64 (with_sign s top_bits))
  infinite e =
      let float : of_fields binary32 s 255 d ≡ inf s = top_float s d ∙ cond-true (eqb d 0) (inf s) nan (eq-eqb d 0 e) in
      let double = top_fields ∙ cond-true (eqb (d * 536870912) 0) (inf s) nan (eq-eqb (d * 536870912) 0 (omega (arith, e))) in
      subst (λ z. IsSameFloat z (of_bits binary64 (with_sign s top_bits))) (sym float) double

  no_number : 0 < d → IsSameFloat (of_fields binary32 s 255 d) (of_bits binary64 (with_sign s top_bits))
  no_number p =
      let float : of_fields binary32 s 255 d ≡ nan = top_float s d ∙ cond-false (eqb d 0) (inf s) nan (ne_eqb d 0 (λ e. omega (arith, e, p))) in
      let double = top_fields ∙ cond-false (eqb (d * 536870912) 0) (inf s) nan (ne_eqb (d * 536870912) 0 (λ e. omega (arith, e, p))) in
      subst (λ z. IsSameFloat z (of_bits binary64 (with_sign s top_bits))) (sym float) double

  top_value : IsSameFloat (of_fields binary32 s 255 d) (of_bits binary64 (with_sign s top_bits))
  top_value = elim (cases_lt 0 d) [ inl p ↦ no_number p | inr z ↦ infinite (omega (arith, z)) ]

pub same_top : (field d : ℕ) → d < 8388608 → field ≡ 255 → IsSame field d (9218868437227405312 + d * 536870912)
same_top field d l e = subst (λ z. IsSame z d (9218868437227405312 + d * 536870912)) (sym e) (record {
  value = λ s. top_value s d l;
  payload = λ _. omega (arith, l);
})

-- ---- the whole float

narrow_fields : (n : ℕ) → of_bits binary32 n ≡ of_fields binary32 (leb 2147483648 n) (n % 2147483648 / 8388608) (n % 8388608)
unfolding of_bits
narrow_fields n = refl

nan_field : (n : ℕ) → is_nan (of_bits binary32 n) ≡ true → n % 2147483648 / 8388608 ≡ 255
unfolding nan_bits
nan_field n e = eqb→eq (n % 2147483648 / 8388608) 255 (and_l (eqb (n % 2147483648 / 8388608) 255) (not (eqb (n % 8388608) 0))
    (T_from_true (nan_bits binary32 n) (nan_bits_is binary32 n ∙ e)))

module _ (n r : ℕ) (l : n < 4294967296) (below : r < 9223372036854775808) (i : IsSame (n / 8388608 % 256) (n % 8388608) r) where
  field_same : n % 2147483648 / 8388608 ≡ n / 8388608 % 256
  field_same = omega (arith, l)

  sign_value : (s : Bool) → leb 2147483648 n ≡ s → n / 2147483648 * 9223372036854775808 + r ≡ with_sign s r
      → IsSameFloat (of_bits binary32 n) (of_bits binary64 (n / 2147483648 * 9223372036854775808 + r))
  sign_value s e b =
      let float = narrow_fields n ∙ ap (λ y. of_fields binary32 y (n % 2147483648 / 8388608) (n % 8388608)) e
      ∙ ap (λ y. of_fields binary32 s y (n % 8388608)) field_same in
      subst (λ y. IsSameFloat y (of_bits binary64 (n / 2147483648 * 9223372036854775808 + r))) (sym float)
      (subst (λ y. IsSameFloat (of_fields binary32 s (n / 8388608 % 256) (n % 8388608)) (of_bits binary64 y)) (sym b) (i.value s))

  high_bits : 2147483648 ≤ n → n / 2147483648 * 9223372036854775808 + r ≡ 9223372036854775808 + r
  high_bits g = omega (arith, l, g)

  low_bits : n < 2147483648 → n / 2147483648 * 9223372036854775808 + r ≡ 0 + r
  low_bits g = omega (arith, g)

  pub widens : Widens n (n / 2147483648 * 9223372036854775808 + r)
  widens = record {
    value = elim (cases_lt n 2147483648) [
      | inl g ↦ sign_value false (lt-leb 2147483648 n g) (low_bits g)
      | inr g ↦ sign_value true (le-leb 2147483648 n g) (high_bits g)
    ];
    payload = λ e.
        let p = i.payload (sym field_same ∙ nan_field n e) in
        (omega (arith, l, below), omega (arith, p));
  }

-- ---- whole numbers

pub whole_zero : IsWhole (pos 0) 0
whole_zero = zero_value false

pub no_whole : (z : ℤ) (n : ℕ) → unsigned_abs z ≡ n → NoSize n → (b : ℕ) → IsWhole z b → ⊥
no_whole (pos m) n e f b h = f false b (subst (λ y. HasValue (from_bits binary64 b) false y 1) e h)
no_whole (negsuc m) n e f b h = f true b (subst (λ y. HasValue (from_bits binary64 b) true y 1) e h)

pub whole_above : (z : ℤ) (n b : ℕ) → unsigned_abs z ≡ n → lt_z z (pos 0) ≡ false → IsSize n b → IsWhole z b
whole_above (pos m) n b e f i =
    let plain : 0 + b ≡ b = omega arith in
    subst (λ y. HasValue (from_bits binary64 y) false m 1) plain (subst (λ y. HasValue (from_bits binary64 (0 + b)) false y 1) (sym e) (i false))
whole_above (negsuc m) n b e f i = absurd (cc)

pub whole_below : (z : ℤ) (n b : ℕ) → unsigned_abs z ≡ n → lt_z z (pos 0) ≡ true → IsSize n b → IsWhole z (9223372036854775808 + b)
whole_below (pos m) n b e l i = absurd (grind (arith, ints))
whole_below (negsuc m) n b e l i = subst (λ y. HasValue (from_bits binary64 (9223372036854775808 + b)) true y 1) (sym e) (i true)
