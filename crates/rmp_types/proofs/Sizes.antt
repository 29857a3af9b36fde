-- Whole numbers that doubles hold: those whose odd part has at most 53 bits.
use Rattle.std.proofs.Common.{◌≡◌, ◌∙◌, sym, ap, refl, subst, inl, inr, arith, ℕ, suc, zero, ℤ, pos, negsuc, ◌+◌, ◌-◌, ◌*◌, ◌/◌, ◌%◌, ◌<◌, ◌≤◌, Bool, true, false}
use Rattle.std.specs.Prelude.{◌^◌, T, ◌&&◌}
use Rattle.std.proofs.Math.Nat.{mul_assoc, mul_comm, mul_left_comm, mul_right_comm, mul-one, zero-mul, eq_of_mul-eq-mul_right, mul-pos, pow-suc, pow-succ', div-div-eq-div-mul, div-one}
use lib.Pow.{pow-add, pow_pos}
use lib.Count.{count_trailing_zeros, under}
use lib.Dec.{eqb, ltb, leb, eqb→eq, ltb→lt}
use lib.Ieee.{Float, nan, inf, fin, binary64, fits, of_bits, up, down, prec, emax, low}
use lib.Ieee.Bits.{of_bits-fits}
use lib.Ieee.Exact.{HasValue}
use lib.Ieee.Fits.{and_l, and_r, down_pos}
use Rattle.rmp_types.specs.FloatBits.{IsSize, NoSize, with_sign}

-- ---- the odd part of a number

pub record OddPart (n t : ℕ) : Type 0 where
  pub whole : n / 2 ^ t * 2 ^ t ≡ n
  pub odd : (n / 2 ^ t) % 2 ≡ 1

-- one zero more
one_more : (n t : ℕ) → n % 2 ≡ 0 → OddPart (n / 2) t → OddPart n (suc t)
one_more n t e h =
    let halves : n / 2 ^ suc t ≡ n / 2 / 2 ^ t = ap (λ y. n / y) (pow-succ' 2 t) ∙ sym (div-div-eq-div-mul n 2 (2 ^ t)) in
    let twice : 2 * (n / 2) ≡ n = omega arith in
    record {
      whole = ap (λ y. y * 2 ^ suc t) halves ∙ ap (λ y. n / 2 / 2 ^ t * y) (pow-succ' 2 t) ∙ mul_left_comm (n / 2 / 2 ^ t) 2 (2 ^ t)
          ∙ ap (λ y. 2 * y) h.whole ∙ twice;
      odd = ap (λ y. y % 2) halves ∙ h.odd;
    }

none : (n r : ℕ) → n % 2 ≡ suc r → OddPart n 0
none n r e = record { whole = mul-one (n / 1) ∙ div-one n; odd = ap (λ y. y % 2) (div-one n) ∙ omega arith }

half_below : (k n : ℕ) → n < 2 ^ suc k → n / 2 < 2 ^ k
half_below k n l = let q : 2 ^ suc k ≡ 2 * 2 ^ k = pow-succ' 2 k in omega (arith, q, l)

last_digit : (k n r : ℕ) → n % 2 ≡ r → 0 < n → (0 < n / 2 → OddPart (n / 2) (count_trailing_zeros k (n / 2)))
    → OddPart n (under r (count_trailing_zeros k (n / 2)))
last_digit k n zero e p h = one_more n (count_trailing_zeros k (n / 2)) e (h (omega (arith, e, p)))
last_digit k n (suc r) e p h = none n r e

pub odd_part : (k n : ℕ) → 0 < n → n < 2 ^ k → OddPart n (count_trailing_zeros k n)
unfolding count_trailing_zeros
odd_part zero n p l = absurd (omega arith)
odd_part (suc k) n p l = last_digit k n (n % 2) refl p (λ q. odd_part k (n / 2) q (half_below k n l))

-- ---- a number has one odd part

even_odd : (m t : ℕ) → m % 2 ≡ 1 → m ≡ 2 * t → ⊥
even_odd m t o h = omega arith

odd_pow : (m n a b : ℕ) → m % 2 ≡ 1 → n % 2 ≡ 1 → m * 2 ^ a ≡ n * 2 ^ b → m ≡ n
odd_pow m n zero zero o p h = sym (mul-one m) ∙ h ∙ mul-one n
odd_pow m n zero (suc b) o p h = absurd (even_odd m (n * 2 ^ b) o (sym (mul-one m) ∙ h ∙ ap (λ x. n * x) (pow-succ' 2 b) ∙ mul_left_comm n 2 (2 ^ b)))
odd_pow m n (suc a) zero o p h = absurd (even_odd n (m * 2 ^ a) p (sym (mul-one n) ∙ sym h ∙ ap (λ x. m * x) (pow-succ' 2 a) ∙ mul_left_comm m 2 (2 ^ a)))
odd_pow m n (suc a) (suc b) o p h = odd_pow m n a b o p (eq_of_mul-eq-mul_right 2 (omega arith) (m * 2 ^ a) (n * 2 ^ b)
    (mul_assoc m (2 ^ a) 2 ∙ ap (λ x. m * x) (sym (pow-suc 2 a)) ∙ h ∙ ap (λ x. n * x) (pow-suc 2 b) ∙ sym (mul_assoc n (2 ^ b) 2)))

-- an odd m with a whole value has no exponent below 0
shape : (m : ℕ) (e : ℤ) (c : ℕ) → m % 2 ≡ 1 → m * up e * 1 ≡ c * down e → (a : ℕ) × (m * 2 ^ a ≡ c)
shape m (pos a) c o h = (a, sym (mul-one (m * 2 ^ a)) ∙ h ∙ mul-one c)
shape m (negsuc a) c o h =
    absurd (even_odd m (c * 2 ^ a) o (sym (mul-one m) ∙ sym (mul-one (m * 1)) ∙ h ∙ ap (λ x. c * x) (pow-succ' 2 a) ∙ mul_left_comm c 2 (2 ^ a)))

-- ---- the significand of a double is odd, and has at most 53 bits

module _ (s : Bool) (m : ℕ) (e : ℤ) where
  abbrev is_odd : Bool
  is_odd = eqb (suc m % 2) 1

  abbrev is_short : Bool
  is_short = ltb (suc m) 9007199254740992

  first_two : T (fits binary64 (fin s (suc m) e)) → T (is_odd && is_short)
  unfolding fits
  first_two t = and_l (is_odd && is_short) (leb (down e) (2 ^ low binary64))
      (and_l (is_odd && is_short && leb (down e) (2 ^ low binary64)) (ltb (suc m * up e) (2 ^ suc (emax binary64) * down e)) t)

  odd_digits : T (fits binary64 (fin s (suc m) e)) → suc m % 2 ≡ 1
  odd_digits t = eqb→eq (suc m % 2) 1 (and_l is_odd is_short (first_two t))

  short_digits : T (fits binary64 (fin s (suc m) e)) → suc m < 9007199254740992
  short_digits t = ltb→lt (suc m) 9007199254740992 (and_r is_odd is_short (first_two t))

-- ---- no double has the size

zero_size : (n : ℕ) (e : ℤ) → 0 < n → zero * up e * 1 ≡ n * down e → ⊥
zero_size n e p h = let some : 0 < n * down e = mul-pos p (down_pos e) in let none : zero * up e ≡ 0 = zero-mul (up e) in omega (arith, h, some, none)

module _ (n t : ℕ) (p : 0 < n) (o : OddPart n t) (long : 9007199254740992 ≤ n / 2 ^ t) where
  none_fits : (x : Float) (s : Bool) → T (fits binary64 x) → HasValue x s n 1 → ⊥
  none_fits nan s f h = h
  none_fits (inf u) s f h = h
  none_fits (fin u zero e) s f h = zero_size n e p h.1
  none_fits (fin u (suc m) e) s f h =
      let k = shape (suc m) e n (odd_digits u m e f) h.1 in
      let same : suc m ≡ n / 2 ^ t = odd_pow (suc m) (n / 2 ^ t) k.0 t (odd_digits u m e f) o.odd (k.1 ∙ sym o.whole) in
      omega (arith, same, long, short_digits u m e f)

  pub no_size : NoSize n
  no_size = λ s b h. none_fits (of_bits binary64 b) s (of_bits-fits binary64 b) h

-- ---- the double of the size

rescale : (x : Float) (s : Bool) (w l c : ℕ) → 0 < l → w ≡ c * l → HasValue x s w l → HasValue x s c 1
rescale nan s w l c p e h = h
rescale (inf u) s w l c p e h = h
rescale (fin u m k) s w l c p e h = (
  h.0,
  eq_of_mul-eq-mul_right l p (m * up k * 1) (c * down k)
      (ap (λ y. y * l) (mul-one (m * up k)) ∙ h.1 ∙ ap (λ y. y * down k) e ∙ mul_right_comm c l (down k)),
)

pub moved_up : (q t a : ℕ) → q * 2 ^ (a + t) ≡ (q * 2 ^ t) * 2 ^ a
moved_up q t a = ap (λ y. q * y) (pow-add 2 a t) ∙ mul_left_comm q (2 ^ a) (2 ^ t) ∙ sym (mul_comm (q * 2 ^ t) (2 ^ a))

pub size_is : (n t a b : ℕ) → a ≡ 1074 → OddPart n t → ((s : Bool) → HasValue (of_bits binary64 (with_sign s b)) s (n / 2 ^ t * 2 ^ (a + t)) (2 ^ a)) → IsSize n b
size_is n t a b q o h = λ s. rescale (of_bits binary64 (with_sign s b)) s (n / 2 ^ t * 2 ^ (a + t)) (2 ^ a) n (pow_pos a)
    (moved_up (n / 2 ^ t) t a ∙ ap (λ y. y * 2 ^ a) o.whole) (h s)
