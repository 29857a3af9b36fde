-- The bits of a double, by its exponent's field and its digits.
use Rattle.std.proofs.Common.{◌≡◌, ◌∙◌, sym, ap, refl, inl, inr, subst, arith, ℕ, suc, zero, ◌+◌, ◌-◌, ◌*◌, ◌/◌, ◌%◌, ◌<◌, ◌≤◌, Bool, true, false}
use Rattle.std.specs.Prelude.{◌^◌, if◌then◌else◌, from_bits}
use Rattle.std.proofs.lemmas.Nat.{leading_top}
use Rattle.std.proofs.lemmas.Bool.{cases_lt, cond-false, ne_eqb, le-leb, lt-leb}
use Rattle.std.proofs.Math.Nat.{mul_assoc, mul-le-mul_right, mul-lt-mul_of_pos_right}
use lib.Pow.{pow-add, pow_pos, pow_mono}
use lib.Count.{count_leading_zeros}
use lib.Dec.{leb, eqb}
use lib.Ieee.{Float, binary32, binary64, odd, of_fields, of_bits, hid, top, ones, low}
use lib.Ieee.Exact.{HasValue, odd_sign}
use Rattle.rmp_types.specs.FloatBits.{with_sign, IsPlaced}

-- the sign's test, of a double's bits
signed : (s : Bool) (b : ℕ) → b < 9223372036854775808 → leb 9223372036854775808 (with_sign s b) ≡ s
signed true b l = le-leb 9223372036854775808 (9223372036854775808 + b) (omega arith)
signed false b l = lt-leb 9223372036854775808 (0 + b) (omega arith)

low_rest : (b : ℕ) → b < 9223372036854775808 → (0 + b) % 9223372036854775808 ≡ b
low_rest b l = omega arith

high_rest : (b : ℕ) → b < 9223372036854775808 → (9223372036854775808 + b) % 9223372036854775808 ≡ b
high_rest b l = omega arith

rest_is : (s : Bool) (b : ℕ) → b < 9223372036854775808 → with_sign s b % 9223372036854775808 ≡ b
rest_is true b l = high_rest b l
rest_is false b l = low_rest b l

low_digits : (b : ℕ) → (0 + b) % 4503599627370496 ≡ b % 4503599627370496
low_digits b = omega arith

high_digits : (b : ℕ) → (9223372036854775808 + b) % 4503599627370496 ≡ b % 4503599627370496
high_digits b = omega arith

low_is : (s : Bool) (b : ℕ) → with_sign s b % 4503599627370496 ≡ b % 4503599627370496
low_is true b = high_digits b
low_is false b = low_digits b

pub fields_of : (s : Bool) (b : ℕ) → b < 9223372036854775808
    → of_bits binary64 (with_sign s b) ≡ of_fields binary64 s (b / 4503599627370496) (b % 4503599627370496)
unfolding of_bits
fields_of s b l =
    ap (λ y. of_fields binary64 y (with_sign s b % 9223372036854775808 / 4503599627370496) (with_sign s b % 4503599627370496)) (signed s b l)
    ∙ ap (λ y. of_fields binary64 s (y / 4503599627370496) (with_sign s b % 4503599627370496)) (rest_is s b l)
    ∙ ap (λ y. of_fields binary64 s (b / 4503599627370496) y) (low_is s b)

-- of a field x, neither the first nor the last, and of the digits t below the leading one
middle : (s : Bool) (x t : ℕ) → suc x < 2047 → of_fields binary64 s (suc x) t ≡ odd 53 s (4503599627370496 + t) x 1074
unfolding of_fields
middle s x t l = cond-false _ _ _ (ne_eqb (suc x) 2047 (λ e. omega arith))

field_is : (s : Bool) (x t : ℕ) → suc x < 2047 → t < 4503599627370496
    → of_bits binary64 (with_sign s (suc x * 4503599627370496 + t)) ≡ odd 53 s (4503599627370496 + t) x 1074
field_is s x t l m =
    let b : ℕ = suc x * 4503599627370496 + t in
    let field : b / 4503599627370496 ≡ suc x = omega arith in
    let digits : b % 4503599627370496 ≡ t = omega arith in
    fields_of s b (omega arith)
    ∙ ap (λ y. of_fields binary64 s y (b % 4503599627370496)) field
    ∙ ap (λ y. of_fields binary64 s (suc x) y) digits
    ∙ middle s x t l

-- ---- the digits that are moved up to the 53rd place

pub record Moved (m : ℕ) : Type 0 where
  pub zeros : ℕ
  pub count : count_leading_zeros 64 m ≡ zeros + 11
  pub few : zeros ≤ 52
  pub least : 4503599627370496 ≤ m * 2 ^ zeros
  pub below : m * 2 ^ zeros < 9007199254740992

pub moved : (m : ℕ) → 0 < m → m < 9007199254740992 → Moved m
moved m p l =
    let t = leading_top 64 m p (omega arith) in
    let j = t.0 in
    let small : j ≤ 52 = elim (cases_lt 52 j) [
      | inl far ↦ absurd (let big : 2 ^ 53 ≤ 2 ^ j = pow_mono far in let lo = t.2 in omega (arith, big, lo, l))
      | inr near ↦ near
    ] in
    let z : ℕ = 52 - j in
    let all : j + z ≡ 52 = omega arith in
    let low : 2 ^ j * 2 ^ z ≡ 4503599627370496 = sym (pow-add 2 j z) ∙ ap (λ y. 2 ^ y) all in
    let more : suc j + z ≡ 53 = omega arith in
    let high : 2 ^ suc j * 2 ^ z ≡ 9007199254740992 = sym (pow-add 2 (suc j) z) ∙ ap (λ y. 2 ^ y) more in
    record {
      zeros = z;
      count = (let c = t.1 in omega (arith, c, small));
      few = omega arith;
      least = subst (λ y. y ≤ m * 2 ^ z) low (mul-le-mul_right (2 ^ z) t.2);
      below = subst (λ y. m * 2 ^ z < y) high (mul-lt-mul_of_pos_right t.3 (pow_pos z));
    }

module _ (m base : ℕ) (a : 0 < m) (b : m < 9007199254740992) (c : 53 ≤ base) (d : base < 2046) where
  -- the code's bits
  abbrev bits_of : ℕ
  bits_of = (base - (count_leading_zeros 64 m - 11)) * 4503599627370496 + (m * 2 ^ (count_leading_zeros 64 m - 11)) % 18446744073709551616

  written_is : (t : Moved m) → bits_of ≡ suc (base - t.zeros) * 4503599627370496 + (m * 2 ^ t.zeros - 4503599627370496)
  written_is t =
      let z : count_leading_zeros 64 m - 11 ≡ t.zeros = (let q = t.count in omega arith) in
      ap (λ y. (base - y) * 4503599627370496 + (m * 2 ^ y) % 18446744073709551616) z
      ∙ (let lo = t.least in let hi = t.below in omega (arith, lo, hi))

  value_is : (t : Moved m) → (m * 2 ^ t.zeros) * 2 ^ (base - t.zeros) ≡ m * 2 ^ base
  value_is t =
      let all : t.zeros + (base - t.zeros) ≡ base = (let f = t.few in omega (arith, f, c)) in
      mul_assoc m (2 ^ t.zeros) (2 ^ (base - t.zeros)) ∙ ap (λ y. m * y) (sym (pow-add 2 t.zeros (base - t.zeros)) ∙ ap (λ y. 2 ^ y) all)

  placed_at : (t : Moved m) → IsPlaced m base (suc (base - t.zeros) * 4503599627370496 + (m * 2 ^ t.zeros - 4503599627370496))
  placed_at t = λ s.
      let digits : 4503599627370496 + (m * 2 ^ t.zeros - 4503599627370496) ≡ m * 2 ^ t.zeros = (let lo = t.least in omega (arith, lo)) in
      let x : ℕ = base - t.zeros in
      let float = field_is s x (m * 2 ^ t.zeros - 4503599627370496) (omega (arith, d)) (let hi = t.below in omega (arith, hi))
      ∙ ap (λ y. odd 53 s y x 1074) digits in
      subst (λ y. HasValue y s (m * 2 ^ base) (2 ^ 1074)) (sym float)
      (subst (λ y. HasValue (odd 53 s (m * 2 ^ t.zeros) x 1074) s y (2 ^ 1074)) (value_is t) (odd_sign 53 s (m * 2 ^ t.zeros) x 1074))

  pub placed_is : IsPlaced m base bits_of
  placed_is = let t = moved m a b in subst (IsPlaced m base) (sym (written_is t)) (placed_at t)

  pub placed_below : bits_of < 9223372036854775808
  placed_below = let t = moved m a b in
      subst (λ y. y < 9223372036854775808) (sym (written_is t)) (let hi = t.below in let lo = t.least in omega (arith, lo, hi, d))

pub many_zeros : (m : ℕ) → 0 < m → m < 9007199254740992 → 11 ≤ count_leading_zeros 64 m
many_zeros m a b = let t = moved m a b in let q = t.count in omega (arith, q)
