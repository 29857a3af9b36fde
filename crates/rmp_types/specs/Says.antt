-- What the payload that is written says.
use Rattle.std.proofs.Common.{◌≡◌, ◌⊎◌, ◌∙◌, sym, ap, refl, subst, inl, inr, arith, ℕ, ℤ, pos, negsuc, ◌<◌, ◌≤◌, ◌+◌, ◌*◌, ◌++◌, length, take, drop, List, true, false, nat_lt, nat_eq}
use Rattle.std.specs.Prelude.{FitsSigned, ◌&&◌, ◌^◌}
use Rattle.std.specs.Int.{w32, w64, to_be_bytes, from_be_bytes, cast_unsigned, cast_signed}
use Rattle.std.proofs.lemmas.Bool.{cases_lt, cases_eq, lt-ltb, le-ltb, cond-true, cond-false, eq-eqb}
use Rattle.std.proofs.lemmas.Nat.{from_be_bytes-to_be_bytes_4, from_be_bytes-to_be_bytes_8}
use Rattle.std.proofs.lemmas.Int.{to_z-of_z}
use Rattle.std.proofs.Math.Facts.{Fits-of_z}
use Rattle.rmp_types.specs.Payloads.{Says, Short, Middle, Long, time_payload, short_or_middle, long_payload}
use Rattle.rmp_types.specs.PayloadCases.{low_seconds, high_seconds, below_0}

fits_unsigned : (z : ℤ) → FitsSigned w64 z → cast_unsigned w64 z < 2 ^ 64
fits_unsigned z h = (Fits-of_z h).fits

pub long_says : (z : ℤ) (k : ℕ) → FitsSigned w64 z → k < 4294967296 → Says (long_payload z k) z k
long_says z k f l = inr (inr (record {
  long = refl;
  nanoseconds_are = sym (from_be_bytes-to_be_bytes_4 k l);
  seconds_are = sym (ap (cast_signed w64) (from_be_bytes-to_be_bytes_8 (cast_unsigned w64 z) (fits_unsigned z f)) ∙ to_z-of_z w64 z f);
}))

middle_says : (n k : ℕ) → n < 17179869184 → k < 1073741824 → Says (to_be_bytes w64 (k * 17179869184 + n)) (pos n) k
middle_says n k l m = inr (inl (record {
  long = refl;
  low = n;
  low_fits = l;
  seconds_are = refl;
  word = from_be_bytes-to_be_bytes_8 (k * 17179869184 + n) (omega arith);
}))

short_says : (n : ℕ) → n < 4294967296 → Says (to_be_bytes w32 n) (pos n) 0
short_says n l = inl (record { long = refl; seconds_are = ap pos (sym (from_be_bytes-to_be_bytes_4 n l)); nanoseconds_are = refl })

low_says : (n k : ℕ) → n < 17179869184 → k < 1073741824 → Says (short_or_middle n k) (pos n) k
low_says n k l m = elim (cases_eq k 0) [
  | inr some ↦
      let no : (nat_eq k 0 && nat_lt n 4294967296) ≡ false = grind arith in
      subst (λ z. Says z (pos n) k) (sym (cond-false (nat_eq k 0 && nat_lt n 4294967296) _ _ no)) (middle_says n k l m)
  | inl none ↦ elim (cases_lt n 4294967296) [
    | inl small ↦
        let yes : (nat_eq k 0 && nat_lt n 4294967296) ≡ true = grind arith in
        subst (λ z. Says z (pos n) k) (sym (cond-true (nat_eq k 0 && nat_lt n 4294967296) _ _ yes)) (subst (λ j. Says (to_be_bytes w32 n) (pos n) j) (sym none) (short_says n small))
    | inr large ↦
        let no : (nat_eq k 0 && nat_lt n 4294967296) ≡ false = grind arith in
        subst (λ z. Says z (pos n) k) (sym (cond-false (nat_eq k 0 && nat_lt n 4294967296) _ _ no)) (middle_says n k l m)
  ]
]

pub payload_says : (z : ℤ) (k : ℕ) → FitsSigned w64 z → k < 1073741824 → Says (time_payload z k) z k
payload_says (pos n) k f m = elim (cases_lt n 17179869184) [
  | inl l ↦ subst (λ y. Says y (pos n) k) (sym (low_seconds (pos n) n k refl l)) (low_says n k l m)
  | inr g ↦ subst (λ y. Says y (pos n) k) (sym (high_seconds (pos n) n k refl g)) (long_says (pos n) k f (omega arith))
]
payload_says (negsuc n) k f m = subst (λ y. Says y (negsuc n) k) (sym (below_0 n k)) (long_says (negsuc n) k f (omega arith))

-- ---- a payload says one point in time

middle_once : (p : List ℕ) (y z : ℤ) (j k : ℕ) → Middle p y j → Middle p z k → (y ≡ z) × (j ≡ k)
middle_once p y z j k a b =
    let word : j * 17179869184 + a.low ≡ k * 17179869184 + b.low = sym a.word ∙ b.word in
    let low : a.low ≡ b.low = omega (arith, a.low_fits, b.low_fits, word) in
    (a.seconds_are ∙ ap pos low ∙ sym b.seconds_are, omega (arith, a.low_fits, b.low_fits, word))

pub says_once : (p : List ℕ) (y z : ℤ) (j k : ℕ) → Says p y j → Says p z k → (y ≡ z) × (j ≡ k)
says_once p y z j k (inl a) (inl b) = (a.seconds_are ∙ sym b.seconds_are, a.nanoseconds_are ∙ sym b.nanoseconds_are)
says_once p y z j k (inl a) (inr (inl b)) = absurd (omega (arith, a.long, b.long))
says_once p y z j k (inl a) (inr (inr b)) = absurd (omega (arith, a.long, b.long))
says_once p y z j k (inr (inl a)) (inl b) = absurd (omega (arith, a.long, b.long))
says_once p y z j k (inr (inl a)) (inr (inl b)) = middle_once p y z j k a b
says_once p y z j k (inr (inl a)) (inr (inr b)) = absurd (omega (arith, a.long, b.long))
says_once p y z j k (inr (inr a)) (inl b) = absurd (omega (arith, a.long, b.long))
says_once p y z j k (inr (inr a)) (inr (inl b)) = absurd (omega (arith, a.long, b.long))
says_once p y z j k (inr (inr a)) (inr (inr b)) = (a.seconds_are ∙ sym b.seconds_are, a.nanoseconds_are ∙ sym b.nanoseconds_are)
