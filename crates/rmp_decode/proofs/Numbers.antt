-- What is read of numbers, texts and bytes.
use Rattle.std.proofs.Common.{◌≡◌, ◌<◌, ◌≤◌, ◌^◌, ℕ, ℤ, pos, negsuc, ◌≤ℤ◌, arith, List, Bool, true, false, ap, ◌∙◌}
use Rattle.rmp_decode.specs.Kinds.{raw_msg}
use Rattle.std.proofs.Math.IntN.{nat_abs}
use Rattle.std.proofs.lemmas.Int.{ints, to_z-of_z}
use Rattle.std.specs.Int.{w64}
use Rattle.std.specs.Prelude.{FitsSigned}
use mir.Val.{to_z, of_z, hbits, SFits}
use mir.Syntax.{Width}

-- a number up to one that isn't below zero, by that one's size
pub abs_within : (n : ℕ) (most : ℤ) → pos 0 ≤ℤ most → n ≤ nat_abs most → pos n ≤ℤ most
abs_within n (pos k) l h = omega (arith, ints)
abs_within n (negsuc k) l h = absurd (omega (arith, ints))

-- as it is stored in 64 bits
pub small_signed : (n : ℕ) (most : ℤ) → pos n ≤ℤ most → FitsSigned w64 most → to_z w64 n ≡ pos n
small_signed n most l f =
    let b : n < 2 ^ 63 = grind (arith, ints) in
    grind (arith, ints)

pub raw_same : (t u : Bool) (s r : List ℕ) → raw_msg t s ≡ raw_msg u r → s ≡ r
raw_same true true s r e = cc
raw_same true false s r e = absurd (cc)
raw_same false true s r e = absurd (cc)
raw_same false false s r e = cc

-- ---- numbers in narrower words

fits_between : (w : Width) (m : ℕ) (z : ℤ) → negsuc m ≤ℤ z → z ≤ℤ pos m → m < 2 ^ hbits w → SFits w z
fits_between w m (pos n) l h b = record { sfits = omega (arith, ints, h, b) }
fits_between w m (negsuc n) l h b = record { sfits = omega (arith, ints, l, b) }

-- a number of 64 bits that fits a narrower word stays when it is put there
pub narrowed : (w : Width) (m : ℕ) (z : ℤ) → negsuc m ≤ℤ z → z ≤ℤ pos m → m < 2 ^ hbits w → m < 2 ^ 63 → to_z w (of_z w (to_z w64 (of_z w64 z))) ≡ z
narrowed w m z l h b k = ap (λ t. to_z w (of_z w t)) (to_z-of_z w64 z (fits_between w64 m z l h k)) ∙ to_z-of_z w z (fits_between w m z l h b)
