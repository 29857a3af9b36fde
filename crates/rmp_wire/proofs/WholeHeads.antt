-- The canonical head of a whole number, by the range that tests of the number leave: a lemma for each head.
use Rattle.std.proofs.Common.{◌≡◌, ℕ, ◌^◌, ◌<◌, [], ◌∷◌, true, false, sym, refl, arith, pos, negsuc, ℤ}
use Rattle.std.specs.Int.{Width, w8, w16, w32, w64, to_be_bytes, cast_signed, cast_unsigned}
use Rattle.std.proofs.lemmas.Bool.{false≢true, leb-true, leb-false}
use Rattle.std.proofs.lemmas.Bool.Decides.{nat_tests}
use Rattle.std.proofs.lemmas.Int.{ints, to_z-of_z}
use mir.Val.{hbits}
use lib.Signed.{le_z}
use Rattle.std.specs.Prelude.{FitsSigned}
use Rattle.rmp_wire.specs.Heads.{canon_head}
use Rattle.rmp_wire.specs.Taking.{byte_of}
use Rattle.rmp_wire.specs.declared.marker.Marker.TheVariants.{FixNeg}
use Rattle.rmp_wire.specs.declared.head.Head.TheVariants.{Whole}

pub canon_u64 : (z : ℤ) → le_z (pos (2 ^ 32)) z ≡ true → canon_head (Whole z) ≡ 0xcf ∷ to_be_bytes w64 (cast_unsigned w64 z)
unfolding canon_head
canon_u64 (pos n) a = grind (arith, nat_tests)
canon_u64 (negsuc n) a = absurd (false≢true a)

pub canon_u32 : (z : ℤ) → le_z (pos (2 ^ 16)) z ≡ true → le_z (pos (2 ^ 32)) z ≡ false
    → canon_head (Whole z) ≡ 0xce ∷ to_be_bytes w32 (cast_unsigned w32 z)
unfolding canon_head
canon_u32 (pos n) a b = grind (arith, nat_tests)
canon_u32 (negsuc n) a b = absurd (false≢true a)

pub canon_u16 : (z : ℤ) → le_z (pos (2 ^ 8)) z ≡ true → le_z (pos (2 ^ 16)) z ≡ false
    → canon_head (Whole z) ≡ 0xcd ∷ to_be_bytes w16 (cast_unsigned w16 z)
unfolding canon_head
canon_u16 (pos n) a b = grind (arith, nat_tests)
canon_u16 (negsuc n) a b = absurd (false≢true a)

pub canon_u8 : (z : ℤ) → le_z (pos 128) z ≡ true → le_z (pos (2 ^ 8)) z ≡ false → canon_head (Whole z) ≡ 0xcc ∷ to_be_bytes w8 (cast_unsigned w8 z)
unfolding canon_head
canon_u8 (pos n) a b = grind (arith, nat_tests)
canon_u8 (negsuc n) a b = absurd (false≢true a)

pub canon_fixed : (z : ℤ) → le_z (negsuc 31) z ≡ true → le_z (pos 128) z ≡ false → canon_head (Whole z) ≡ cast_unsigned w8 z ∷ []
unfolding canon_head
canon_fixed (pos n) a b = grind (arith, nat_tests)
canon_fixed (negsuc n) a b = grind (arith, nat_tests)

pub canon_i8 : (z : ℤ) → le_z (negsuc 127) z ≡ true → le_z (negsuc 31) z ≡ false → canon_head (Whole z) ≡ 0xd0 ∷ to_be_bytes w8 (cast_unsigned w8 z)
unfolding canon_head
canon_i8 (pos n) a b = absurd (false≢true (sym b))
canon_i8 (negsuc n) a b = grind (arith, nat_tests)

pub canon_i16 : (z : ℤ) → le_z (negsuc 0x7fff) z ≡ true → le_z (negsuc 127) z ≡ false
    → canon_head (Whole z) ≡ 0xd1 ∷ to_be_bytes w16 (cast_unsigned w16 z)
unfolding canon_head
canon_i16 (pos n) a b = absurd (false≢true (sym b))
canon_i16 (negsuc n) a b = grind (arith, nat_tests)

pub canon_i32 : (z : ℤ) → le_z (negsuc 0x7fffffff) z ≡ true → le_z (negsuc 0x7fff) z ≡ false
    → canon_head (Whole z) ≡ 0xd2 ∷ to_be_bytes w32 (cast_unsigned w32 z)
unfolding canon_head
canon_i32 (pos n) a b = absurd (false≢true (sym b))
canon_i32 (negsuc n) a b = grind (arith, nat_tests)

pub canon_i64 : (z : ℤ) → le_z (negsuc 0x7fffffff) z ≡ false → canon_head (Whole z) ≡ 0xd3 ∷ to_be_bytes w64 (cast_unsigned w64 z)
unfolding canon_head
canon_i64 (pos n) b = absurd (false≢true (sym b))
canon_i64 (negsuc n) b = grind (arith, nat_tests)

-- ---- what the code's casts give

-- it fits the width that it is cast to
pub fits_fixed : (z : ℤ) → le_z (negsuc 31) z ≡ true → le_z (pos 128) z ≡ false → FitsSigned w8 z
fits_fixed z a b = omega (arith, ints)

pub fits_below_zero : (w : Width) (k : ℕ) (z : ℤ) → k < 2 ^ hbits w → le_z (negsuc k) z ≡ true → le_z (pos 0) z ≡ false → FitsSigned w z
fits_below_zero w k (pos n) h a b = absurd (omega (arith, leb-false 0 n b))
fits_below_zero w k (negsuc n) h a b = record { sfits = omega (arith, leb-true n k a) }

-- a number from 0 on is its own bits
pub bits_from_zero : (z : ℤ) → le_z (pos 0) z ≡ true → pos (cast_unsigned w64 z) ≡ z
bits_from_zero (pos n) a = refl
bits_from_zero (negsuc n) a = absurd (false≢true a)

-- a cast of a number of the width w to the width v keeps one that fits both
pub bits_of_cast : (w v : Width) (z : ℤ) → FitsSigned w z → FitsSigned v z
    → cast_unsigned v (cast_signed v (cast_unsigned v (cast_signed w (cast_unsigned w z)))) ≡ cast_unsigned v z
bits_of_cast w v z f g = rw (to_z-of_z w z f, to_z-of_z v z g) refl

-- the marker of a number from -32 to -1
pub canon_fixed_neg : (z : ℤ) → le_z (negsuc 31) z ≡ true → le_z (pos 0) z ≡ false → byte_of (FixNeg z) ∷ [] ≡ canon_head (Whole z)
unfolding canon_head byte_of
canon_fixed_neg (pos n) a b = absurd (omega (arith, leb-false 0 n b))
canon_fixed_neg (negsuc n) a b = grind (arith, nat_tests)
