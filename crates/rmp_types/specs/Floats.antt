-- Which doubles are equal to a float of 32 bits, and to a whole number. The bits of a float mean what they do in std (`from_bits`).
use Rattle.std.specs.Prelude.{◌≡◌, ◌*◌, ◌/◌, ◌%◌, ◌^◌, ℕ, suc, ℤ, pos, negsuc, true, false, from_bits, is_nan}
use Rattle.rmp_wire.specs.Msg.{Msg, nil, truth, whole, float32, float64, text, bin, list, map, extension}
use Rattle.rmp_wire.specs.declared.head.Head.{Head}
use Rattle.rmp_wire.specs.declared.head.Head.TheVariants.{Whole}
use Rattle.rmp_wire.specs.declared.marker.Marker.{Marker}
use Rattle.rmp_decode.specs.declared.error.Error.{Error}
use Rattle.rmp_decode.specs.declared.error.Error.TheVariants.{Syntax}
use Rattle.rmp_decode.specs.declared.text.Text.TheVariants.{InvalidType, InvalidValue}
use lib.Ieee.{Float, nan, inf, fin, up, down, binary32, binary64}
use lib.Ieee.Exact.{HasValue}

-- y is a NaN where x is one, the infinity of the same sign, or a number of the same sign and size
abbrev pub IsSameFloat : Float → Float → Type 0
IsSameFloat nan y = y ≡ nan
IsSameFloat (inf s) y = y ≡ inf s
IsSameFloat (fin s m e) y = HasValue y s (m * up e) (down e)

-- the double of the bits b is the float of the bits n
pub record Widens (n b : ℕ) : Type 0 where
  pub value : IsSameFloat (from_bits binary32 n) (from_bits binary64 b)
  -- a NaN keeps its sign, and its payload is the highest 23 bits of the wider one
  pub payload : is_nan (from_bits binary32 n) ≡ true → (b / 2 ^ 63 ≡ n / 2 ^ 31) × (b % 2 ^ 52 ≡ n % 2 ^ 23 * 2 ^ 29)

-- the double of the bits b is the whole number z: 0 is the zero without a sign
abbrev pub IsWhole : ℤ → ℕ → Type 0
IsWhole (pos n) b = HasValue (from_bits binary64 b) false n 1
IsWhole (negsuc n) b = HasValue (from_bits binary64 b) true (suc n) 1

-- ---- messages

-- the message is read as the double of the bits b
abbrev pub IsFloat : Msg → ℕ → Type 0
IsFloat (float64 n) b = b ≡ n
IsFloat (float32 n) b = Widens n b
IsFloat (whole z) b = IsWhole z b
IsFloat nil b = ⊥
IsFloat (truth t) b = ⊥
IsFloat (text s) b = ⊥
IsFloat (bin s) b = ⊥
IsFloat (list ms) b = ⊥
IsFloat (map ps) b = ⊥
IsFloat (extension tag s) b = ⊥

-- the error of a message that isn't: of a whole number that no double holds, and of another kind
abbrev pub not_float : Marker → Head → Error
not_float m (Whole z) = Syntax InvalidValue
not_float m h = Syntax InvalidType
