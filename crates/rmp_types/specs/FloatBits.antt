-- Steps on the way to the bits of a double.
use Rattle.std.specs.Prelude.{◌≡◌, ◌+◌, ◌*◌, ◌%◌, ◌^◌, ℕ, Bool, from_bits, if◌then◌else◌}
use lib.Ieee.{binary32, binary64, of_fields}
use lib.Ieee.Exact.{HasValue}
use Rattle.rmp_types.specs.Floats.{IsSameFloat}

-- the bits of a double, by its sign and the rest
abbrev pub with_sign : Bool → ℕ → ℕ
with_sign s b = (if s then 2 ^ 63 else 0) + b

-- with either sign they are m * 2 ^ base / 2 ^ 1074
abbrev pub IsPlaced : ℕ → ℕ → ℕ → Type 0
IsPlaced m base b = (s : Bool) → HasValue (from_bits binary64 (with_sign s b)) s (m * 2 ^ base) (2 ^ 1074)

-- the double of a size above 0, whatever its sign
abbrev pub IsSize : ℕ → ℕ → Type 0
IsSize n b = (s : Bool) → HasValue (from_bits binary64 (with_sign s b)) s n 1

-- no double has this size
abbrev pub NoSize : ℕ → Type 0
NoSize n = (s : Bool) (b : ℕ) → HasValue (from_bits binary64 b) s n 1 → ⊥

-- with either sign they are what the float of this field and of these digits is, and a NaN has its payload
pub record IsSame (field digits b : ℕ) : Type 0 where
  pub value : (s : Bool) → IsSameFloat (of_fields binary32 s field digits) (from_bits binary64 (with_sign s b))
  pub payload : field ≡ 255 → b % 2 ^ 52 ≡ digits * 2 ^ 29
