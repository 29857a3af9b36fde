-- Which double a message is.
use Rattle.std.specs.Prelude.{◌≡◌, ℕ, from_bits}
use Rattle.rmp_types.specs.Floats.{IsFloat}
use Rattle.rmp_wire.specs.Msg.{Msg}
use lib.Ieee.{Float, binary64}

-- the double x is the one that the message is read as, as a Float64
pub record IsDouble (m : Msg) (x : Float) : Type 0 where
  pub bits : ℕ
  pub read : IsFloat m bits
  pub value : x ≡ from_bits binary64 bits

-- it isn't read as one
abbrev pub NoDouble : Msg → Type 0
NoDouble m = (x : Float) → ¬ IsDouble m x
