-- A double is read as it was written, and as nothing else, and an end of its bytes is inside of a message.
use Rattle.std.proofs.Common.{◌≡◌, ℕ, Some, refl, sym}
use Rattle.rmp_encode.specs.Data.{float64, lower}
use Rattle.rmp_encode.specs.declared.settings.Settings.{Settings}
use Rattle.rmp_wire.specs.declared.head.Head.{Head}
use Rattle.rmp_wire.specs.declared.head.Head.TheVariants.{Nil, Truth, Whole, F32Bits, F64Bits, Text, Bin, Array, Map, Ext}
use Rattle.rmp_wire.specs.declared.marker.Marker.{Marker}
use Rattle.rmp_decode.specs.Exact.{RefusesExactly}
use Rattle.rmp_ends.specs.EndsInside.{AlwaysInside, IsNoEnd}
use Rattle.rmp_ends.specs.LeafEnds.{exact_inside, neither}
use Rattle.rmp_round_trip.specs.RoundTrip.{LowersTo}
use Rattle.rmp_types.specs.Floats.{IsFloat, not_float}
use Rattle.rmp_types.specs.declared.float.Float64.{Float64}

module _ (s : Settings) where
  pub float_row : (n : ℕ) → LowersTo s (Some (float64 n)) (λ m. IsFloat m n)
  unfolding lower
  float_row n = refl

  pub float_only : (n : ℕ) → LowersTo s (Some (float64 n)) (λ m. (w : Float64) → IsFloat m w.bits → n ≡ w.bits)
  unfolding lower
  float_only n = λ w h. sym h

float_none : (m : Marker) (h : Head) → IsNoEnd (not_float m h)
float_none m (Whole z) = neither
float_none m Nil = neither
float_none m (Truth t) = neither
float_none m (F32Bits n) = neither
float_none m (F64Bits n) = neither
float_none m (Text n) = neither
float_none m (Bin n) = neither
float_none m (Array n) = neither
float_none m (Map n) = neither
float_none m (Ext n tag) = neither

pub float_inside : AlwaysInside (λ s. RefusesExactly s.strict not_float)
float_inside s = exact_inside s.strict not_float float_none
