-- A byte is the byte of its marker.
use Rattle.std.proofs.Common.{◌≡◌, ℕ, ◌<◌, ◌==◌, true, refl}
use Rattle.std.proofs.lemmas.Bool.{agree_below_at, eqb-true}
use Rattle.rmp_wire.specs.Taking.{marker_of, byte_of}

-- `to_u8(from_u8(b)) = b`
pub byte_of-marker_of : (b : ℕ) → b < 256 → byte_of (marker_of b) ≡ b
unfolding marker_of byte_of
byte_of-marker_of b h = eqb-true _ _ (agree_below_at (λ k. byte_of (marker_of k) == k) (λ k. true) 256 b refl h)
