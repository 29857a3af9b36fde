use Rattle.std.proofs.Common.{◌≡◌, arith, subst, ◌*◌, ◌+◌, ◌/◌, ◌%◌}
use Rattle.rmp_types.specs.Floats.{Widens}
use Rattle.rmp_types.specs.FloatBits.{IsSame}
use Rattle.rmp_types.proofs.Widening.{widens}
use Rattle.rmp_types.proofs.float.bits.widened.Goals as goal

pub returns : goal.returns
returns c =
    let e : c.from-bits.result ≡ c.args.bits = c.from-bits.ensures in
    rw e (widens c.args.bits c.unsigned_bits.result c.ranges.bits.fits c.unsigned_bits.ensures.below
    (subst (λ y. IsSame (y / 8388608 % 256) (y % 8388608) c.unsigned_bits.result) e c.unsigned_bits.ensures.same))
