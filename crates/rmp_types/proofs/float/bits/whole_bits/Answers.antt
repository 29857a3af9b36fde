use Rattle.std.proofs.Common.{◌≡◌, rules, pos, subst, true, false}
use Rattle.std.specs.Int.{w128}
use Rattle.std.proofs.lemmas.Int.{to_z-of_z}
use lib.Signed.{lt_z}
use Rattle.rmp_types.proofs.Widening.{whole_above, whole_below}
use Rattle.rmp_types.proofs.float.bits.whole_bits.Goals as goal

pub returns-then-number-lt0 : goal.returns-then-number-lt0
returns-then-number-lt0 c = whole_below c.args.number c.unsigned_abs.result c.in_ok-bits.bits (search rules)
    (subst (λ y. lt_z y (pos 0) ≡ true) (to_z-of_z w128 c.args.number c.ranges.number) c.if-number-lt0.true) c.in_ok-bits.ensures.value

pub returns-else-number-lt0 : goal.returns-else-number-lt0
returns-else-number-lt0 c = whole_above c.args.number c.unsigned_abs.result c.in_ok-bits.bits (search rules)
    (subst (λ y. lt_z y (pos 0) ≡ false) (to_z-of_z w128 c.args.number c.ranges.number) c.if-number-lt0.false) c.in_ok-bits.ensures.value
