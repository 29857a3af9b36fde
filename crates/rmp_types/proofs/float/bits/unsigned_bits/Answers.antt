use Rattle.std.proofs.Common.{arith, refl}
use Rattle.rmp_types.proofs.Widening.{same_top, same_field, same_low, same_zero}
use Rattle.rmp_types.proofs.float.bits.unsigned_bits.Goals as goal

pub returns-then-field-eq255-clause-same : goal.returns-then-field-eq255-clause-same
returns-then-field-eq255-clause-same c = same_top c.args.field c.args.digits c.requires.digits (omega (arith, c.if-field-eq255.true))

pub returns-then-field-gt0-clause-same : goal.returns-then-field-gt0-clause-same
returns-then-field-gt0-clause-same c = same_field c.args.digits c.placed.result c.args.field (omega (arith, c.if-field-gt0.true))
    (omega (arith, c.requires.field, c.if-field-eq255.false)) c.placed.ensures.value

pub returns-then-digits-gt0-clause-same : goal.returns-then-digits-gt0-clause-same
returns-then-digits-gt0-clause-same c = same_low c.args.digits c.placed-then-digits-gt0.result c.args.field (omega (arith, c.if-field-gt0.false))
    c.placed-then-digits-gt0.ensures.value

pub returns-else-digits-gt0-clause-same : goal.returns-else-digits-gt0-clause-same
returns-else-digits-gt0-clause-same c = same_zero c.args.field c.args.digits (omega (arith, c.if-field-gt0.false)) (omega (arith, c.if-digits-gt0.false))
