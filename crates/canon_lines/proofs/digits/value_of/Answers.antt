use Rattle.std.proofs.Common.{refl, arith}
use Rattle.canon_lines.specs.declared.digits.TheConstants.{VALUES}
use Rattle.canon_lines.proofs.DigitPairs.{value_is, value_below}
use Rattle.canon_lines.proofs.digits.value_of.Goals as goal

pub returns : goal.returns
returns c = record {
  value = λ some. value_is VALUES refl c.args.digit (omega (arith, c.ranges.digit)) some;
  below = λ some. value_below c.args.digit _ (value_is VALUES refl c.args.digit (omega (arith, c.ranges.digit)) some);
}
