use Rattle.std.proofs.Common.{◌≤◌, ◌∙◌, ap, subst}
use Rattle.std.specs.Option.{unwrap_or}
use Rattle.rmp_encode.proofs.Packed.{one_high}
use Rattle.rmp_encode.proofs.tuple.any_high.Goals as goal

pub returns-then-unwrap_or-ge128 : goal.returns-then-unwrap_or-ge128
returns-then-unwrap_or-ge128 g c = one_high (λ x. g.T.Serialize.data_of x c.args.human) c.args.values.now c.loop-value.value-index c.value-item.result
    c.loop-value-test.true c.value-item.is
    (subst (λ n. 128 ≤ n) (c.unwrap_or.ensures ∙ ap (λ o. unwrap_or o 0) c.as_u8.ensures.byte) c.if-unwrap_or-ge128.true)
