use Rattle.std.proofs.Common.{arith, subst, IfSome}
use Rattle.rmp_decode.specs.Ahead.{LeafHeadIn}
use Rattle.rmp_decode.proofs.LeafTable.{leaf_whole}
use Rattle.rmp_decode.proofs.deserializer.skip.leaves.whole.Goals as goal

pub returns-then-payload-bytes-clause-leaf : goal.returns-then-payload-bytes-clause-leaf
returns-then-payload-bytes-clause-leaf c = λ strict s _.
    leaf_whole strict c.in-Some.len c.in-Some.payload c.args.bytes.now
    (subst (λ z. IfSome z (λ p. LeafHeadIn strict p.1 p.0 c.args.bytes.now)) c.in-Some.is s) (λ i. omega (arith, c.type_inv.bytes i))
    (omega (arith, c.if-len-bytes.true, c.if-payload-bytes.true))
