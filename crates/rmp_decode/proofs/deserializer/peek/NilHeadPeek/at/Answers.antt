use Rattle.rmp_wire.specs.declared.head.Head.TheVariants.{Nil}
use Rattle.rmp_decode.proofs.HeadKinds.{opened_starts, opens_nil, nil_starts}
use Rattle.rmp_decode.proofs.deserializer.peek.NilHeadPeek.at.Goals as goal

pub returns-in-192-clause-starts : goal.returns-in-192-clause-starts
returns-in-192-clause-starts c = opened_starts c.args._strict 1 Nil c.args.front.now (λ _. opens_nil _ c.in-192.is)
    (nil_starts c.args.front.now c.in-len1-up.len_at_least c.in-192.is)
