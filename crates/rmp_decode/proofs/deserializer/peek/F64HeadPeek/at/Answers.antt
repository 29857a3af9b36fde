use Rattle.std.proofs.Common.{rules}
use Rattle.rmp_decode.proofs.HeadKinds.{opened_starts, opens_f64, f64_starts}
use Rattle.rmp_decode.proofs.deserializer.peek.F64HeadPeek.at.Goals as goal

pub returns-in-len8-up-clause-starts : goal.returns-in-len8-up-clause-starts
returns-in-len8-up-clause-starts c = opened_starts c.args._strict 9 _ c.args.front.now (λ _. opens_f64 _ _ c.in-203.is)
    (f64_starts c.args.front.now _ c.in-len1-up.len_at_least c.in-203.is c.in-len8-up.len_at_least (search rules) c.from_be_bytes.ensures (λ i. search rules))
