use Rattle.std.proofs.Common.{rules}
use Rattle.rmp_decode.proofs.HeadKinds.{opened_starts, opens_f32, f32_starts}
use Rattle.rmp_decode.proofs.deserializer.peek.F32HeadPeek.at.Goals as goal

pub returns-in-len4-up-clause-starts : goal.returns-in-len4-up-clause-starts
returns-in-len4-up-clause-starts c = opened_starts c.args._strict 5 _ c.args.front.now (λ _. opens_f32 _ _ c.in-202.is)
    (f32_starts c.args.front.now _ c.in-len1-up.len_at_least c.in-202.is c.in-len4-up.len_at_least c.from_be_bytes.ensures (λ i. search rules))
