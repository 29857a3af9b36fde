use Rattle.rmp_decode.proofs.HeadKinds.{opened_starts, opens_false, opens_true, false_starts, true_starts}
use Rattle.rmp_decode.proofs.deserializer.peek.TruthHeadPeek.at.Goals as goal

pub returns-in-194-clause-starts : goal.returns-in-194-clause-starts
returns-in-194-clause-starts c = opened_starts c.args._strict 1 _ c.args.front.now (λ _. opens_false _ c.in-194.is)
    (false_starts c.args.front.now c.in-len1-up.len_at_least c.in-194.is)

pub returns-in-195-clause-starts : goal.returns-in-195-clause-starts
returns-in-195-clause-starts c = opened_starts c.args._strict 1 _ c.args.front.now (λ _. opens_true _ c.in-195.is)
    (true_starts c.args.front.now c.in-len1-up.len_at_least c.in-195.is)
