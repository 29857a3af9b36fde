use Rattle.std.proofs.Common.{rules}
use Rattle.rmp_decode.proofs.BufferedHeads.{text_held, text_8}
use Rattle.rmp_decode.proofs.HeadKinds.{opened_starts, opens_text_8}
use Rattle.rmp_decode.proofs.deserializer.peek.TextHeadPeek.at.Goals as goal

pub returns-in-160-to-191-clause-starts : goal.returns-in-160-to-191-clause-starts
returns-in-160-to-191-clause-starts c = text_held c.args.strict c.args.front.now _ c.in-len1-up.len_at_least (search rules) (search rules) (search rules)

pub returns-in-len1-up-following-clause-starts : goal.returns-in-len1-up-following-clause-starts
returns-in-len1-up-following-clause-starts c = opened_starts c.args.strict 2 _ c.args.front.now
    (λ e. opens_text_8 _ _ c.in-217.is (search rules) (search rules))
    (text_8 c.args.front.now _ c.in-len1-up.len_at_least c.in-217.is c.in-len1-up-following.len_at_least (search rules) (λ i. search rules))
