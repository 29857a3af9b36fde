use Rattle.std.proofs.Common.{◌∙◌, rules}
use Rattle.rmp_decode.proofs.BufferedHeads.{small_starts, starts_8, starts_16, starts_32, starts_64}
use Rattle.rmp_decode.proofs.HeadKinds.{opened_starts, opens_8, opens_16, opens_32, opens_64}
use Rattle.rmp_decode.proofs.deserializer.peek.unsigned_at.Goals as goal

pub returns-in-0-to-127-clause-any : goal.returns-in-0-to-127-clause-any
returns-in-0-to-127-clause-any c = small_starts _ c.args.front.now _ c.in-len1-up.len_at_least (search rules) c.from-in-0-to-127.ensures

pub returns-in-0-to-127-clause-canonical : goal.returns-in-0-to-127-clause-canonical
returns-in-0-to-127-clause-canonical c = λ _. small_starts _ c.args.front.now _ c.in-len1-up.len_at_least (search rules) c.from-in-0-to-127.ensures

pub returns-in-len1-up-following-clause-any : goal.returns-in-len1-up-following-clause-any
returns-in-len1-up-following-clause-any c = starts_8 c.args.front.now _ c.in-len1-up.len_at_least c.in-204.is c.in-len1-up-following.len_at_least c.from.ensures
    (λ i. search rules)

pub returns-in-len1-up-following-clause-canonical : goal.returns-in-len1-up-following-clause-canonical
returns-in-len1-up-following-clause-canonical c = λ l. opened_starts _ _ _ c.args.front.now (λ e. opens_8 _ _ c.in-204.is l (search rules))
    (returns-in-len1-up-following-clause-any c)

pub returns-in-Some-clause-any : goal.returns-in-Some-clause-any
returns-in-Some-clause-any c = starts_16 c.args.front.now _ c.in-len1-up.len_at_least c.in-205.is c.in-Some.ensures.long
    (c.from-in-Some.ensures ∙ c.in-Some.ensures.value) (λ i. search rules)

pub returns-in-Some-clause-canonical : goal.returns-in-Some-clause-canonical
returns-in-Some-clause-canonical c = λ l. opened_starts _ _ _ c.args.front.now (λ e. opens_16 _ _ c.in-205.is l (search rules))
    (returns-in-Some-clause-any c)

pub returns-in-Some-number_32_at-clause-any : goal.returns-in-Some-number_32_at-clause-any
returns-in-Some-number_32_at-clause-any c = starts_32 c.args.front.now _ c.in-len1-up.len_at_least c.in-206.is c.in-Some-number_32_at.ensures.long
    (c.from-in-Some-number_32_at.ensures ∙ c.in-Some-number_32_at.ensures.value) (λ i. search rules)

pub returns-in-Some-number_32_at-clause-canonical : goal.returns-in-Some-number_32_at-clause-canonical
returns-in-Some-number_32_at-clause-canonical c = λ l. opened_starts _ _ _ c.args.front.now (λ e. opens_32 _ _ c.in-206.is l (search rules))
    (returns-in-Some-number_32_at-clause-any c)

pub returns-in-Some-number_64_at-clause-any : goal.returns-in-Some-number_64_at-clause-any
returns-in-Some-number_64_at-clause-any c = starts_64 c.args.front.now _ c.in-len1-up.len_at_least c.in-207.is c.in-Some-number_64_at.ensures.long
    (search rules) c.in-Some-number_64_at.ensures.value (λ i. search rules)

pub returns-in-Some-number_64_at-clause-canonical : goal.returns-in-Some-number_64_at-clause-canonical
returns-in-Some-number_64_at-clause-canonical c = λ l. opened_starts _ _ _ c.args.front.now (λ e. opens_64 _ _ c.in-207.is l)
    (returns-in-Some-number_64_at-clause-any c)
