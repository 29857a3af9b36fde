use Rattle.std.proofs.Common.{rules, refl}
use Rattle.rmp_decode.proofs.HeadKinds.{signed_8, signed_16, signed_32, signed_64, negative_starts, opened_starts, opens_negative, opens_signed_8}
use Rattle.rmp_decode.proofs.HeadKinds.{opens_signed_16, opens_signed_32, opens_signed_64}
use Rattle.rmp_decode.proofs.deserializer.peek.table.signed_at.Goals as goal

pub returns-in-224-to-255-clause-any : goal.returns-in-224-to-255-clause-any
returns-in-224-to-255-clause-any c = negative_starts c.args.front.now _ _ c.in-len1-up.len_at_least (search rules) (search rules)
    c.from-in-224-to-255.ensures c.cast_signed-in-224-to-255.ensures

pub returns-in-224-to-255-clause-canonical : goal.returns-in-224-to-255-clause-canonical
returns-in-224-to-255-clause-canonical c = λ _. opened_starts _ _ _ c.args.front.now
    (λ _. opens_negative _ _ _ (search rules) (search rules) c.from-in-224-to-255.ensures c.cast_signed-in-224-to-255.ensures)
    (returns-in-224-to-255-clause-any c)

pub returns-in-len1-up-following-clause-any : goal.returns-in-len1-up-following-clause-any
returns-in-len1-up-following-clause-any c = signed_8 c.args.front.now _ _ _ c.in-len1-up.len_at_least c.in-208.is c.in-len1-up-following.len_at_least refl
    (λ i. search rules) (search rules) c.from.ensures c.cast_signed.ensures

pub returns-in-len1-up-following-clause-canonical : goal.returns-in-len1-up-following-clause-canonical
returns-in-len1-up-following-clause-canonical c = λ l. opened_starts _ _ _ c.args.front.now
    (λ _. opens_signed_8 _ _ _ _ c.in-208.is (search rules) c.from.ensures c.cast_signed.ensures l) (returns-in-len1-up-following-clause-any c)

pub returns-in-len2-up-clause-any : goal.returns-in-len2-up-clause-any
returns-in-len2-up-clause-any c = signed_16 c.args.front.now _ _ _ c.in-len1-up.len_at_least c.in-209.is c.in-len2-up.len_at_least
    c.from_be_bytes-n.ensures (λ i. search rules) (search rules) c.from-in-len2-up.ensures c.cast_signed-in-len2-up.ensures

pub returns-in-len2-up-clause-canonical : goal.returns-in-len2-up-clause-canonical
returns-in-len2-up-clause-canonical c = λ l. opened_starts _ _ _ c.args.front.now
    (λ _. opens_signed_16 _ _ _ _ c.in-209.is (search rules) c.from-in-len2-up.ensures c.cast_signed-in-len2-up.ensures l)
    (returns-in-len2-up-clause-any c)

pub returns-in-len4-up-clause-any : goal.returns-in-len4-up-clause-any
returns-in-len4-up-clause-any c = signed_32 c.args.front.now _ _ _ c.in-len1-up.len_at_least c.in-210.is c.in-len4-up.len_at_least
    c.from_be_bytes-n-in-len4-up.ensures (λ i. search rules) (search rules) c.from-in-len4-up.ensures c.cast_signed-in-len4-up.ensures

pub returns-in-len4-up-clause-canonical : goal.returns-in-len4-up-clause-canonical
returns-in-len4-up-clause-canonical c = λ l. opened_starts _ _ _ c.args.front.now
    (λ _. opens_signed_32 _ _ _ _ c.in-210.is (search rules) c.from-in-len4-up.ensures c.cast_signed-in-len4-up.ensures l)
    (returns-in-len4-up-clause-any c)

pub returns-in-len8-up-clause-any : goal.returns-in-len8-up-clause-any
returns-in-len8-up-clause-any c = signed_64 c.args.front.now _ _ c.in-len1-up.len_at_least c.in-211.is c.in-len8-up.len_at_least
    c.from_be_bytes-n-in-len8-up.ensures (λ i. search rules) (search rules) c.cast_signed-in-len8-up.ensures

pub returns-in-len8-up-clause-canonical : goal.returns-in-len8-up-clause-canonical
returns-in-len8-up-clause-canonical c = λ l. opened_starts _ _ _ c.args.front.now (λ _. opens_signed_64 _ _ c.in-211.is l)
    (returns-in-len8-up-clause-any c)
