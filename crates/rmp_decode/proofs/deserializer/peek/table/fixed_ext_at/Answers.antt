use Rattle.std.proofs.Common.{rules}
use Rattle.rmp_decode.proofs.ExtHeads.{fixed_starts, ext_1, ext_2, ext_4, ext_8, ext_16}
use Rattle.rmp_decode.proofs.deserializer.peek.table.fixed_ext_at.Goals as goal

pub returns-in-212 : goal.returns-in-212
returns-in-212 c = fixed_starts 212 1 ext_1 c.args.front.now _ c.in-len1-up.len_at_least c.in-212.is c.in-len1-up-following.len_at_least (λ i. search rules)
    c.cast_signed.ensures

pub returns-in-213 : goal.returns-in-213
returns-in-213 c = fixed_starts 213 2 ext_2 c.args.front.now _ c.in-len1-up.len_at_least c.in-213.is c.in-len1-up-following.len_at_least (λ i. search rules)
    c.cast_signed-in-213.ensures

pub returns-in-214 : goal.returns-in-214
returns-in-214 c = fixed_starts 214 4 ext_4 c.args.front.now _ c.in-len1-up.len_at_least c.in-214.is c.in-len1-up-following.len_at_least (λ i. search rules)
    c.cast_signed-in-214.ensures

pub returns-in-215 : goal.returns-in-215
returns-in-215 c = fixed_starts 215 8 ext_8 c.args.front.now _ c.in-len1-up.len_at_least c.in-215.is c.in-len1-up-following.len_at_least (λ i. search rules)
    c.cast_signed-in-215.ensures

pub returns-in-216 : goal.returns-in-216
returns-in-216 c = fixed_starts 216 16 ext_16 c.args.front.now _ c.in-len1-up.len_at_least c.in-216.is c.in-len1-up-following.len_at_least (λ i. search rules)
    c.cast_signed-in-216.ensures
