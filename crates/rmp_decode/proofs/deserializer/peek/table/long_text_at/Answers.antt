use Rattle.std.proofs.Common.{rules, refl}
use Rattle.rmp_wire.specs.declared.head.Head.TheVariants.{Text}
use Rattle.rmp_decode.proofs.HeadKinds.{of_8, of_16, kind_32, text_w8, text_w16, text_w32}
use Rattle.rmp_decode.proofs.deserializer.peek.table.long_text_at.Goals as goal

pub returns-in-len1-up-following : goal.returns-in-len1-up-following
returns-in-len1-up-following c = of_8 Text 217 text_w8 c.args.front.now _ _ c.from.ensures c.in-len1-up.len_at_least c.in-217.is
    c.in-len1-up-following.len_at_least refl (λ i. search rules)

pub returns-in-len2-up : goal.returns-in-len2-up
returns-in-len2-up c = of_16 Text 218 text_w16 c.args.front.now _ _ c.from-in-len2-up.ensures c.in-len1-up.len_at_least c.in-218.is
    c.in-len2-up.len_at_least c.from_be_bytes.ensures (λ i. search rules)

pub returns-in-len4-up : goal.returns-in-len4-up
returns-in-len4-up c = kind_32 Text 219 text_w32 c.args.front.now _ c.in-len1-up.len_at_least c.in-219.is c.in-len4-up.len_at_least
    c.from_be_bytes-in-len4-up.ensures (λ i. search rules)
