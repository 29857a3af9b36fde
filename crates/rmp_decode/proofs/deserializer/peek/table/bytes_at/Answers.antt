use Rattle.std.proofs.Common.{rules, refl}
use Rattle.rmp_wire.specs.declared.head.Head.TheVariants.{Bin}
use Rattle.rmp_decode.proofs.HeadKinds.{of_8, of_16, kind_32, bin_w8, bin_w16, bin_w32}
use Rattle.rmp_decode.proofs.deserializer.peek.table.bytes_at.Goals as goal

pub returns-in-len1-up-following : goal.returns-in-len1-up-following
returns-in-len1-up-following c = of_8 Bin 196 bin_w8 c.args.front.now _ _ c.from.ensures c.in-len1-up.len_at_least c.in-196.is c.in-len1-up-following.len_at_least
    refl (λ i. search rules)

pub returns-in-len2-up : goal.returns-in-len2-up
returns-in-len2-up c = of_16 Bin 197 bin_w16 c.args.front.now _ _ c.from-in-len2-up.ensures c.in-len1-up.len_at_least c.in-197.is c.in-len2-up.len_at_least
    c.from_be_bytes.ensures (λ i. search rules)

pub returns-in-len4-up : goal.returns-in-len4-up
returns-in-len4-up c = kind_32 Bin 198 bin_w32 c.args.front.now _ c.in-len1-up.len_at_least c.in-198.is c.in-len4-up.len_at_least
    c.from_be_bytes-in-len4-up.ensures (λ i. search rules)
