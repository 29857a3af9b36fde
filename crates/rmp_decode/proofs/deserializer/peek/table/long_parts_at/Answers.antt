use Rattle.std.proofs.Common.{rules}
use Rattle.rmp_wire.specs.declared.head.Head.TheVariants.{Array, Map}
use Rattle.rmp_decode.proofs.HeadKinds.{of_16, kind_32, array_w16, array_w32, map_w16, map_w32}
use Rattle.rmp_decode.proofs.deserializer.peek.table.long_parts_at.Goals as goal

pub returns-in-len2-up : goal.returns-in-len2-up
returns-in-len2-up c = of_16 Array 220 array_w16 c.args.front.now _ _ c.from.ensures c.in-len1-up.len_at_least c.in-220.is c.in-len2-up.len_at_least
    c.from_be_bytes.ensures (λ i. search rules)

pub returns-in-len4-up : goal.returns-in-len4-up
returns-in-len4-up c = kind_32 Array 221 array_w32 c.args.front.now _ c.in-len1-up.len_at_least c.in-221.is c.in-len4-up.len_at_least
    c.from_be_bytes-in-len4-up.ensures (λ i. search rules)

pub returns-in-len2-up-following : goal.returns-in-len2-up-following
returns-in-len2-up-following c = of_16 Map 222 map_w16 c.args.front.now _ _ c.from-in-len2-up-following.ensures c.in-len1-up.len_at_least c.in-222.is
    c.in-len2-up-following.len_at_least c.from_be_bytes-in-len2-up-following.ensures (λ i. search rules)

pub returns-in-len4-up-following : goal.returns-in-len4-up-following
returns-in-len4-up-following c = kind_32 Map 223 map_w32 c.args.front.now _ c.in-len1-up.len_at_least c.in-223.is c.in-len4-up-following.len_at_least
    c.from_be_bytes-in-len4-up-following.ensures (λ i. search rules)
