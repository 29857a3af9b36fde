use Rattle.std.proofs.Common.{rules}
use Rattle.rmp_decode.proofs.ExtHeads.{short_starts}
use Rattle.rmp_decode.proofs.deserializer.peek.table.short_ext_at.Goals as goal

pub returns-in-len2-up : goal.returns-in-len2-up
returns-in-len2-up c = short_starts c.args.front.now _ _ c.in-len1-up.len_at_least c.in-199.is c.in-len2-up.len_at_least (λ i. search rules)
    c.from.ensures c.cast_signed.ensures
