use Rattle.std.proofs.Common.{rules, refl}
use Rattle.rmp_decode.proofs.HeadKinds.{nil_starts, false_starts, true_starts, map_at_first, list_at_first, text_at_first}
use Rattle.rmp_decode.proofs.deserializer.peek.table.short_at.Goals as goal

pub returns-in-192 : goal.returns-in-192
returns-in-192 c = nil_starts c.args.front.now c.in-len1-up.len_at_least c.in-192.is

pub returns-in-194 : goal.returns-in-194
returns-in-194 c = false_starts c.args.front.now c.in-len1-up.len_at_least c.in-194.is

pub returns-in-195 : goal.returns-in-195
returns-in-195 c = true_starts c.args.front.now c.in-len1-up.len_at_least c.in-195.is

pub returns-in-128-to-143 : goal.returns-in-128-to-143
returns-in-128-to-143 c = map_at_first c.args.front.now _ _ c.from.ensures c.in-len1-up.len_at_least (search rules) (search rules) refl

pub returns-in-144-to-159 : goal.returns-in-144-to-159
returns-in-144-to-159 c = list_at_first c.args.front.now _ _ c.from-in-144-to-159.ensures c.in-len1-up.len_at_least (search rules) (search rules) refl

pub returns-in-160-to-191 : goal.returns-in-160-to-191
returns-in-160-to-191 c = text_at_first c.args.front.now _ _ c.from-in-160-to-191.ensures c.in-len1-up.len_at_least (search rules) (search rules) refl
