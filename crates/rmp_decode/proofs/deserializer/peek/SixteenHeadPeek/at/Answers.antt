use Rattle.std.proofs.Common.{rules, refl}
use Rattle.rmp_wire.specs.declared.head.Head.TheVariants.{Bin}
use Rattle.rmp_decode.proofs.HeadKinds.{of_8, bin_w8, opened_starts, opens_sixteen}
use Rattle.rmp_decode.proofs.deserializer.peek.SixteenHeadPeek.at.Goals as goal

pub returns-in-len1-up-following-clause-starts : goal.returns-in-len1-up-following-clause-starts
returns-in-len1-up-following-clause-starts c = opened_starts c.args._strict 2 (Bin 16) c.args.front.now (λ _. opens_sixteen _ c.in-196.is)
    (of_8 Bin 196 bin_w8 c.args.front.now 16 _ (search rules) c.in-len1-up.len_at_least c.in-196.is c.in-len1-up-following.len_at_least refl (λ i. search rules))
