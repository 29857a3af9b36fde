use Rattle.std.proofs.Common.{rules, refl}
use Rattle.rmp_wire.specs.declared.head.Head.TheVariants.{Bin, Text}
use Rattle.rmp_decode.proofs.BufferedHeads.{text_8}
use Rattle.rmp_decode.proofs.HeadKinds.{of_8, bin_w8, opened_starts, opens_bin_8, opens_text_8}
use Rattle.rmp_decode.proofs.LeafTable.{leaf_held}
use Rattle.rmp_decode.proofs.deserializer.skip.leaves.sized_at.Goals as goal

pub returns-in-len1-up-following : goal.returns-in-len1-up-following
returns-in-len1-up-following c = leaf_held c.args.strict 2 (Bin c.from.result) c.args.front.now refl
    (opened_starts c.args.strict 2 _ c.args.front.now (λ _. opens_bin_8 _ _ c.in-196.is (search rules))
    (of_8 Bin 196 bin_w8 c.args.front.now _ _ c.from.ensures c.in-len1-up.len_at_least c.in-196.is c.in-len1-up-following.len_at_least refl (λ i. search rules)))

pub returns-in-len1-up-following-2 : goal.returns-in-len1-up-following-2
returns-in-len1-up-following-2 c = leaf_held c.args.strict 2 (Text c.from-in-len1-up-following-2.result) c.args.front.now refl
    (opened_starts c.args.strict 2 _ c.args.front.now (λ e. opens_text_8 _ _ c.in-217.is (search rules) (search rules))
    (text_8 c.args.front.now _ c.in-len1-up.len_at_least c.in-217.is c.in-len1-up-following-2.len_at_least (search rules) (λ i. search rules)))
