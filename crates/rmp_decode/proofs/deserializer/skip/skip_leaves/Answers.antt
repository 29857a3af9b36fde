use Rattle.std.proofs.Common.{refl}
use Rattle.rmp_decode.proofs.LeafTable.{skips_none, skips_some}
use Rattle.rmp_decode.proofs.deserializer.skip.skip_leaves.Goals as goal

pub returns-then-skip-clause-skipped : goal.returns-then-skip-clause-skipped
returns-then-skip-clause-skipped g c =
    let p = c.pass_leaves-len.ensures in
    skips_some g.R.Source c.args.most _ _ c.front.result.now c.args.de.now _ c.requires.clean p.within p.fewer p.passes c.front.ensures.bytes
    (c.skip.ensures.bytes c.if-skip.true) refl refl (c.skip.ensures.sound c.if-skip.true)
    (record { config = refl; room = refl; limit = refl; strict = refl; place = c.skip.ensures.place c.if-skip.true })

pub returns-then-wanted-most-clause-skipped : goal.returns-then-wanted-most-clause-skipped
returns-then-wanted-most-clause-skipped g c = skips_none g.R.Source c.args.most c.args.de.now

pub returns-else-skip-clause-skipped : goal.returns-else-skip-clause-skipped
returns-else-skip-clause-skipped g c = rw (c.skip.ensures.kept c.if-skip.false) (skips_none g.R.Source c.args.most c.args.de.now)
