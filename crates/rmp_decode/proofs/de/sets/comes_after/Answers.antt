use Rattle.std.proofs.Common.{◌≡◌, sym}
use Rattle.std.specs.declared.cmp.Ordering.TheVariants.{Less}
use Rattle.rmp_decode.proofs.Ascending.{after_all, after_none}
use Rattle.rmp_decode.proofs.de.sets.comes_after.Goals as goal

pub returns-in-Less : goal.returns-in-Less
returns-in-Less g c = λ _ s.
    let below : g.T.Ord.cmp c.in-Some.last.now c.args.key.now ≡ Less = cc in
    after_all g.met.T.Ord.total c.args.row.now c.in-Some.last.now c.args.key.now (sym c.in-Some.ensures.value) below s

pub returns-in-None : goal.returns-in-None
returns-in-None g c = λ _ s. after_none g.met.T.Ord.total c.args.row.now c.args.key.now (sym c.in-None.ensures.value)
