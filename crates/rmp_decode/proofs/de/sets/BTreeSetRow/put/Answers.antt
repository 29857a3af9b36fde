use Rattle.rmp_decode.proofs.Orders.{keys_more}
use Rattle.rmp_decode.proofs.de.sets.BTreeSetRow.put.Goals as goal

pub returns-clause-held : goal.returns-clause-held
returns-clause-held g c = λ _ vs h _. keys_more g.met.T.Ord.total vs _ _ c.args.item h c.in-Ok.ensures.keys c.insert.ensures.ordered
