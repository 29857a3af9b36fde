use Rattle.rmp_decode.proofs.Orders.{keys_more}
use Rattle.rmp_decode.proofs.de.sets.KeysRow.put.Goals as goal

pub returns-in-Ok-clause-held : goal.returns-in-Ok-clause-held
returns-in-Ok-clause-held g c = λ _ vs h _.
    (keys_more g.met.T.Ord.total vs _ _ c.args.item h.0 c.in-Ok.ensures.keys c.in-Ok.ensures.ordered, c.in-Ok.ensures.differ)
