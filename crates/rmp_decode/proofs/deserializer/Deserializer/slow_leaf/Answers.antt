use Rattle.rmp_decode.proofs.Leaves.{leaf_none, leaf_other, leaf_held}
use Rattle.rmp_decode.proofs.deserializer.Deserializer.slow_leaf.Goals as goal

pub returns-in-Some : goal.returns-in-Some
returns-in-Some g c = leaf_held g.R.Source _ _ _ _ (c.in-Ok.marker, c.in-Ok.head) c.in-Ok.ensures _ c.in-Some.ensures

pub returns-in-None : goal.returns-in-None
returns-in-None g c =
    leaf_other g.R.Source _ _ _ _ (c.in-Ok.marker, c.in-Ok.head) c.in-Ok.ensures _ c.in-None.ensures c.refusal.ensures.same c.refusal.ensures.memory

pub returns-in-Err : goal.returns-in-Err
returns-in-Err g c = leaf_none g.R.Source _ _ _ _ _ c.in-Err.ensures
