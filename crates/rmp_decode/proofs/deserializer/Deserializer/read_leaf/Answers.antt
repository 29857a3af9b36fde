use Rattle.rmp_decode.proofs.Leaves.{leaf_held}
use Rattle.rmp_decode.proofs.deserializer.Deserializer.read_leaf.Goals as goal

pub returns-in-Some : goal.returns-in-Some
returns-in-Some g c = leaf_held g.R.Source _ _ _ _ (_, _) c.in-Some.ensures.taken.begun _ (g.met.K.Leaf.found c.args.kind c.in-Some.value c.in-Some.ensures.wanted)
