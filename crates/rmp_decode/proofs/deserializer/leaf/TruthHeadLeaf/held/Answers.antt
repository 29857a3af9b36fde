use Rattle.rmp_decode.proofs.Leaves.{truth_leaf, holds_found}
use Rattle.rmp_decode.proofs.deserializer.leaf.TruthHeadLeaf.held.Goals as goal

pub returns : goal.returns
returns c = holds_found truth_leaf _ _ c.as_bool.ensures
