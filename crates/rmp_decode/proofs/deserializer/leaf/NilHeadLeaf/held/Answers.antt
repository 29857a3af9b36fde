use Rattle.rmp_decode.proofs.Leaves.{nil_leaf, holds_found}
use Rattle.rmp_decode.proofs.deserializer.leaf.NilHeadLeaf.held.Goals as goal

pub returns : goal.returns
returns c = holds_found nil_leaf _ _ c.as_nil.ensures
