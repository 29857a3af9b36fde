use Rattle.rmp_decode.proofs.Leaves.{float64_leaf, holds_found}
use Rattle.rmp_decode.proofs.deserializer.leaf.F64HeadLeaf.held.Goals as goal

pub returns : goal.returns
returns c = holds_found float64_leaf _ _ c.as_f64_bits.ensures
