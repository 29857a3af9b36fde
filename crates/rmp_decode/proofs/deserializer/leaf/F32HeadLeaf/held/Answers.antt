use Rattle.rmp_decode.proofs.Leaves.{float32_leaf, holds_found}
use Rattle.rmp_decode.proofs.deserializer.leaf.F32HeadLeaf.held.Goals as goal

pub returns : goal.returns
returns c = holds_found float32_leaf _ _ c.as_f32_bits.ensures
