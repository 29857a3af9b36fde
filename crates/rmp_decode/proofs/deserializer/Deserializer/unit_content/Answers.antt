use Rattle.std.proofs.Common.{refl, rules}
use Rattle.rmp_decode.proofs.Leaves.{leaf_none, leaf_other}
use Rattle.rmp_decode.proofs.Units.{not_nil}
use Rattle.rmp_decode.proofs.deserializer.Deserializer.unit_content.Goals as goal

pub returns-in-None : goal.returns-in-None
returns-in-None g c =
    leaf_other g.R.Source _ _ _ _ (c.in-Ok.marker, c.in-Ok.head) c.in-Ok.ensures _ (not_nil c.in-Ok.head c.in-None.ensures) refl (search rules)

pub returns-in-Err : goal.returns-in-Err
returns-in-Err g c = leaf_none g.R.Source _ _ _ _ _ c.in-Err.ensures
