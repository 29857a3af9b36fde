use Rattle.std.proofs.Common.{refl}
use Rattle.rmp_decode.proofs.Payloads.{payload_short}
use Rattle.rmp_decode.proofs.content.pieces.next_ext.Goals as goal

pub returns-in-Err : goal.returns-in-Err
returns-in-Err g c = payload_short g.R.Source _ _ _ _ _ refl _ c.in-Err.ensures
