use Rattle.rmp_decode.proofs.ContentErrors.{raw_len}
use Rattle.rmp_decode.proofs.Payloads.{payload_short}
use Rattle.rmp_decode.proofs.content.pieces.next_raw.Goals as goal

pub returns-in-Err : goal.returns-in-Err
returns-in-Err g c = payload_short g.R.Source _ _ _ _ _ (raw_len c.args.is_text c.args.len) _ c.in-Err.ensures
