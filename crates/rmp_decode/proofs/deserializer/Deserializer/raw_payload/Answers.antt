use Rattle.rmp_decode.proofs.ContentErrors.{raw_wanted}
use Rattle.rmp_decode.proofs.Payloads.{raw_has, message_asked}
use Rattle.rmp_decode.proofs.deserializer.Deserializer.raw_payload.Goals as goal

pub returns : goal.returns
returns g c =
    let wanted = raw_wanted c.args.is_text c.args.len in
    rw c.is_err-self.ensures.value (message_asked g.R.Source _ c.args.self.now _ (raw_has c.args.is_text c.args.len) _ wanted wanted _ c.next_raw-read.ensures)
