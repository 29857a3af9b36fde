use Rattle.rmp_decode.proofs.ContentErrors.{raw_wanted}
use Rattle.rmp_decode.proofs.Names.{name_wanted}
use Rattle.rmp_decode.proofs.Payloads.{raw_has, message_read, message_refused}
use Rattle.rmp_decode.proofs.deserializer.Deserializer.identifier_payload.Goals as goal

pub returns-in-Ok : goal.returns-in-Ok
returns-in-Ok g c = λ t. message_read g.R.Source _ c.args.self.now _ (raw_has t c.args.len) _ _ (c.in-Ok.ensures t)

pub returns-in-Err : goal.returns-in-Err
returns-in-Err g c = λ t. message_refused g.R.Source _ c.args.self.now _ (raw_has t c.args.len) _ (name_wanted t c.args.len) (raw_wanted t c.args.len) _
    (c.in-Err.ensures t)
