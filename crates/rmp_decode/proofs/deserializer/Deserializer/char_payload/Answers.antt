use Rattle.rmp_decode.proofs.Payloads.{message_read, message_refused}
use Rattle.rmp_decode.proofs.deserializer.Deserializer.char_payload.Goals as goal

pub returns-in-Ok : goal.returns-in-Ok
returns-in-Ok g c = message_read g.R.Source _ c.args.self.now _ tt _ _ c.in-Ok.ensures

pub returns-in-Err : goal.returns-in-Err
returns-in-Err g c = message_refused g.R.Source _ c.args.self.now _ tt _ tt tt _ c.in-Err.ensures
