use Rattle.std.proofs.Common.{refl, inr}
use Rattle.rmp_decode.proofs.Payloads.{payload_short, message_read, message_refused}
use Rattle.rmp_decode.proofs.Wide.{sixteen_read}
use Rattle.rmp_decode.proofs.deserializer.Deserializer.unsigned_payload.Goals as goal

pub returns-in-Ok : goal.returns-in-Ok
returns-in-Ok g c = message_read g.R.Source _ c.args.self.now _ tt _ _ (sixteen_read _ _ _ _ c.in-Ok.n _ c.in-Ok.ensures (λ m s. inr s))

pub returns-in-Err : goal.returns-in-Err
returns-in-Err g c = message_refused g.R.Source _ c.args.self.now _ tt _ refl refl _ (payload_short g.R.Source _ _ _ _ _ refl _ c.in-Err.ensures)
