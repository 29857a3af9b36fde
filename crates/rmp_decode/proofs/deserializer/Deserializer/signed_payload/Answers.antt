use Rattle.std.proofs.Common.{refl, rules, inr}
use Rattle.std.specs.Int.{w128}
use Rattle.std.proofs.lemmas.Int.{to_z-of_z}
use Rattle.rmp_decode.proofs.Payloads.{payload_short, message_read, message_refused}
use Rattle.rmp_decode.proofs.Wide.{sixteen_read}
use Rattle.rmp_decode.proofs.deserializer.Deserializer.signed_payload.Goals as goal

pub returns-in-Ok : goal.returns-in-Ok
returns-in-Ok g c = rw (to_z-of_z w128 c.cast_signed.result (search rules))
    (message_read g.R.Source _ c.args.self.now _ tt _ _
    (sixteen_read _ _ _ _ c.in-Ok.n _ c.in-Ok.ensures (λ m s. inr (c.in-Ok.n, s, c.cast_signed.ensures))))

pub returns-in-Err : goal.returns-in-Err
returns-in-Err g c = message_refused g.R.Source _ c.args.self.now _ tt _ refl refl _ (payload_short g.R.Source _ _ _ _ _ refl _ c.in-Err.ensures)
