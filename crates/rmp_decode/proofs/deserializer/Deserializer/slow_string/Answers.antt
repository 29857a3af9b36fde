use Rattle.std.proofs.Common.{string_bytes, refl}
use Rattle.rmp_decode.proofs.ContentErrors.{no_raw_head}
use Rattle.rmp_decode.proofs.Payloads.{message_none, message_other, raw_only, syntax_memory}
use Rattle.rmp_decode.proofs.deserializer.Deserializer.slow_string.Goals as goal

pub returns-in-None : goal.returns-in-None
returns-in-None g c =
    let no = no_raw_head c.in-Ok.head c.in-None.ensures in
    message_other g.R.Source _ _ _ (_, c.in-Ok.head) _ c.in-Ok.ensures no no (λ m s r. raw_only r.0 (string_bytes s) m r.1) refl (syntax_memory _)

pub returns-in-Err : goal.returns-in-Err
returns-in-Err g c = message_none g.R.Source _ _ _ _ c.in-Err.ensures
