use Rattle.std.proofs.Common.{refl}
use Rattle.rmp_decode.proofs.ContentErrors.{no_text_head}
use Rattle.rmp_decode.proofs.Payloads.{message_none, message_other, char_only, syntax_memory}
use Rattle.rmp_decode.proofs.deserializer.Deserializer.slow_char.Goals as goal

pub returns-in-None : goal.returns-in-None
returns-in-None g c =
    let no = no_text_head c.in-Ok.head c.in-None.ensures in
    message_other g.R.Source _ _ _ (_, c.in-Ok.head) _ c.in-Ok.ensures no no char_only refl (syntax_memory _)

pub returns-in-Err : goal.returns-in-Err
returns-in-Err g c = message_none g.R.Source _ _ _ _ c.in-Err.ensures
