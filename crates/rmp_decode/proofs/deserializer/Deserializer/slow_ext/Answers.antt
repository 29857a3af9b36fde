use Rattle.std.proofs.Common.{refl, rules}
use Rattle.std.specs.Int.{w8}
use Rattle.std.proofs.lemmas.Int.{to_z-of_z}
use Rattle.rmp_decode.proofs.ContentErrors.{no_ext_head}
use Rattle.rmp_decode.proofs.Payloads.{message_none, message_other, ext_only, taken_as}
use Rattle.rmp_decode.proofs.deserializer.Deserializer.slow_ext.Goals as goal

pub returns-in-Some : goal.returns-in-Some
returns-in-Some g c =
    let rest = rw (to_z-of_z w8 c.in-Some.tag (search rules)) at c.ext_payload.ensures in
    rest c.args.self.now c.in-Ok.marker (taken_as g.R.Source _ _ _ _ _ c.in-Some.ensures c.in-Ok.ensures)

pub returns-in-None : goal.returns-in-None
returns-in-None g c =
    let no = no_ext_head c.in-Ok.head c.in-None.ensures in
    message_other g.R.Source _ _ _ (_, c.in-Ok.head) _ c.in-Ok.ensures no no ext_only refl (λ m. absurd (cc))

pub returns-in-Err : goal.returns-in-Err
returns-in-Err g c = message_none g.R.Source _ _ _ _ c.in-Err.ensures
