use Rattle.std.proofs.Common.{refl, rules, inl}
use Rattle.std.specs.Int.{w128}
use Rattle.std.proofs.lemmas.Int.{to_z-of_z}
use Rattle.rmp_decode.proofs.Payloads.{message_none, message_other, message_alone, taken_as, whole_alone}
use Rattle.rmp_decode.proofs.Wide.{not_signed_head, signed_only}
use Rattle.rmp_decode.proofs.deserializer.Deserializer.slow_i128.Goals as goal

pub returns-in-Some : goal.returns-in-Some
returns-in-Some g c = rw (to_z-of_z w128 c.in-Some.z (search rules))
    (message_alone g.R.Source _ c.args.self.now c.head.new.self c.in-Ok.next _ c.in-Ok.ensures (whole_alone _ _ c.in-Some.z _ c.in-Some.ensures (inl refl)))

pub returns-then-not-is_sixteen : goal.returns-then-not-is_sixteen
returns-then-not-is_sixteen g c =
    let no = not_signed_head c.in-Ok.next.1 (c.in_default.ensures, c.is_sixteen.ensures.no (search rules)) in
    message_other g.R.Source _ c.args.self.now _ c.in-Ok.next _ c.in-Ok.ensures no no signed_only c.not_wide.ensures.same c.not_wide.ensures.memory

pub returns : goal.returns
returns g c = c.signed_payload.ensures c.args.self.now _ (taken_as g.R.Source _ _ _ _ _ (c.is_sixteen.ensures.yes (search rules)) c.in-Ok.ensures)

pub returns-in-Err : goal.returns-in-Err
returns-in-Err g c = message_none g.R.Source _ _ _ _ c.in-Err.ensures
