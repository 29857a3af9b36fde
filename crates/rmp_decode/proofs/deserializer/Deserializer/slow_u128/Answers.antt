use Rattle.std.proofs.Common.{ap, sym, rules, arith}
use Rattle.std.specs.Int.{w128}
use Rattle.std.proofs.lemmas.Int.{ints, to_z-of_z}
use Rattle.rmp_decode.specs.Wide.{not_wide}
use Rattle.rmp_decode.proofs.Payloads.{message_none, message_other, message_alone, taken_as, whole_alone}
use Rattle.rmp_decode.proofs.Wide.{not_negative_head, not_unsigned_head, unsigned_as, unsigned_only}
use Rattle.rmp_decode.proofs.deserializer.Deserializer.slow_u128.Goals as goal

pub returns-in-Some : goal.returns-in-Some
returns-in-Some g c =
    let same = to_z-of_z w128 c.in-Some.z (search rules) in
    message_alone g.R.Source _ c.args.self.now c.head.new.self c.in-Ok.next _ c.in-Ok.ensures
    (whole_alone _ _ c.in-Some.z _ c.in-Some.ensures (unsigned_as c.in-Some.z _ (omega (arith, ints, same))))

pub returns-then-z-lt0 : goal.returns-then-z-lt0
returns-then-z-lt0 g c =
    let no = not_negative_head _ c.in-Some.z c.in-Some.ensures (λ p. omega (arith, ints)) in
    message_other g.R.Source _ c.args.self.now _ c.in-Ok.next _ c.in-Ok.ensures no no unsigned_only (ap (not_wide c.in-Ok.next.0) (sym c.in-Some.ensures))
    (λ m. absurd (cc))

pub returns-then-not-is_sixteen : goal.returns-then-not-is_sixteen
returns-then-not-is_sixteen g c =
    let no = not_unsigned_head c.in-Ok.next.1 (c.in_default.ensures, c.is_sixteen.ensures.no (search rules)) in
    message_other g.R.Source _ c.args.self.now _ c.in-Ok.next _ c.in-Ok.ensures no no unsigned_only c.not_wide.ensures.same c.not_wide.ensures.memory

pub returns : goal.returns
returns g c = c.unsigned_payload.ensures c.args.self.now _ (taken_as g.R.Source _ _ _ _ _ (c.is_sixteen.ensures.yes (search rules)) c.in-Ok.ensures)

pub returns-in-Err : goal.returns-in-Err
returns-in-Err g c = message_none g.R.Source _ _ _ _ c.in-Err.ensures
