use Rattle.std.proofs.Common.{◌≡◌, refl, rules, inl}
use Rattle.std.specs.Int.{w64, w128}
use Rattle.std.proofs.lemmas.Int.{to_z-of_z}
use Rattle.rmp_decode.proofs.Payloads.{message_alone, whole_alone}
use Rattle.rmp_decode.proofs.deserializer.Deserializer.peek_negative_i128.Goals as goal

pub returns-in-Some : goal.returns-in-Some
returns-in-Some g c =
    let same : c.from.result ≡ c.in-Some.z = rw (to_z-of_z w64 c.in-Some.z (search rules)) at c.from.ensures in
    rw (to_z-of_z w128 c.from.result (search rules))
    (message_alone _ _ _ _ (_, _) _ c.in-Some.ensures.taken.begun (whole_alone _ _ _ _ refl (inl (rw same refl))))
