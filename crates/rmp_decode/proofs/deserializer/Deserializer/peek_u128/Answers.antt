use Rattle.std.proofs.Common.{refl, inl}
use Rattle.rmp_decode.proofs.Payloads.{message_alone, whole_alone}
use Rattle.rmp_decode.proofs.deserializer.Deserializer.peek_u128.Goals as goal

pub returns-in-Some : goal.returns-in-Some
returns-in-Some g c = message_alone _ _ _ _ (_, _) _ c.in-Some.ensures.taken.begun (whole_alone _ _ _ _ refl (inl (rw c.from.ensures refl)))
