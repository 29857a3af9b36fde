use Rattle.std.proofs.Common.{arith}
use Rattle.std.specs.Int.{w16}
use Rattle.rmp_decode.proofs.Numbers.{narrowed}
use Rattle.rmp_decode.proofs.deserializer.Deserializer.deserialize_i16.Goals as goal

pub returns-in-Ok-clause-law : goal.returns-in-Ok-clause-law
returns-in-Ok-clause-law g c =
    let v = c.in-Ok.ensures.law.ok.value in
    rw (narrowed w16 32767 c.in-Ok.z v.1 v.2 (omega arith) (omega arith)) c.in-Ok.ensures.law
