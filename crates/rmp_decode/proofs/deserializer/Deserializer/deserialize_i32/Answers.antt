use Rattle.std.proofs.Common.{arith}
use Rattle.std.specs.Int.{w32}
use Rattle.rmp_decode.proofs.Numbers.{narrowed}
use Rattle.rmp_decode.proofs.deserializer.Deserializer.deserialize_i32.Goals as goal

pub returns-in-Ok-clause-law : goal.returns-in-Ok-clause-law
returns-in-Ok-clause-law g c =
    let v = c.in-Ok.ensures.law.ok.value in
    rw (narrowed w32 2147483647 c.in-Ok.z v.1 v.2 (omega arith) (omega arith)) c.in-Ok.ensures.law
