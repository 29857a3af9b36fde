use Rattle.std.proofs.Common.{rules}
use Rattle.std.specs.Int.{w8}
use Rattle.std.proofs.lemmas.Int.{to_z-of_z}
use Rattle.rmp_decode.proofs.deserializer.Deserializer.deserialize_ext.Goals as goal

pub returns-in-Some : goal.returns-in-Some
returns-in-Some g c =
    let t = c.in-Some.ensures.taken in
    let rest = rw (to_z-of_z w8 c.in-Some.tag (search rules)) at c.ext_payload.ensures in
    let r = rest c.args.self.now t.marker t.begun in
    record { law = r.law; exact = r.exact; taken = r.taken }
