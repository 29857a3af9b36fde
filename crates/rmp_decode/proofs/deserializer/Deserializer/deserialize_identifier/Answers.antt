use Rattle.std.proofs.Common.{true}
use Rattle.rmp_decode.proofs.deserializer.Deserializer.deserialize_identifier.Goals as goal

pub returns-in-Some : goal.returns-in-Some
returns-in-Some g c =
    let t = c.in-Some.ensures.taken in
    let r = c.identifier_payload.ensures true c.args.self.now t.marker t.begun in
    record { law = r.law; exact = r.exact; taken = r.taken; memory = r.memory }
