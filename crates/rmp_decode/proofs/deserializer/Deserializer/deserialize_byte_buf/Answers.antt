use Rattle.std.proofs.Common.{false}
use Rattle.rmp_decode.proofs.Buffers.{buffer_raw}
use Rattle.rmp_decode.proofs.deserializer.Deserializer.deserialize_byte_buf.Goals as goal

pub returns-in-Some : goal.returns-in-Some
returns-in-Some g c =
    let t = c.in-Some.ensures.taken in
    let r = buffer_raw g.R.Source _ c.take.new.self _ false c.in-Some.len t.marker _ t.begun (c.byte_buf_payload.ensures false _ _ t.begun) in
    record { law = r.law; exact = r.exact; list = r.list; taken = r.taken }
