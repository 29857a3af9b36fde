use Rattle.rmp_decode.proofs.Buffers.{buffer_raw, buffer_listed, buffer_unopened, buffer_of_other}
use Rattle.rmp_decode.proofs.Payloads.{taken_as}
use Rattle.rmp_decode.proofs.deserializer.Deserializer.slow_byte_buf.Goals as goal

pub returns-in-Some : goal.returns-in-Some
returns-in-Some g c =
    let k = c.in-Some.field-0-0 in
    let h = taken_as g.R.Source _ _ _ _ _ c.in-Some.ensures c.in-Ok.ensures in
    buffer_raw g.R.Source _ c.head.new.self _ k c.in-Some.len _ _ h (c.byte_buf_payload.ensures k _ _ h)

pub returns-in-Some-as_array : goal.returns-in-Some-as_array
returns-in-Some-as_array g c = buffer_listed g.R.Source _ c.head.new.self _ c.in-Some-as_array.len _ _
    (taken_as g.R.Source _ _ _ _ _ c.in-Some-as_array.ensures c.in-Ok.ensures) c.byte_list.ensures

pub returns-in-None-as_array : goal.returns-in-None-as_array
returns-in-None-as_array g c = buffer_of_other g.R.Source _ _ (_, c.in-Ok.head) c.in-Ok.ensures c.in-None.ensures c.in-None-as_array.ensures

pub returns-in-Err : goal.returns-in-Err
returns-in-Err g c = buffer_unopened g.R.Source _ _ _ c.in-Err.ensures
