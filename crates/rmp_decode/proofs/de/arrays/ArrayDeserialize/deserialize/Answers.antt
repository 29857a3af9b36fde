use Rattle.rmp_decode.proofs.RowReads.{row_opens}
use Rattle.rmp_decode.proofs.de.arrays.ArrayDeserialize.deserialize.Goals as goal

pub returns-in-Some : goal.returns-in-Some
returns-in-Some g c = let r = c.array_row.ensures _ (row_opens c.in-Some.ensures.opened) in record { law = r.law; refused = r.refused; memory = r.memory }

pub returns-in-Some-buffered_bytes : goal.returns-in-Some-buffered_bytes
returns-in-Some-buffered_bytes g c =
    let r = c.number_row.ensures _ (row_opens (rw c.in-None.ensures.kept at c.in-Some-buffered_bytes.ensures.opened)) in
    record { law = r.law; refused = r.refused; memory = r.memory }

pub returns-in-None-buffered_bytes : goal.returns-in-None-buffered_bytes
returns-in-None-buffered_bytes g c =
    let r = rw c.in-None.ensures.kept at rw c.in-None-buffered_bytes.ensures.kept at c.slow_array.ensures in
    record { law = r.law; refused = r.refused; memory = r.memory }
