use Rattle.rmp_decode.proofs.FieldReads.{row_tuple}
use Rattle.rmp_decode.proofs.deserializer.Deserializer.tuple_parts.Goals as goal

pub returns-in-Some : goal.returns-in-Some
returns-in-Some g c =
    let r = row_tuple c.requires.count c.in-Some.ensures.deep c.in-Some.ensures.taken c.row_ahead.ensures in
    record { law = r.law; refused = r.refused; memory = r.memory }

pub returns-in-Err-clause-law : goal.returns-in-Err-clause-law
returns-in-Err-clause-law g c = rw c.in-None.ensures.kept at c.in-Err.ensures.law
