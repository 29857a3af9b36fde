use Rattle.rmp_decode.proofs.Fields.{if_some}
use Rattle.rmp_decode.proofs.FieldRows.{row_fails_as}
use Rattle.rmp_decode.proofs.access.fields.sixteen.SixteenThenFields.row.Goals as goal

pub returns-clause-err : goal.returns-clause-err
returns-clause-err g c = λ n. if_some c.row.new.refusal
    (λ e. row_fails_as (λ ms r. (
      (record {
        first = r.0.first;
        second = r.0.second;
        third = r.0.third;
        fourth = r.0.fourth;
        fifth = r.0.fifth;
        sixth = r.0.sixth;
        seventh = r.0.seventh;
        eighth = r.0.eighth;
        rest = record {
          first = r.0.ninth;
          second = r.0.tenth;
          third = r.0.eleventh;
          fourth = r.0.twelfth;
          fifth = r.0.thirteenth;
          sixth = r.0.fourteenth;
          seventh = r.0.fifteenth;
          eighth = r.0.sixteenth;
          rest = r.0.rest;
        };
      }),
      r.1,
    ))) (c.row.ensures.err n)
