use Rattle.rmp_decode.proofs.Fields.{if_some}
use Rattle.rmp_decode.proofs.FieldRows.{row_fails_as}
use Rattle.rmp_decode.proofs.access.fields.eight.EightThenFields.row.Goals as goal

pub returns-clause-err : goal.returns-clause-err
returns-clause-err g c = λ n. if_some c.row.new.refusal
    (λ e. row_fails_as (λ ms r. ((r.0.first, r.0.second, r.0.third, r.0.fourth, (r.0.fifth, r.0.sixth, r.0.seventh, r.0.eighth, r.0.rest)), r.1)))
    (c.row.ensures.err n)
