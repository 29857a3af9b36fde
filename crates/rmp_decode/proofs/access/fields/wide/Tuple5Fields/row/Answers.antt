use Rattle.rmp_decode.proofs.FieldRows.{row_fails_as}
use Rattle.rmp_decode.proofs.Fields.{if_some}
use Rattle.rmp_decode.proofs.access.fields.wide.Tuple5Fields.row.Goals as goal

pub returns-clause-err : goal.returns-clause-err
returns-clause-err g c = λ n. if_some c.row.new.refusal (λ e. row_fails_as (λ ms r. ((r.0.0, (r.0.1, (r.0.2, (r.0.3, r.0.4)))), r.1))) (c.row.ensures.err n)
