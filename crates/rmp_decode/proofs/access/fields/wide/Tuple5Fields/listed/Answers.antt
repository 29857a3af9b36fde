use Rattle.rmp_decode.proofs.Tuples.{parts_fail_as}
use Rattle.rmp_decode.proofs.access.fields.wide.Tuple5Fields.listed.Goals as goal

pub returns-in-Err-clause-err : goal.returns-in-Err-clause-err
returns-in-Err-clause-err g c = parts_fail_as (λ ms r. ((r.0.0, (r.0.1, (r.0.2, (r.0.3, r.0.4)))), r.1)) c.in-Err.ensures.err
