use Rattle.rmp_decode.proofs.Tuples.{parts_fail_as}
use Rattle.rmp_decode.proofs.access.fields.eight.EightThenFields.listed.Goals as goal

pub returns-in-Err-clause-err : goal.returns-in-Err-clause-err
returns-in-Err-clause-err g c = parts_fail_as (λ ms r.
    ((r.0.first, r.0.second, r.0.third, r.0.fourth, (r.0.fifth, r.0.sixth, r.0.seventh, r.0.eighth, r.0.rest)), r.1)) c.in-Err.ensures.err
