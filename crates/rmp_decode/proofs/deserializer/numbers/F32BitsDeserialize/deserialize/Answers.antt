use Rattle.rmp_decode.proofs.Laws.{lawful_err}
use Rattle.rmp_decode.proofs.deserializer.numbers.F32BitsDeserialize.deserialize.Goals as goal

pub returns-in-Err-clause-law : goal.returns-in-Err-clause-law
returns-in-Err-clause-law g c = lawful_err _ _ _ _ _ _ (λ m r. (r.0.0, r.1)) c.in-Err.ensures.law
