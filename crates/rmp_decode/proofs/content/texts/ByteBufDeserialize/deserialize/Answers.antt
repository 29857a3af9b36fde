use Rattle.rmp_decode.proofs.Laws.{lawful_err}
use Rattle.rmp_decode.proofs.content.texts.ByteBufDeserialize.deserialize.Goals as goal

pub returns-in-Err-clause-law : goal.returns-in-Err-clause-law
returns-in-Err-clause-law g c = lawful_err _ _ _ _ _ _ (λ m r. (r.0.bytes, r.1)) c.in-Err.ensures.law
