use Rattle.rmp_decode.proofs.Laws.{lawful_ok, lawful_err}
use Rattle.test_types.proofs.structs.WideDeserialize.deserialize.Goals as goal

pub returns-in-Ok-clause-law : goal.returns-in-Ok-clause-law
returns-in-Ok-clause-law g c = lawful_ok _ _ _ _ _ _ _ (λ m r. r) c.in-Ok.ensures.law

pub returns-in-Err-clause-law : goal.returns-in-Err-clause-law
returns-in-Err-clause-law g c = lawful_err _ _ _ _ _ _
    (λ m r. ((r.0.zeta, (r.0.alpha, (r.0.beta, (r.0.gamma, (r.0.delta, (r.0.epsilon, (r.0.eta, (r.0.theta, tt)))))))), r.1)) c.in-Err.ensures.law
