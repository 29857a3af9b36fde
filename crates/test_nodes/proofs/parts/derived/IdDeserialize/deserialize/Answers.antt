use Rattle.rmp_decode.proofs.Laws.{lawful_ok, lawful_err}
use Rattle.test_nodes.proofs.parts.derived.IdDeserialize.deserialize.Goals as goal

pub returns-in-Ok-clause-law : goal.returns-in-Ok-clause-law
returns-in-Ok-clause-law g c = lawful_ok _ _ _ _ _ _ _ (λ m r. r.1) c.in-Ok.ensures.law

pub returns-in-Err-clause-law : goal.returns-in-Err-clause-law
returns-in-Err-clause-law g c = lawful_err _ _ _ _ _ _ (λ m r. (r.0.0, ((λ e. cc), r.1))) c.in-Err.ensures.law

pub returns-in-Err-clause-refused : goal.returns-in-Err-clause-refused
returns-in-Err-clause-refused g c = c.in-Err.ensures.refused (λ e. cc)
