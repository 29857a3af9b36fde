use Rattle.rmp_serde.proofs.Decoding.Laws.{lawful_ok, lawful_err}
use Rattle.recipes.proofs.times.derived.EventDeserialize.deserialize.Goals as goal

pub returns-in-Ok-clause-law : goal.returns-in-Ok-clause-law
returns-in-Ok-clause-law g c = lawful_ok _ _ _ _ _ _ _ (λ m r. r) c.in-Ok.ensures.law

pub returns-in-Err-clause-law : goal.returns-in-Err-clause-law
returns-in-Err-clause-law g c = lawful_err _ _ _ _ _ _ (λ m r. ((r.0.time, (r.0.what, tt)), r.1)) c.in-Err.ensures.law

pub returns-in-Err-clause-refused : goal.returns-in-Err-clause-refused
returns-in-Err-clause-refused g c = c.in-Err.ensures.refused
