use Rattle.rmp_serde.proofs.Decoding.Laws.{lawful_ok, lawful_err}
use Rattle.std.proofs.Common.{rules}
use Rattle.std.proofs.lemmas.Int.{to_z-of_z}
use Rattle.std.specs.Int.{w16}
use Rattle.recipes.proofs.reading.derived.ReadingDeserialize.deserialize.Goals as goal

pub returns-in-Ok-clause-law : goal.returns-in-Ok-clause-law
returns-in-Ok-clause-law g c = rw (to_z-of_z w16 c.in-Ok.parts.1.1.0 (search rules)) (lawful_ok _ _ _ _ _ _ _ (λ m r. r) c.in-Ok.ensures.law)

pub returns-in-Err-clause-law : goal.returns-in-Err-clause-law
returns-in-Err-clause-law g c = lawful_err _ _ _ _ _ _ (λ m r. ((r.0.second, (r.0.sensor, (r.0.celsius, tt))), r.1)) c.in-Err.ensures.law

pub returns-in-Err-clause-refused : goal.returns-in-Err-clause-refused
returns-in-Err-clause-refused g c = c.in-Err.ensures.refused
