use Rattle.rmp_decode.proofs.Laws.{lawful_ok, lawful_err}
use Rattle.std.proofs.Common.{rules}
use Rattle.std.proofs.lemmas.Int.{to_z-of_z}
use Rattle.std.specs.Int.{w8}
use Rattle.test_wide.proofs.rows.derived.PapersDeserialize.deserialize.Goals as goal

pub returns-in-Ok-clause-law : goal.returns-in-Ok-clause-law
returns-in-Ok-clause-law g c = rw (to_z-of_z w8 c.in-Ok.parts.4.3 (search rules)) (lawful_ok _ _ _ _ _ _ _ (λ m r. r) c.in-Ok.ensures.law)

pub returns-in-Err-clause-law : goal.returns-in-Err-clause-law
returns-in-Err-clause-law g c = lawful_err _ _ _ _ _ _
    (λ m r. ((r.0.number, r.0.name, r.0.born, r.0.chip, (r.0.mother, r.0.father, r.0.weight, r.0.height, (r.0.vaccinated, tt))), r.1)) c.in-Err.ensures.law

pub returns-in-Err-clause-refused : goal.returns-in-Err-clause-refused
returns-in-Err-clause-refused g c = c.in-Err.ensures.refused
