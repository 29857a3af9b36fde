use Rattle.rmp_decode.proofs.Laws.{lawful_ok, lawful_err}
use Rattle.std.proofs.Common.{rules}
use Rattle.std.proofs.lemmas.Int.{to_z-of_z}
use Rattle.std.specs.Int.{w8, w16, w32, w64}
use Rattle.test_wide.proofs.surveys.derived.ChartDeserialize.deserialize.Goals as goal

pub returns-in-Ok-clause-law : goal.returns-in-Ok-clause-law
returns-in-Ok-clause-law g c = rw (to_z-of_z w64 c.in-Ok.parts.4.3 (search rules))
    (rw (to_z-of_z w32 c.in-Ok.parts.4.2 (search rules))
    (rw (to_z-of_z w16 c.in-Ok.parts.4.1 (search rules))
    (rw (to_z-of_z w8 c.in-Ok.parts.4.0 (search rules)) (lawful_ok _ _ _ _ _ _ _ (λ m r. r) c.in-Ok.ensures.law))))

pub returns-in-Err-clause-law : goal.returns-in-Err-clause-law
returns-in-Err-clause-law g c = lawful_err _ _ _ _ _ _
    (λ m r. (
      (
        r.0.number,
        r.0.name,
        r.0.born,
        r.0.weight,
        (r.0.height, r.0.fever, r.0.offset, r.0.balance, (r.0.neutered, r.0.chip, r.0.owner, r.0.shots, (r.0.notes, r.0.heart, r.0.lungs, r.0.last, tt))),
      ),
      r.1,
    )) c.in-Err.ensures.law

pub returns-in-Err-clause-refused : goal.returns-in-Err-clause-refused
returns-in-Err-clause-refused g c = c.in-Err.ensures.refused
