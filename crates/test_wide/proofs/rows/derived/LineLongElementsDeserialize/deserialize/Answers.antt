use Rattle.rmp_decode.proofs.Laws.{lawful_ok, lawful_err}
use Rattle.rmp_decode.proofs.Tuples.{row_as, each_field, no_field, field_each, field_none}
use Rattle.std.proofs.Common.{rules}
use Rattle.std.proofs.lemmas.Int.{to_z-of_z}
use Rattle.std.specs.Int.{w32, w128}
use Rattle.test_wide.proofs.rows.derived.LineLongElementsDeserialize.deserialize.Goals as goal

pub returns-in-Ok-clause-law : goal.returns-in-Ok-clause-law
returns-in-Ok-clause-law g c = rw (to_z-of_z w128 c.in-Ok.parts.4.4.4.1 (search rules))
    (rw (to_z-of_z w32 c.in-Ok.parts.2 (search rules))
    (lawful_ok _ _ _ _ _ _ _ (row_as _ _ (each_field _ _ _ _
    (each_field _ _ _ _ (each_field _ _ _ _ (each_field _ _ _ _
    (each_field _ _ _ _ (each_field _ _ _ _ (each_field _ _ _ _
    (each_field _ _ _ _ (each_field _ _ _ _ (each_field _ _ _ _
    (each_field _ _ _ _ (each_field _ _ _ _ (each_field _ _ _ _ (each_field _ _ _ _ (each_field _ _ _ _ (each_field _ _ _ _ no_field)))))))))))))))))
    c.in-Ok.ensures.law))

pub returns-in-Err-clause-law : goal.returns-in-Err-clause-law
returns-in-Err-clause-law g c = lawful_err _ _ _ _ _ _
    (λ m r. (
      (
        r.0.first,
        r.0.second,
        r.0.third,
        r.0.fourth,
        (
          r.0.fifth,
          r.0.sixth,
          r.0.seventh,
          r.0.eighth,
          (
            r.0.ninth,
            r.0.tenth,
            r.0.eleventh,
            r.0.twelfth,
            (r.0.thirteenth, r.0.fourteenth, r.0.fifteenth, r.0.sixteenth, tt),
          ),
        ),
      ),
      row_as _ _
          (field_each _ _ _ _ (field_each _ _ _ _ (field_each _ _ _ _
          (field_each _ _ _ _ (field_each _ _ _ _ (field_each _ _ _ _
          (field_each _ _ _ _ (field_each _ _ _ _ (field_each _ _ _ _
          (field_each _ _ _ _ (field_each _ _ _ _ (field_each _ _ _ _
          (field_each _ _ _ _ (field_each _ _ _ _ (field_each _ _ _ _ (field_each _ _ _ _ field_none)))))))))))))))) m r.1,
    )) c.in-Err.ensures.law

pub returns-in-Err-clause-refused : goal.returns-in-Err-clause-refused
returns-in-Err-clause-refused g c = c.in-Err.ensures.refused
