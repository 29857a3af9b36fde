use Rattle.rmp_decode.proofs.Laws.{lawful_ok, lawful_err}
use Rattle.rmp_decode.proofs.Tuples.{row_as, each_field, no_field, field_each, field_none}
use Rattle.std.proofs.Common.{rules}
use Rattle.std.proofs.lemmas.Int.{to_z-of_z}
use Rattle.std.specs.Int.{w32, w128}
use Rattle.test_wide.proofs.rows.derived.RowDeserialize.deserialize.Goals as goal

pub returns-in-Ok-clause-law : goal.returns-in-Ok-clause-law
returns-in-Ok-clause-law g c = rw (to_z-of_z w128 c.in-Ok.parts.4.4.4.1 (search rules))
    (rw (to_z-of_z w32 c.in-Ok.parts.2 (search rules))
    (lawful_ok _ _ _ _ _ _ _ (row_as _ _ (each_field _ _ _ _
    (each_field _ _ _ _ (each_field _ _ _ _ (each_field _ _ _ _
    (each_field _ _ _ _ (each_field _ _ _ _ (each_field _ _ _ _
    (each_field _ _ _ _ (each_field _ _ _ _ (each_field _ _ _ _
    (each_field _ _ _ _ (each_field _ _ _ _ (each_field _ _ _ _ (each_field _ _ _ _ (each_field _ _ _ _ (each_field _ _ _ _ no_field)))))))))))))))))
    c.in-Ok.ensures.law))

pub returns-in-Err-clause-law : goal.returns-in-Err-clause-law
returns-in-Err-clause-law g c = lawful_err _ _ _ _ _ _
    (λ m r. (
      (r.0.0, r.0.1, r.0.2, r.0.3, (r.0.4, r.0.5, r.0.6, r.0.7, (r.0.8, r.0.9, r.0.10, r.0.11, (r.0.12, r.0.13, r.0.14, r.0.15, tt)))),
      row_as _ _
          (field_each _ _ _ _ (field_each _ _ _ _ (field_each _ _ _ _
          (field_each _ _ _ _ (field_each _ _ _ _ (field_each _ _ _ _
          (field_each _ _ _ _ (field_each _ _ _ _ (field_each _ _ _ _
          (field_each _ _ _ _ (field_each _ _ _ _ (field_each _ _ _ _
          (field_each _ _ _ _ (field_each _ _ _ _ (field_each _ _ _ _ (field_each _ _ _ _ field_none)))))))))))))))) m r.1,
    )) c.in-Err.ensures.law

pub returns-in-Err-clause-refused : goal.returns-in-Err-clause-refused
returns-in-Err-clause-refused g c = c.in-Err.ensures.refused
