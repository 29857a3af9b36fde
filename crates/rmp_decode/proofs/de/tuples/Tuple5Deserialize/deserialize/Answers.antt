use Rattle.std.proofs.Common.{◌||◌}
use Rattle.rmp_decode.proofs.Laws.{lawful_ok, lawful_err}
use Rattle.rmp_decode.proofs.Tuples.{row_as, each_field, no_field, field_each, field_none, or_last}
use Rattle.rmp_decode.proofs.de.tuples.Tuple5Deserialize.deserialize.Goals as goal

pub returns-in-Ok-clause-law : goal.returns-in-Ok-clause-law
returns-in-Ok-clause-law g c = lawful_ok g.R.Source _ _ _ _ _ _
    (row_as _ _ (each_field _ _ _ _ (each_field _ _ _ _ (each_field _ _ _ _ (each_field _ _ _ _ (each_field _ _ _ _ no_field)))))) c.in-Ok.ensures.law

pub returns-in-Err-clause-law : goal.returns-in-Err-clause-law
returns-in-Err-clause-law g c =
    lawful_err g.R.Source _ _ _ _ _ (λ m r. (
      (r.0.0, r.0.1, r.0.2, r.0.3, (r.0.4, tt)),
      row_as _ _
          (field_each _ _ _ _ (field_each _ _ _ _ (field_each _ _ _ _ (field_each _ _ _ _ (field_each _ _ _ _ field_none))))) m r.1,
    )) c.in-Err.ensures.law

pub returns-in-Err-clause-memory : goal.returns-in-Err-clause-memory
returns-in-Err-clause-memory g c = λ n. let y = g.R.ReadSlice.lends
    in c.in-Err.ensures.memory (or_last (λ z. g.A.Deserialize.takes_memory y
    || (g.B.Deserialize.takes_memory y || (g.D.Deserialize.takes_memory y || (g.E.Deserialize.takes_memory y || z)))) (g.F.Deserialize.takes_memory y) n)
