use Rattle.rmp_decode.proofs.Defaults.{fields_given, given_field, fields_needed, given_needed, none_needed, given}
use Rattle.rmp_decode.proofs.Laws.{lawful_ok, lawful_err}
use Rattle.std.proofs.Common.{◌≡◌, refl}
use Rattle.std.specs.Prelude.{◌∷◌, [], codes}
use Rattle.test_derived.proofs.defaults.derived.OnceDeserialize.deserialize.Goals as goal

pub returns-in-Ok-clause-law : goal.returns-in-Ok-clause-law
returns-in-Ok-clause-law g c = lawful_ok _ _ _ _ _ _ _
    (λ m r. fields_given (codes "times" ∷ []) _ _ (given_field _ _ (λ fs h. h) _ (λ v. v ≡ 3) _ _ _ refl c.unwrap_or-times.ensures) m r) c.in-Ok.ensures.law

pub returns-in-Err-clause-law : goal.returns-in-Err-clause-law
returns-in-Err-clause-law g c = lawful_err _ _ _ _ _ _
    (λ m r. let x = fields_needed (codes "times" ∷ []) _ _ (given_needed _ _ none_needed _ _ r.0.times) m r.1
    in ((given x.0.0, tt), x.1)) c.in-Err.ensures.law

pub returns-in-Err-clause-refused : goal.returns-in-Err-clause-refused
returns-in-Err-clause-refused g c = c.in-Err.ensures.refused
