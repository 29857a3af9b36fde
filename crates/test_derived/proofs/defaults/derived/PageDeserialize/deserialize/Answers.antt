use Rattle.rmp_decode.proofs.Defaults.{fields_given, plain_field, given_field, fields_needed, plain_needed, given_needed, none_needed, given}
use Rattle.rmp_decode.proofs.Laws.{lawful_ok, lawful_err}
use Rattle.std.proofs.Common.{◌≡◌, refl, rules}
use Rattle.std.specs.Prelude.{◌∷◌, [], codes}
use Rattle.test_derived.proofs.defaults.derived.PageDeserialize.deserialize.Goals as goal

pub returns-in-Ok-clause-law : goal.returns-in-Ok-clause-law
returns-in-Ok-clause-law g c = lawful_ok _ _ _ _ _ _ _
    (λ m r. (
      fields_given (codes "title" ∷ (codes "edition" ∷ [])) _ _
          (plain_field _ _ (given_field _ _ (λ fs h. h) _ (λ v. v ≡ 1) _ _ _ refl c.unwrap_or-edition.ensures) _ _) m r,
      refl,
      refl,
      (search rules),
      refl,
    ))
    c.in-Ok.ensures.law

pub returns-in-Err-clause-law : goal.returns-in-Err-clause-law
returns-in-Err-clause-law g c = lawful_err _ _ _ _ _ _
    (λ m r. let x = fields_needed (codes "title" ∷ (codes "edition" ∷ [])) _ _ (plain_needed _ _ (given_needed _ _ none_needed _ _ r.0.edition) _ _) m r.1.0
    in ((r.0.title, (given x.0.0, tt)), x.1)) c.in-Err.ensures.law

pub returns-in-Err-clause-refused : goal.returns-in-Err-clause-refused
returns-in-Err-clause-refused g c = c.in-Err.ensures.refused
