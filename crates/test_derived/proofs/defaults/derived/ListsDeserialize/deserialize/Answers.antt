use Rattle.rmp_decode.proofs.Defaults.{fields_given, given_field, fields_needed, given_needed, none_needed, given}
use Rattle.rmp_decode.proofs.Laws.{lawful_ok, lawful_err}
use Rattle.rmp_wire.specs.Types.{buffer_bytes}
use Rattle.std.proofs.Common.{◌≡◌, rules}
use Rattle.std.specs.Prelude.{◌∷◌, [], codes, string_bytes}
use Rattle.test_derived.proofs.defaults.derived.ListsDeserialize.deserialize.Goals as goal

pub returns-in-Ok-clause-law : goal.returns-in-Ok-clause-law
returns-in-Ok-clause-law g c = lawful_ok _ _ _ _ _ _ _
    (λ m r. fields_given (codes "name" ∷ (codes "all" ∷ (codes "counts" ∷ (codes "seen" ∷ (codes "raw" ∷ []))))) _ _
    (given_field _ _ (given_field _ _ (given_field _ _
    (given_field _ _ (given_field _ _ (λ fs h. h) _ (λ v. buffer_bytes v ≡ []) _ _ _ (search rules) c.unwrap_or-raw.ensures) _ (λ v. v.keys ≡ []) _ _ _
    (search rules) c.unwrap_or-seen.ensures) _ (λ v. v.entries ≡ []) _ _ _ (search rules) c.unwrap_or-counts.ensures) _ (λ v. v.items ≡ []) _ _ _
    (search rules) c.unwrap_or-list.ensures) _ (λ v. string_bytes v ≡ []) _ _ _ (search rules) c.unwrap_or-name.ensures) m r) c.in-Ok.ensures.law

pub returns-in-Err-clause-law : goal.returns-in-Err-clause-law
returns-in-Err-clause-law g c = lawful_err _ _ _ _ _ _
    (λ m r. let x = fields_needed (codes "name" ∷ (codes "all" ∷ (codes "counts" ∷ (codes "seen" ∷ (codes "raw" ∷ []))))) _ _
    (given_needed _ _ (given_needed _ _ (given_needed _ _ (given_needed _ _ (given_needed _ _ none_needed _ _ r.0.raw) _ _ r.0.seen) _ _ r.0.counts) _ _
    r.0.list) _ _ r.0.name) m r.1 in ((given x.0.0, given x.0.1.0, given x.0.1.1.0, given x.0.1.1.1.0, (given x.0.1.1.1.1.0, tt)), x.1))
    c.in-Err.ensures.law

pub returns-in-Err-clause-refused : goal.returns-in-Err-clause-refused
returns-in-Err-clause-refused g c = c.in-Err.ensures.refused
