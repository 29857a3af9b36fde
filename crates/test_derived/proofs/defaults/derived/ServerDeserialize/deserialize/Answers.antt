use Rattle.rmp_decode.proofs.Defaults.{fields_given, plain_field, given_field, fields_needed, plain_needed, given_needed, none_needed, given}
use Rattle.rmp_decode.proofs.Laws.{lawful_ok, lawful_err}
use Rattle.std.proofs.Common.{◌≡◌, refl, rules}
use Rattle.std.proofs.lemmas.Int.{to_z-of_z}
use Rattle.std.specs.Int.{w8, w32}
use Rattle.std.specs.Prelude.{◌∷◌, [], codes, pos}
use Rattle.test_derived.specs.declared.defaults.TheConstants.{CORNER, PLAIN, TRIES}
use Rattle.test_derived.proofs.defaults.derived.ServerDeserialize.deserialize.Goals as goal

pub returns-in-Ok-clause-law : goal.returns-in-Ok-clause-law
returns-in-Ok-clause-law g c = rw (to_z-of_z w8 c.unwrap_or-shift.result (search rules))
    (rw (to_z-of_z w32 c.unwrap_or-tries.result (search rules))
    (lawful_ok _ _ _ _ _ _ _ (λ m r. fields_given (codes "host"
    ∷ (codes "port" ∷ (codes "tries" ∷ (codes "shift" ∷ (codes "note" ∷ (codes "sign" ∷ (codes "corner" ∷ (codes "level" ∷ [])))))))) _ _
    (plain_field _ _ (given_field _ _ (given_field _ _
    (given_field _ _ (plain_field _ _ (given_field _ _
    (given_field _ _ (given_field _ _ (λ fs h. h) _ (λ v. v ≡ PLAIN) _ _ _ refl c.unwrap_or-level.ensures) _ (λ v. v ≡ CORNER) _ _ _ refl
    c.unwrap_or-corner.ensures) _ (λ v. v ≡ 47) _ _ _ refl c.unwrap_or-sign.ensures) _ _) _ (λ v. v ≡ pos 0) _ _ _ refl c.unwrap_or-shift.ensures) _
    (λ v. v ≡ TRIES) _ _ _ refl c.unwrap_or-tries.ensures) _ (λ v. v ≡ 8080) _ _ _ refl c.unwrap_or-port.ensures) _ _) m r) c.in-Ok.ensures.law))

pub returns-in-Err-clause-law : goal.returns-in-Err-clause-law
returns-in-Err-clause-law g c = lawful_err _ _ _ _ _ _
    (λ m r. let x = fields_needed (codes "host" ∷ (codes "port"
    ∷ (codes "tries" ∷ (codes "shift" ∷ (codes "note" ∷ (codes "sign" ∷ (codes "corner" ∷ (codes "level" ∷ [])))))))) _ _
    (plain_needed _ _ (given_needed _ _ (given_needed _ _
    (given_needed _ _ (plain_needed _ _ (given_needed _ _ (given_needed _ _ (given_needed _ _ none_needed _ _ r.0.level) _ _ r.0.corner) _ _ r.0.sign) _ _)
    _ _ r.0.shift) _ _ r.0.tries) _ _ r.0.port) _ _) m r.1
    in ((r.0.host, given x.0.0, given x.0.1.0, given x.0.1.1.0, (r.0.note, given x.0.1.1.1.0, given x.0.1.1.1.1.0, given x.0.1.1.1.1.1.0, tt)), x.1))
    c.in-Err.ensures.law

pub returns-in-Err-clause-refused : goal.returns-in-Err-clause-refused
returns-in-Err-clause-refused g c = c.in-Err.ensures.refused
