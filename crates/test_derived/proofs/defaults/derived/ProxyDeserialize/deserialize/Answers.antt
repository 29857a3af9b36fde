use Rattle.rmp_decode.proofs.Defaults.{fields_given, given_field, fields_needed, given_needed, none_needed, given}
use Rattle.rmp_decode.proofs.Laws.{lawful_ok, lawful_err}
use Rattle.rmp_decode.specs.Defaults.{IsGiven}
use Rattle.rmp_decode.specs.Fields.{Absent, Field}
use Rattle.rmp_wire.specs.Msg.{Msg}
use Rattle.std.proofs.Common.{◌≡◌, refl, sym, subst, List, Option, None, Some, inl}
use Rattle.std.specs.Prelude.{◌∷◌, [], codes, negsuc, string_bytes, MatchOption}
use Rattle.test_derived.specs.declared.defaults.TheConstants.{NAME}
use Rattle.test_derived.specs.declared.defaults.Level.TheVariants as the_level
use Rattle.test_derived.proofs.defaults.derived.ProxyDeserialize.deserialize.Goals as goal

-- a field of which a text is the default, and others
text_field : (Q S : List (Option Msg) → Type 0) → ((fs : List (Option Msg)) → Q fs → S fs) → {V : Type 0} (reads : Msg → V → Type 0) (A : V → Type 0)
    (o : Option V) (v : V) → MatchOption o (A v) (λ x. v ≡ x) → (fs : List (Option Msg))
    → Field (λ m. IsGiven (reads m) o) (Absent (Some (given None)) (given o)) Q fs → Field (λ m. reads m v) (A v) S fs
text_field Q S f reads A o v h [] q = absurd q
text_field Q S f reads A None v h (None ∷ fs) q = (h, f fs q.1)
text_field Q S f reads A (Some x) v h (None ∷ fs) q =
    absurd (subst (λ o. MatchOption o ⊥ (λ d. MatchOption d.value (Unit {0}) (λ v. ⊥))) q.0 tt)
text_field Q S f reads A None v h (Some m ∷ fs) q = absurd q.0
text_field Q S f reads A (Some x) v h (Some m ∷ fs) q = (subst (reads m) (sym h) q.0, f fs q.1)

pub returns-in-Ok-clause-law : goal.returns-in-Ok-clause-law
returns-in-Ok-clause-law g c = lawful_ok _ _ _ _ _ _ _
    (λ m r. fields_given (codes "host" ∷ (codes "tries" ∷ (codes "name" ∷ (codes "address" ∷ (codes "ports" ∷ (codes "load" ∷ (codes "level" ∷ []))))))) _ _
    (text_field _ _ (given_field _ _ (text_field _ _ (given_field _ _
    (given_field _ _ (given_field _ _ (given_field _ _ (λ fs h. h) _ (λ v. v ≡ the_level.Loud) _ _ _ refl c.unwrap_or-level.ensures) _
    (λ v. v ≡ record { 0 = 4602678819172646912 }) _ _ _ refl c.unwrap_or-load.ensures) _ (λ v. v ≡ (80, negsuc 0)) _ _ _ refl c.unwrap_or-ports.ensures) _
    (λ v. v ≡ 127 ∷ (0 ∷ (0 ∷ (1 ∷ [])))) _ _ _ refl c.unwrap_or-address.ensures) _ (λ v. string_bytes v ≡ NAME.now) _ _ c.in-Ok-text_or-2.ensures) _
    (λ v. v ≡ Some 3) _ _ _ refl c.unwrap_or-tries.ensures) _ (λ v. string_bytes v ≡ codes "localhost") _ _ c.in-Ok-text_or.ensures) m r)
    c.in-Ok.ensures.law

pub returns-in-Err-clause-law : goal.returns-in-Err-clause-law
returns-in-Err-clause-law g c = lawful_err _ _ _ _ _ _
    (λ m r. let x = fields_needed (codes "host" ∷ (codes "tries"
    ∷ (codes "name" ∷ (codes "address" ∷ (codes "ports" ∷ (codes "load" ∷ (codes "level" ∷ []))))))) _ _
    (given_needed _ _ (given_needed _ _ (given_needed _ _
    (given_needed _ _ (given_needed _ _ (given_needed _ _ (given_needed _ _ none_needed _ _ r.0.level) _ _ r.0.load) _ _ r.0.ports) _ _ r.0.address) _ _
    r.0.name) _ _ r.0.tries) _ _ r.0.host) m r.1 in (
      (
        given x.0.0,
        given x.0.1.0,
        given x.0.1.1.0,
        given x.0.1.1.1.0,
        (given x.0.1.1.1.1.0, (given x.0.1.1.1.1.1.0, (given x.0.1.1.1.1.1.1.0, tt))),
      ),
      x.1,
    )) c.in-Err.ensures.law

pub returns-in-Err-clause-refused : goal.returns-in-Err-clause-refused
returns-in-Err-clause-refused g c = λ ready. inl (c.in-Err.ensures.refused ready)
