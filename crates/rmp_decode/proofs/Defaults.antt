-- Fields that have a default: what is read of them is what is read of their types, or the default where they are missing.
use Rattle.std.proofs.Common.{◌≡◌, refl, sym, subst, List, [], ◌∷◌, Option, None, Some, ℕ}
use Rattle.std.specs.Option.{unwrap_or}
use Rattle.std.specs.Prelude.{MatchOption}
use Rattle.rmp_wire.specs.Msg.{Msg}
use Rattle.rmp_decode.specs.Defaults.{IsGiven}
use Rattle.rmp_decode.specs.Fields.{Absent, Field, NoField, OfFields, fields}
use Rattle.rmp_decode.specs.declared.de.defaults.Defaulted.{Defaulted}

-- the value of such a field
abbrev pub given : {V : Type 0} → Option V → Defaulted V
given o = record { value = o }

-- what is there is a value
pub needed : {V : Type 0} {reads : V → Type 0} (o : Option V) → IsGiven reads o → (v : V) × reads v
needed None h = absurd h
needed (Some v) h = (v, h)

none_given : {V : Type 0} (x : V) → Absent (Some (given None)) (given (Some x)) → ⊥
none_given x e = subst (λ o. MatchOption o ⊥ (λ d. MatchOption d.value (Unit {0}) (λ v. ⊥))) e tt

-- ---- from what was read to the values

pub fields_given : (names : List (List ℕ)) (Q S : List (Option Msg) → Type 0) → ((fs : List (Option Msg)) → Q fs → S fs)
    → (m : Msg) → OfFields names Q m → OfFields names S m
fields_given names Q S f m = option_given (fields names m)
  where
    option_given : (o : Option (List (Option Msg))) → MatchOption o ⊥ Q → MatchOption o ⊥ S
    option_given None q = q
    option_given (Some fs) q = f fs q

module _ (Q S : List (Option Msg) → Type 0) (f : (fs : List (Option Msg)) → Q fs → S fs) where
  -- a field that has no default, and others
  pub plain_field : (P : Msg → Type 0) (A : Type 0) (fs : List (Option Msg)) → Field P A Q fs → Field P A S fs
  plain_field P A [] q = absurd q
  plain_field P A (None ∷ fs) q = (q.0, f fs q.1)
  plain_field P A (Some m ∷ fs) q = (q.0, f fs q.1)

  -- a field that has a default, of which A holds, and others
  pub given_field : {V : Type 0} (reads : Msg → V → Type 0) (A : V → Type 0) (d : V) (o : Option V) (v : V) → A d → v ≡ unwrap_or o d
      → (fs : List (Option Msg)) → Field (λ m. IsGiven (reads m) o) (Absent (Some (given None)) (given o)) Q fs → Field (λ m. reads m v) (A v) S fs
  given_field reads A d o v a e [] q = absurd q
  given_field reads A d None v a e (None ∷ fs) q = (subst A (sym e) a, f fs q.1)
  given_field reads A d (Some x) v a e (None ∷ fs) q = absurd (none_given x q.0)
  given_field reads A d None v a e (Some m ∷ fs) q = absurd q.0
  given_field reads A d (Some x) v a e (Some m ∷ fs) q = (subst (reads m) (sym e) q.0, f fs q.1)

-- ---- from the values to what is read

pub fields_needed : {W : Type 0} (names : List (List ℕ)) (Q : List (Option Msg) → Type 0) (S : W → List (Option Msg) → Type 0)
    → ((fs : List (Option Msg)) → Q fs → (w : W) × S w fs) → (m : Msg) → OfFields names Q m → (w : W) × OfFields names (S w) m
fields_needed {W} names Q S f m = option_needed (fields names m)
  where
    option_needed : (o : Option (List (Option Msg))) → MatchOption o ⊥ Q → (w : W) × MatchOption o ⊥ (S w)
    option_needed None q = absurd q
    option_needed (Some fs) q = f fs q

module _ {W : Type 0} (Q : List (Option Msg) → Type 0) (S : W → List (Option Msg) → Type 0) (f : (fs : List (Option Msg)) → Q fs → (w : W) × S w fs) where
  pub plain_needed : (P : Msg → Type 0) (A : Type 0) (fs : List (Option Msg)) → Field P A Q fs → (w : W) × Field P A (S w) fs
  plain_needed P A [] q = absurd q
  plain_needed P A (None ∷ fs) q = let r = f fs q.1 in (r.0, (q.0, r.1))
  plain_needed P A (Some m ∷ fs) q = let r = f fs q.1 in (r.0, (q.0, r.1))

  pub given_needed : {V : Type 0} (reads : Msg → V → Type 0) (A : Type 0) (v : V) (fs : List (Option Msg)) → Field (λ m. reads m v) A Q fs
      → (u : Option V × W) × Field (λ m. IsGiven (reads m) u.0) (Absent (Some (given None)) (given u.0)) (S u.1) fs
  given_needed reads A v [] q = absurd q
  given_needed reads A v (None ∷ fs) q = let r = f fs q.1 in ((None, r.0), (refl, r.1))
  given_needed reads A v (Some m ∷ fs) q = let r = f fs q.1 in ((Some v, r.0), (q.0, r.1))

-- no more fields
pub none_needed : (fs : List (Option Msg)) → NoField fs → (w : Unit {0}) × NoField fs
none_needed fs q = (tt, q)
