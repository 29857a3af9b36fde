-- What stays of what a read depends on.
use Rattle.std.proofs.Common.{◌≡◌, ◌∙◌, ap, subst, sym, ℕ, max, Bool, List, Option}
use Rattle.rmp_wire.specs.declared.source.Source.{Ghosts}
use Rattle.rmp_wire.specs.Msg.{Msgs}
use Rattle.rmp_decode.specs.Refusing.{Setting, Refusals, setting_of, element_setting, inside, RefusedIn, ElementRefused}
use Rattle.rmp_decode.specs.Seq.{Opens, Run, inner_of}
use Rattle.rmp_decode.specs.State.{faults_of}
use Rattle.rmp_decode.specs.declared.deserializer.Deserializer.{Deserializer}
use Rattle.rmp_decode.specs.declared.access.seq.SeqAccess.{SeqAccess}
use Rattle.rmp_decode.specs.declared.error.Error.{Error}

made : Bool → Bool → Bool → ℕ → Setting
made human lends strict room = record { human = human; lends = lends; strict = strict; room = room }

-- readers with the same settings
pub setting_same : {R C : Type 0} (human : Bool) (lends : Bool) (d f : Deserializer R C) (a b : ℕ) → d.strict ≡ f.strict → a ≡ b
    → inside (setting_of human lends d) a ≡ inside (setting_of human lends f) b
unfolding made
setting_same human lends d f a b q r = ap (λ z. made human lends z a) q ∙ ap (λ z. made human lends f.strict z) r

-- how an element is refused after others
pub element_after : {R C : Type 0} (g : Ghosts R) (human : Bool) (lends : Bool) (start mid : SeqAccess R C) (ms : Msgs) → Run g start mid ms
    → (F : (Option (List ℕ) → Error → Type 0) → Type 0) (P : Setting → Refusals) (now : SeqAccess R C)
    → F (ElementRefused g human lends P mid now)
    → F (RefusedIn start.bytes (P (element_setting human lends start)) (faults_of g start.de.now) (faults_of g now.de.now))
element_after g human lends start mid ms r F P now w =
    let z = faults_of g now.de.now in
    let s = setting_same human lends mid.de.now start.de.now (inner_of mid) (inner_of start) r.stays.strict (ap (max 1) r.inner) in
    let w1 = subst (λ y. F (RefusedIn y (P (element_setting human lends mid)) (faults_of g mid.de.now) z)) r.bytes_same w in
    let w2 = subst (λ y. F (RefusedIn start.bytes (P y) (faults_of g mid.de.now) z)) s w1 in
    subst (λ y. F (RefusedIn start.bytes (P (element_setting human lends start)) y z)) r.faults_same w2

-- what is refused after the head that was taken
pub after_opened : {R C : Type 0} (g : Ghosts R) (human : Bool) (lends : Bool) (old : Deserializer R C) (start now : SeqAccess R C) → Opens g old start
    → (after : ℕ) → after ≡ faults_of g now.de.now → (F : Setting → ℕ → ℕ → Type 0)
    → F (element_setting human lends start) (faults_of g start.de.now) (faults_of g now.de.now)
    → F (inside (setting_of human lends old) (inner_of start)) (faults_of g old) after
after_opened g human lends old start now o after q F h =
    let s = setting_same human lends start.de.now old (inner_of start) (inner_of start) o.stays.strict (λ i. inner_of start) in
    let h1 = subst (λ y. F y (faults_of g start.de.now) (faults_of g now.de.now)) s h in
    let h2 = subst (λ y. F (inside (setting_of human lends old) (inner_of start)) y (faults_of g now.de.now)) o.faults_same h1 in
    subst (λ y. F (inside (setting_of human lends old) (inner_of start)) (faults_of g old) y) (sym q) h2
