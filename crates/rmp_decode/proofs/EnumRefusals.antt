-- Where an enum is refused, by where its name or its content is.
use Rattle.std.proofs.Common.{◌≡◌, subst, refl, inl, inr, ℕ, max, List, Bool, true, false, Result, Err}
use Rattle.rmp_wire.specs.declared.source.Source.{Ghosts}
use Rattle.rmp_wire.specs.Canonical.{SpellsAs}
use Rattle.rmp_decode.specs.EnumRefusing.{Choice, choice_at, RefusesEnum}
use Rattle.rmp_decode.specs.MapRefusing.{PartRefused}
use Rattle.rmp_decode.specs.Refusing.{setting_of, inside}
use Rattle.rmp_decode.specs.State.{left, faults_of}
use Rattle.rmp_decode.specs.Variants.{TakesNameOf, OpensVariant, FailsToOpenVariant}
use Rattle.rmp_decode.specs.declared.deserializer.Deserializer.{Deserializer}
use Rattle.rmp_decode.specs.declared.access.variant.Variant.{Variant}
use Rattle.rmp_decode.specs.declared.error.Error.{Error}
use Rattle.rmp_decode.specs.declared.error.Error.TheVariants.{Syntax}
use Rattle.rmp_decode.specs.declared.text.Text.TheVariants.{InvalidType}
use Rattle.rmp_decode.proofs.Settings.{setting_same}

module _ {R C : Type 0} (g : Ghosts R) (human : Bool) (lends : Bool) (names : List (List ℕ)) (cs : List Choice) (old new last : Deserializer R C)
    (e : Error)
    (same : last ≡ new) where
  -- how a reader refuses an enum that was in one state and is in another then
  abbrev Refused : Deserializer R C → Type 0
  Refused d = old.failed ≡ false → RefusesEnum names cs (setting_of human lends old) (faults_of g old) (faults_of g d) (left g old) e

  -- there was no variant
  pub enum_unopened : FailsToOpenVariant g names old new e → Refused last
  unfolding RefusesEnum
  enum_unopened f = rw same (λ o. inl (f.named o human lends))

  module _ (n : ℕ) (v : Variant R C) (o : OpensVariant g names n old v) where
    alone_wrong : v.bare ≡ true → (choice_at cs n).alone e → Refused new
    unfolding RefusesEnum
    alone_wrong b h =
        let r = subst (λ z. TakesNameOf g names n z old v.de.now v.inner) b o.name in
        λ _. inr (inl (
          n,
          record {
            bytes = r.bytes;
            rest = left g v.de.now;
            tree = r.tree;
            takes = r.takes;
            spelled = r.spelled;
            fits = r.fits;
            holds = r.value;
            refused = h;
          },
        ))

    after_name : v.bare ≡ false → PartRefused g human lends ((choice_at cs n).content) (max 1 v.inner) v.de.now new e → Refused new
    unfolding RefusesEnum
    after_name b h =
        let t = subst (λ z. TakesNameOf g names n z old v.de.now v.inner) b o.name in
        let P = (choice_at cs n).content in
        let s = setting_same human lends v.de.now old (max 1 v.inner) (max 1 v.inner) o.stays.strict refl in
        let i = inside (setting_of human lends old) (max 1 v.inner) in
        let w1 = subst (λ z. P z (faults_of g v.de.now) (faults_of g new) (left g v.de.now) e) s h in
        let w2 = subst (λ z. P i z (faults_of g new) (left g v.de.now) e) o.faults_same w1 in
        λ _. inr (inr (record {
          inner = max 1 v.inner;
          many = 1;
          bytes = t.head.bytes;
          rest = left g t.between;
          takes = t.head.takes;
          is_head = t.head.is_head;
          room_of = t.room;
          refused = (
            refl,
            (
              n,
              record {
                bytes = t.key.bytes;
                rest = left g v.de.now;
                tree = t.key.tree;
                takes = t.key.takes;
                spelled = subst (λ z. SpellsAs z t.key.bytes t.key.tree) t.stays.strict t.key.spelled;
                fits = t.key.fits;
                holds = t.key.value;
                refused = w2;
              },
            ),
          );
        }))

    by_bare : (v.bare ≡ true → Refused new) → (v.bare ≡ false → Refused new) → Refused last
    by_bare f h = rw same (go v.bare f h)
      where
        go : (b : Bool) → (b ≡ true → Refused new) → (b ≡ false → Refused new) → Refused new
        go true f h = f refl
        go false f h = h refl

    -- the variant at the place has no content, and such was there
    pub unit_wrong : {A : Type 0} → (v.bare ≡ true → ⊥ × A)
        → (v.bare ≡ false → PartRefused g human lends ((choice_at cs n).content) (max 1 v.inner) v.de.now new e) → Refused last
    unit_wrong f h = by_bare (λ b. absurd (f b).0) (λ b. after_name b (h b))

    -- it has content, which isn't there or is refused
    pub content_wrong : {V A : Type 0} → (e ≡ Syntax InvalidType → (choice_at cs n).alone e)
        → (v.bare ≡ true → (◌≡◌ {A = Result V Error} (Err e) (Err (Syntax InvalidType))) × A)
        → (v.bare ≡ false → PartRefused g human lends ((choice_at cs n).content) (max 1 v.inner) v.de.now new e) → Refused last
    content_wrong wanted f h = by_bare (λ b. alone_wrong b (wanted (let p = (f b).0 in cc))) (λ b. after_name b (h b))
