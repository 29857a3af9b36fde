use Rattle.rmp_decode.proofs.Defaults.{fields_given, plain_field, given_field, fields_needed, plain_needed, given_needed, none_needed, given}
use Rattle.rmp_decode.proofs.EnumRefusals.{enum_unopened, unit_wrong, content_wrong}
use Rattle.rmp_decode.proofs.Variants.{variant_ok, variant_err, variant_unopened, readable}
use Rattle.rmp_decode.specs.Law.{Lawful}
use Rattle.rmp_decode.specs.Variants.{FailsToOpenVariant, Content}
use Rattle.rmp_decode.specs.declared.deserializer.Deserializer.{Deserializer}
use Rattle.rmp_decode.specs.declared.error.Error.{Error}
use Rattle.rmp_wire.specs.Msg.{Msg}
use Rattle.rmp_wire.specs.declared.source.Source.{Ghosts}
use Rattle.std.proofs.Common.{◌≡◌, refl, arith, rules, Result, List, ℕ, Option, None, Some}
use Rattle.std.proofs.lemmas.Int.{to_z-of_z}
use Rattle.std.specs.Int.{w16, w32}
use Rattle.std.specs.Prelude.{◌∷◌, [], codes, true, negsuc}
use Rattle.test_enums.specs.declared.ports.TheConstants.{BERTHS}
use Rattle.test_enums.proofs.ports.derived.EntryDeserialize.deserialize.Goals as goal

-- the reader that a law speaks of
abbrev left_by : {R C V : Type 0} {g : Ghosts R} {reads : Msg → V → Type 0} {old last : Deserializer R C} {result : Result V Error}
    → Lawful g reads old last result → Deserializer R C
left_by {R} {C} {V} {g} {reads} {old} {last} {result} l = last

-- the reader that is left where no variant opens
abbrev unopened_by : {R C : Type 0} {g : Ghosts R} {names : List (List ℕ)} {old new : Deserializer R C} {e : Error}
    → FailsToOpenVariant g names old new e → Deserializer R C
unopened_by {R} {C} {g} {names} {old} {new} {e} f = new

-- content that is read in one way, in another
content_as : (P Q : Msg → Type 0) → ((m : Msg) → P m → Q m) → (c : Option Msg) → Content P c → Content Q c
content_as P Q f None h = h
content_as P Q f (Some m) h = f m h

pub returns-in-Ok-unit_variant-clause-law : goal.returns-in-Ok-unit_variant-clause-law
returns-in-Ok-unit_variant-clause-law g c =
    variant_ok _ _ _ _ _ _ (search rules) _ 0 _ _ (λ k h. (refl, h))
    (c.in-Ok-unit_variant.ensures.ok _ 0 _ (rw c.in-Ok-eq0-default.field-0-0-test at c.in-Ok-eq0-default.ensures.opened))

pub returns-in-Err-unit_variant-clause-law : goal.returns-in-Err-unit_variant-clause-law
returns-in-Err-unit_variant-clause-law g c =
    variant_err _ _ _ _ _ _ (search rules) _ 0 _ (λ v k h. h.1)
    (c.in-Err-unit_variant.ensures.err _ 0 _ (rw c.in-Ok-eq0-default.field-0-0-test at c.in-Ok-eq0-default.ensures.opened))

pub returns-in-Err-unit_variant-clause-refused : goal.returns-in-Err-unit_variant-clause-refused
returns-in-Err-unit_variant-clause-refused g c =
    unit_wrong g.R.Source g.C.SerializerConfig.human _ _ _ _
    (left_by (c.in-Err-unit_variant.ensures.err _ 0 _ (rw c.in-Ok-eq0-default.field-0-0-test at c.in-Ok-eq0-default.ensures.opened)))
    (left_by (returns-in-Err-unit_variant-clause-law g c)) _ (search rules) 0 _
    (rw c.in-Ok-eq0-default.field-0-0-test at c.in-Ok-eq0-default.ensures.opened)
    c.in-Err-unit_variant.ensures.bare c.in-Err-unit_variant.ensures.exact

pub returns-in-Ok-fields_variant-clause-law : goal.returns-in-Ok-fields_variant-clause-law
returns-in-Ok-fields_variant-clause-law g c =
    rw (to_z-of_z w32 c.unwrap_or-depth.result (search rules))
    (variant_ok _ _ _ _ _ _ (search rules) _ 1 _ _ (λ k h. (
      _,
      _,
      _,
      _,
      refl,
      content_as _ _ (λ m r. fields_given (codes "name" ∷ (codes "berths" ∷ (codes "depth" ∷ (codes "notes" ∷ [])))) _ _
          (plain_field _ _ (given_field _ _ (given_field _ _
          (given_field _ _ (λ fs h. h) _ (λ v. v.items ≡ []) _ _ _ (search rules) c.unwrap_or-notes.ensures) _ (λ v. v ≡ negsuc 0) _ _ _ refl
          c.unwrap_or-depth.ensures) _ (λ v. v ≡ BERTHS) _ _ _ refl c.unwrap_or-berths.ensures) _ _) m r) k h,
    ))
    (c.in-Ok-fields_variant.ensures.ok _ 1 _ (rw c.in-Ok-eq1-default.field-0-0-test at c.in-Ok-eq1-default.ensures.opened)))

pub returns-in-Err-fields_variant-clause-law : goal.returns-in-Err-fields_variant-clause-law
returns-in-Err-fields_variant-clause-law g c =
    variant_err _ _ _ _ _ _ (search rules) _ 1 _ (λ v k h. content_as _ _
    (λ m r. let x = fields_needed (codes "name" ∷ (codes "berths" ∷ (codes "depth" ∷ (codes "notes" ∷ [])))) _ _
    (plain_needed _ _ (given_needed _ _ (given_needed _ _ (given_needed _ _ none_needed _ _ h.3) _ _ h.2) _ _ h.1) _ _) m r
    in ((h.0, given x.0.0, given x.0.1.0, given x.0.1.1.0, tt), x.1)) k h.5)
    (c.in-Err-fields_variant.ensures.err _ 1 _ (rw c.in-Ok-eq1-default.field-0-0-test at c.in-Ok-eq1-default.ensures.opened))

pub returns-in-Err-fields_variant-clause-refused : goal.returns-in-Err-fields_variant-clause-refused
returns-in-Err-fields_variant-clause-refused g c =
    content_wrong g.R.Source g.C.SerializerConfig.human _ _ _ _
    (left_by (c.in-Err-fields_variant.ensures.err _ 1 _ (rw c.in-Ok-eq1-default.field-0-0-test at c.in-Ok-eq1-default.ensures.opened)))
    (left_by (returns-in-Err-fields_variant-clause-law g c)) _ (search rules) 1 _
    (rw c.in-Ok-eq1-default.field-0-0-test at c.in-Ok-eq1-default.ensures.opened)
    (λ q. q) c.in-Err-fields_variant.ensures.bare c.in-Err-fields_variant.ensures.refused

pub returns-in-Ok-newtype_variant-clause-law : goal.returns-in-Ok-newtype_variant-clause-law
returns-in-Ok-newtype_variant-clause-law g c =
    variant_ok _ _ _ _ _ _ (search rules) _ 2 _ _ (λ k h. (_, _, refl, h))
    (c.in-Ok-newtype_variant.ensures.ok _ 2 _ (rw c.in-Ok-eq2-default.field-0-0-test at c.in-Ok-eq2-default.ensures.opened))

pub returns-in-Err-newtype_variant-clause-law : goal.returns-in-Err-newtype_variant-clause-law
returns-in-Err-newtype_variant-clause-law g c =
    variant_err _ _ _ _ _ _ (search rules) _ 2 _ (λ v k h. readable _ k (h.0, h.1) h.3)
    (c.in-Err-newtype_variant.ensures.err _ 2 _ (rw c.in-Ok-eq2-default.field-0-0-test at c.in-Ok-eq2-default.ensures.opened))

pub returns-in-Err-newtype_variant-clause-refused : goal.returns-in-Err-newtype_variant-clause-refused
returns-in-Err-newtype_variant-clause-refused g c =
    content_wrong g.R.Source g.C.SerializerConfig.human _ _ _ _
    (left_by (c.in-Err-newtype_variant.ensures.err _ 2 _ (rw c.in-Ok-eq2-default.field-0-0-test at c.in-Ok-eq2-default.ensures.opened)))
    (left_by (returns-in-Err-newtype_variant-clause-law g c)) _ (search rules) 2 _
    (rw c.in-Ok-eq2-default.field-0-0-test at c.in-Ok-eq2-default.ensures.opened)
    (λ q. q) c.in-Err-newtype_variant.ensures.bare c.in-Err-newtype_variant.ensures.refused

pub returns-in-Ok-fields_variant-2-clause-law : goal.returns-in-Ok-fields_variant-2-clause-law
returns-in-Ok-fields_variant-2-clause-law g c =
    variant_ok _ _ _ _ _ _ (search rules) _ 3 _ _ (λ k h. (_, _, refl, h))
    (c.in-Ok-fields_variant-2.ensures.ok _ 3 _ (rw c.in-Ok-eq3-default.field-0-0-test at c.in-Ok-eq3-default.ensures.opened))

pub returns-in-Err-fields_variant-2-clause-law : goal.returns-in-Err-fields_variant-2-clause-law
returns-in-Err-fields_variant-2-clause-law g c =
    variant_err _ _ _ _ _ _ (search rules) _ 3 _ (λ v k h. readable _ k (h.0, (h.1, tt)) h.3)
    (c.in-Err-fields_variant-2.ensures.err _ 3 _ (rw c.in-Ok-eq3-default.field-0-0-test at c.in-Ok-eq3-default.ensures.opened))

pub returns-in-Err-fields_variant-2-clause-refused : goal.returns-in-Err-fields_variant-2-clause-refused
returns-in-Err-fields_variant-2-clause-refused g c =
    content_wrong g.R.Source g.C.SerializerConfig.human _ _ _ _
    (left_by (c.in-Err-fields_variant-2.ensures.err _ 3 _ (rw c.in-Ok-eq3-default.field-0-0-test at c.in-Ok-eq3-default.ensures.opened)))
    (left_by (returns-in-Err-fields_variant-2-clause-law g c)) _ (search rules) 3 _
    (rw c.in-Ok-eq3-default.field-0-0-test at c.in-Ok-eq3-default.ensures.opened)
    (λ q. q) c.in-Err-fields_variant-2.ensures.bare c.in-Err-fields_variant-2.ensures.refused

pub returns-in-Ok-newtype_variant-2-clause-law : goal.returns-in-Ok-newtype_variant-2-clause-law
returns-in-Ok-newtype_variant-2-clause-law g c =
    rw (to_z-of_z w16 c.in-Ok-newtype_variant-2.parts.1 (search rules)) (variant_ok _ _ _ _ _ _ (search rules) _ 4 _ _ (λ k h. (_, _, refl, h))
    (c.in-Ok-newtype_variant-2.ensures.ok _ 4 _ (rw c.in-Ok-eq4-default.field-0-0-test at c.in-Ok-eq4-default.ensures.opened)))

pub returns-in-Err-newtype_variant-2-clause-law : goal.returns-in-Err-newtype_variant-2-clause-law
returns-in-Err-newtype_variant-2-clause-law g c =
    variant_err _ _ _ _ _ _ (search rules) _ 4 _ (λ v k h. readable _ k (h.0, h.1) h.3)
    (c.in-Err-newtype_variant-2.ensures.err _ 4 _ (rw c.in-Ok-eq4-default.field-0-0-test at c.in-Ok-eq4-default.ensures.opened))

pub returns-in-Err-newtype_variant-2-clause-refused : goal.returns-in-Err-newtype_variant-2-clause-refused
returns-in-Err-newtype_variant-2-clause-refused g c =
    content_wrong g.R.Source g.C.SerializerConfig.human _ _ _ _
    (left_by (c.in-Err-newtype_variant-2.ensures.err _ 4 _ (rw c.in-Ok-eq4-default.field-0-0-test at c.in-Ok-eq4-default.ensures.opened)))
    (left_by (returns-in-Err-newtype_variant-2-clause-law g c)) _ (search rules) 4 _
    (rw c.in-Ok-eq4-default.field-0-0-test at c.in-Ok-eq4-default.ensures.opened)
    (λ q. q) c.in-Err-newtype_variant-2.ensures.bare c.in-Err-newtype_variant-2.ensures.refused

pub returns-in-Ok-newtype_variant-3-clause-law : goal.returns-in-Ok-newtype_variant-3-clause-law
returns-in-Ok-newtype_variant-3-clause-law g c =
    variant_ok _ _ _ _ _ _ (search rules) _ 5 _ _ (λ k h. (_, _, refl, h))
    (c.in-Ok-newtype_variant-3.ensures.ok _ 5 _ (rw c.in-Ok-eq5-default.field-0-0-test at c.in-Ok-eq5-default.ensures.opened))

pub returns-in-Err-newtype_variant-3-clause-law : goal.returns-in-Err-newtype_variant-3-clause-law
returns-in-Err-newtype_variant-3-clause-law g c =
    variant_err _ _ _ _ _ _ (search rules) _ 5 _ (λ v k h. readable _ k (h.0, h.1) h.3)
    (c.in-Err-newtype_variant-3.ensures.err _ 5 _ (rw c.in-Ok-eq5-default.field-0-0-test at c.in-Ok-eq5-default.ensures.opened))

pub returns-in-Err-newtype_variant-3-clause-refused : goal.returns-in-Err-newtype_variant-3-clause-refused
returns-in-Err-newtype_variant-3-clause-refused g c =
    content_wrong g.R.Source g.C.SerializerConfig.human _ _ _ _
    (left_by (c.in-Err-newtype_variant-3.ensures.err _ 5 _ (rw c.in-Ok-eq5-default.field-0-0-test at c.in-Ok-eq5-default.ensures.opened)))
    (left_by (returns-in-Err-newtype_variant-3-clause-law g c)) _ (search rules) 5 _
    (rw c.in-Ok-eq5-default.field-0-0-test at c.in-Ok-eq5-default.ensures.opened)
    (λ q. q) c.in-Err-newtype_variant-3.ensures.bare c.in-Err-newtype_variant-3.ensures.refused

pub returns-in-Ok-fields_variant-3-clause-law : goal.returns-in-Ok-fields_variant-3-clause-law
returns-in-Ok-fields_variant-3-clause-law g c =
    let k = c.in-Ok in
    let at : k.field-0-0 ≡ 6 = omega (arith, k.field-0-0-test, k.ensures.below) in
    variant_ok _ _ _ _ _ _ (search rules) _ 6 _ _ (λ k h. (
      _,
      _,
      _,
      refl,
      content_as _ _ (λ m r. fields_given (codes "locked" ∷ (codes "width" ∷ (codes "berths" ∷ []))) _ _
          (given_field _ _ (plain_field _ _ (given_field _ _ (λ fs h. h) _ (λ v. v ≡ 0) _ _ _ refl c.unwrap_or-berths-in-Ok-fields_variant-3.ensures) _ _) _
          (λ v. v ≡ true) _ _ _ refl c.unwrap_or-locked.ensures) m r) k h,
    ))
    (c.in-Ok-fields_variant-3.ensures.ok _ 6 _ (rw at at k.ensures.opened))

pub returns-in-Err-fields_variant-3-clause-law : goal.returns-in-Err-fields_variant-3-clause-law
returns-in-Err-fields_variant-3-clause-law g c =
    let k = c.in-Ok in
    let at : k.field-0-0 ≡ 6 = omega (arith, k.field-0-0-test, k.ensures.below) in
    variant_err _ _ _ _ _ _ (search rules) _ 6 _ (λ v k h. content_as _ _
    (λ m r. let x = fields_needed (codes "locked" ∷ (codes "width" ∷ (codes "berths" ∷ []))) _ _
    (given_needed _ _ (plain_needed _ _ (given_needed _ _ none_needed _ _ h.2) _ _) _ _ h.0) m r
    in ((given x.0.0, (h.1, (given x.0.1.0, tt))), x.1)) k h.4)
    (c.in-Err-fields_variant-3.ensures.err _ 6 _ (rw at at k.ensures.opened))

pub returns-in-Err-fields_variant-3-clause-refused : goal.returns-in-Err-fields_variant-3-clause-refused
returns-in-Err-fields_variant-3-clause-refused g c =
    let k = c.in-Ok in
    let at : k.field-0-0 ≡ 6 = omega (arith, k.field-0-0-test, k.ensures.below) in
    content_wrong g.R.Source g.C.SerializerConfig.human _ _ _ _ (left_by (c.in-Err-fields_variant-3.ensures.err _ 6 _ (rw at at k.ensures.opened)))
    (left_by (returns-in-Err-fields_variant-3-clause-law g c)) _ (search rules) 6 _ (rw at at k.ensures.opened)
    (λ q. q) c.in-Err-fields_variant-3.ensures.bare c.in-Err-fields_variant-3.ensures.refused

pub returns-in-Err-clause-law : goal.returns-in-Err-clause-law
returns-in-Err-clause-law g c =
    variant_unopened _ _ _ _ _ _ (search rules) _ (rw c.in-Err.is at c.deserialize_enum.follows.holds-at-none)

pub returns-in-Err-clause-refused : goal.returns-in-Err-clause-refused
returns-in-Err-clause-refused g c =
    let f = rw c.in-Err.is at c.deserialize_enum.follows.holds-at-none in
    enum_unopened g.R.Source g.C.SerializerConfig.human _ _ _ _ (unopened_by f) (left_by (returns-in-Err-clause-law g c)) _ (search rules) f
