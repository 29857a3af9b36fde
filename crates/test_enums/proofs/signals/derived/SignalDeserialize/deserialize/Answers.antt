use Rattle.rmp_decode.proofs.EnumRefusals.{enum_unopened, unit_wrong, content_wrong}
use Rattle.rmp_decode.proofs.Variants.{variant_ok, variant_err, variant_unopened, readable}
use Rattle.rmp_decode.specs.Law.{Lawful}
use Rattle.rmp_decode.specs.Variants.{FailsToOpenVariant}
use Rattle.rmp_decode.specs.declared.deserializer.Deserializer.{Deserializer}
use Rattle.rmp_decode.specs.declared.error.Error.{Error}
use Rattle.rmp_wire.specs.Msg.{Msg}
use Rattle.rmp_wire.specs.declared.source.Source.{Ghosts}
use Rattle.std.proofs.Common.{◌≡◌, refl, arith, rules, Result, List, ℕ}
use Rattle.std.proofs.lemmas.Int.{to_z-of_z}
use Rattle.std.specs.Int.{w16, w32, w64, w128}
use Rattle.test_enums.proofs.signals.derived.SignalDeserialize.deserialize.Goals as goal

-- the reader that a law speaks of
abbrev left_by : {R C V : Type 0} {g : Ghosts R} {reads : Msg → V → Type 0} {old last : Deserializer R C} {result : Result V Error}
    → Lawful g reads old last result → Deserializer R C
left_by {R} {C} {V} {g} {reads} {old} {last} {result} l = last

-- the reader that is left where no variant opens
abbrev unopened_by : {R C : Type 0} {g : Ghosts R} {names : List (List ℕ)} {old new : Deserializer R C} {e : Error}
    → FailsToOpenVariant g names old new e → Deserializer R C
unopened_by {R} {C} {g} {names} {old} {new} {e} f = new

pub returns-in-Ok-unit_variant-clause-law : goal.returns-in-Ok-unit_variant-clause-law
returns-in-Ok-unit_variant-clause-law g c =
    variant_ok _ _ _ _ _ _ (search rules) _ 0 _ _ (λ k h. (refl, h))
    (c.in-Ok-unit_variant.ensures.ok _ 0 _ (rw c.in-Ok-eq0-default.field-0-0-test at c.in-Ok-eq0-default.ensures.opened))

pub returns-in-Err-unit_variant-clause-law : goal.returns-in-Err-unit_variant-clause-law
returns-in-Err-unit_variant-clause-law g c =
    variant_err _ _ _ _ _ _ (search rules) _ 0 _ (λ v k h. h.1)
    (c.in-Err-unit_variant.ensures.err _ 0 _ (rw c.in-Ok-eq0-default.field-0-0-test at c.in-Ok-eq0-default.ensures.opened))

pub returns-in-Err-unit_variant-clause-refused : goal.returns-in-Err-unit_variant-clause-refused
returns-in-Err-unit_variant-clause-refused g c =
    unit_wrong g.R.Source g.C.SerializerConfig.human _ _ _ _
    (left_by (c.in-Err-unit_variant.ensures.err _ 0 _ (rw c.in-Ok-eq0-default.field-0-0-test at c.in-Ok-eq0-default.ensures.opened)))
    (left_by (returns-in-Err-unit_variant-clause-law g c)) _ (search rules) 0 _
    (rw c.in-Ok-eq0-default.field-0-0-test at c.in-Ok-eq0-default.ensures.opened)
    c.in-Err-unit_variant.ensures.bare c.in-Err-unit_variant.ensures.exact

pub returns-in-Ok-newtype_variant-clause-law : goal.returns-in-Ok-newtype_variant-clause-law
returns-in-Ok-newtype_variant-clause-law g c =
    variant_ok _ _ _ _ _ _ (search rules) _ 1 _ _ (λ k h. (_, refl, h))
    (c.in-Ok-newtype_variant.ensures.ok _ 1 _ (rw c.in-Ok-eq1-default.field-0-0-test at c.in-Ok-eq1-default.ensures.opened))

pub returns-in-Err-newtype_variant-clause-law : goal.returns-in-Err-newtype_variant-clause-law
returns-in-Err-newtype_variant-clause-law g c =
    variant_err _ _ _ _ _ _ (search rules) _ 1 _ (λ v k h. readable _ k h.0 h.2)
    (c.in-Err-newtype_variant.ensures.err _ 1 _ (rw c.in-Ok-eq1-default.field-0-0-test at c.in-Ok-eq1-default.ensures.opened))

pub returns-in-Err-newtype_variant-clause-refused : goal.returns-in-Err-newtype_variant-clause-refused
returns-in-Err-newtype_variant-clause-refused g c =
    content_wrong g.R.Source g.C.SerializerConfig.human _ _ _ _
    (left_by (c.in-Err-newtype_variant.ensures.err _ 1 _ (rw c.in-Ok-eq1-default.field-0-0-test at c.in-Ok-eq1-default.ensures.opened)))
    (left_by (returns-in-Err-newtype_variant-clause-law g c)) _ (search rules) 1 _
    (rw c.in-Ok-eq1-default.field-0-0-test at c.in-Ok-eq1-default.ensures.opened)
    (λ q. q) c.in-Err-newtype_variant.ensures.bare c.in-Err-newtype_variant.ensures.refused

pub returns-in-Ok-newtype_variant-2-clause-law : goal.returns-in-Ok-newtype_variant-2-clause-law
returns-in-Ok-newtype_variant-2-clause-law g c =
    rw (to_z-of_z w32 c.in-Ok-newtype_variant-2.parts.1 (search rules))
    (rw (to_z-of_z w32 c.in-Ok-newtype_variant-2.parts.0 (search rules)) (variant_ok _ _ _ _ _ _ (search rules) _ 2 _ _ (λ k h. (_, _, refl, h))
    (c.in-Ok-newtype_variant-2.ensures.ok _ 2 _ (rw c.in-Ok-eq2-default.field-0-0-test at c.in-Ok-eq2-default.ensures.opened))))

pub returns-in-Err-newtype_variant-2-clause-law : goal.returns-in-Err-newtype_variant-2-clause-law
returns-in-Err-newtype_variant-2-clause-law g c =
    variant_err _ _ _ _ _ _ (search rules) _ 2 _ (λ v k h. readable _ k (h.0, h.1) h.3)
    (c.in-Err-newtype_variant-2.ensures.err _ 2 _ (rw c.in-Ok-eq2-default.field-0-0-test at c.in-Ok-eq2-default.ensures.opened))

pub returns-in-Err-newtype_variant-2-clause-refused : goal.returns-in-Err-newtype_variant-2-clause-refused
returns-in-Err-newtype_variant-2-clause-refused g c =
    content_wrong g.R.Source g.C.SerializerConfig.human _ _ _ _
    (left_by (c.in-Err-newtype_variant-2.ensures.err _ 2 _ (rw c.in-Ok-eq2-default.field-0-0-test at c.in-Ok-eq2-default.ensures.opened)))
    (left_by (returns-in-Err-newtype_variant-2-clause-law g c)) _ (search rules) 2 _
    (rw c.in-Ok-eq2-default.field-0-0-test at c.in-Ok-eq2-default.ensures.opened)
    (λ q. q) c.in-Err-newtype_variant-2.ensures.bare c.in-Err-newtype_variant-2.ensures.refused

pub returns-in-Ok-fields_variant-clause-law : goal.returns-in-Ok-fields_variant-clause-law
returns-in-Ok-fields_variant-clause-law g c =
    variant_ok _ _ _ _ _ _ (search rules) _ 3 _ _ (λ k h. (_, _, refl, h))
    (c.in-Ok-fields_variant.ensures.ok _ 3 _ (rw c.in-Ok-eq3-default.field-0-0-test at c.in-Ok-eq3-default.ensures.opened))

pub returns-in-Err-fields_variant-clause-law : goal.returns-in-Err-fields_variant-clause-law
returns-in-Err-fields_variant-clause-law g c =
    variant_err _ _ _ _ _ _ (search rules) _ 3 _ (λ v k h. readable _ k (h.0, (h.1, tt)) h.3)
    (c.in-Err-fields_variant.ensures.err _ 3 _ (rw c.in-Ok-eq3-default.field-0-0-test at c.in-Ok-eq3-default.ensures.opened))

pub returns-in-Err-fields_variant-clause-refused : goal.returns-in-Err-fields_variant-clause-refused
returns-in-Err-fields_variant-clause-refused g c =
    content_wrong g.R.Source g.C.SerializerConfig.human _ _ _ _
    (left_by (c.in-Err-fields_variant.ensures.err _ 3 _ (rw c.in-Ok-eq3-default.field-0-0-test at c.in-Ok-eq3-default.ensures.opened)))
    (left_by (returns-in-Err-fields_variant-clause-law g c)) _ (search rules) 3 _
    (rw c.in-Ok-eq3-default.field-0-0-test at c.in-Ok-eq3-default.ensures.opened)
    (λ q. q) c.in-Err-fields_variant.ensures.bare c.in-Err-fields_variant.ensures.refused

pub returns-in-Ok-unit_variant-2-clause-law : goal.returns-in-Ok-unit_variant-2-clause-law
returns-in-Ok-unit_variant-2-clause-law g c =
    variant_ok _ _ _ _ _ _ (search rules) _ 4 _ _ (λ k h. (refl, h))
    (c.in-Ok-unit_variant-2.ensures.ok _ 4 _ (rw c.in-Ok-eq4-default.field-0-0-test at c.in-Ok-eq4-default.ensures.opened))

pub returns-in-Err-unit_variant-2-clause-law : goal.returns-in-Err-unit_variant-2-clause-law
returns-in-Err-unit_variant-2-clause-law g c =
    variant_err _ _ _ _ _ _ (search rules) _ 4 _ (λ v k h. h.1)
    (c.in-Err-unit_variant-2.ensures.err _ 4 _ (rw c.in-Ok-eq4-default.field-0-0-test at c.in-Ok-eq4-default.ensures.opened))

pub returns-in-Err-unit_variant-2-clause-refused : goal.returns-in-Err-unit_variant-2-clause-refused
returns-in-Err-unit_variant-2-clause-refused g c =
    unit_wrong g.R.Source g.C.SerializerConfig.human _ _ _ _
    (left_by (c.in-Err-unit_variant-2.ensures.err _ 4 _ (rw c.in-Ok-eq4-default.field-0-0-test at c.in-Ok-eq4-default.ensures.opened)))
    (left_by (returns-in-Err-unit_variant-2-clause-law g c)) _ (search rules) 4 _
    (rw c.in-Ok-eq4-default.field-0-0-test at c.in-Ok-eq4-default.ensures.opened)
    c.in-Err-unit_variant-2.ensures.bare c.in-Err-unit_variant-2.ensures.exact

pub returns-in-Ok-newtype_variant-3-clause-law : goal.returns-in-Ok-newtype_variant-3-clause-law
returns-in-Ok-newtype_variant-3-clause-law g c =
    variant_ok _ _ _ _ _ _ (search rules) _ 5 _ _ (λ k h. (_, refl, h))
    (c.in-Ok-newtype_variant-3.ensures.ok _ 5 _ (rw c.in-Ok-eq5-default.field-0-0-test at c.in-Ok-eq5-default.ensures.opened))

pub returns-in-Err-newtype_variant-3-clause-law : goal.returns-in-Err-newtype_variant-3-clause-law
returns-in-Err-newtype_variant-3-clause-law g c =
    variant_err _ _ _ _ _ _ (search rules) _ 5 _ (λ v k h. readable _ k h.0 h.2)
    (c.in-Err-newtype_variant-3.ensures.err _ 5 _ (rw c.in-Ok-eq5-default.field-0-0-test at c.in-Ok-eq5-default.ensures.opened))

pub returns-in-Err-newtype_variant-3-clause-refused : goal.returns-in-Err-newtype_variant-3-clause-refused
returns-in-Err-newtype_variant-3-clause-refused g c =
    content_wrong g.R.Source g.C.SerializerConfig.human _ _ _ _
    (left_by (c.in-Err-newtype_variant-3.ensures.err _ 5 _ (rw c.in-Ok-eq5-default.field-0-0-test at c.in-Ok-eq5-default.ensures.opened)))
    (left_by (returns-in-Err-newtype_variant-3-clause-law g c)) _ (search rules) 5 _
    (rw c.in-Ok-eq5-default.field-0-0-test at c.in-Ok-eq5-default.ensures.opened)
    (λ q. q) c.in-Err-newtype_variant-3.ensures.bare c.in-Err-newtype_variant-3.ensures.refused

pub returns-in-Ok-newtype_variant-4-clause-law : goal.returns-in-Ok-newtype_variant-4-clause-law
returns-in-Ok-newtype_variant-4-clause-law g c =
    variant_ok _ _ _ _ _ _ (search rules) _ 6 _ _ (λ k h. (_, refl, h))
    (c.in-Ok-newtype_variant-4.ensures.ok _ 6 _ (rw c.in-Ok-eq6-default.field-0-0-test at c.in-Ok-eq6-default.ensures.opened))

pub returns-in-Err-newtype_variant-4-clause-law : goal.returns-in-Err-newtype_variant-4-clause-law
returns-in-Err-newtype_variant-4-clause-law g c =
    variant_err _ _ _ _ _ _ (search rules) _ 6 _ (λ v k h. readable _ k h.0 h.2)
    (c.in-Err-newtype_variant-4.ensures.err _ 6 _ (rw c.in-Ok-eq6-default.field-0-0-test at c.in-Ok-eq6-default.ensures.opened))

pub returns-in-Err-newtype_variant-4-clause-refused : goal.returns-in-Err-newtype_variant-4-clause-refused
returns-in-Err-newtype_variant-4-clause-refused g c =
    content_wrong g.R.Source g.C.SerializerConfig.human _ _ _ _
    (left_by (c.in-Err-newtype_variant-4.ensures.err _ 6 _ (rw c.in-Ok-eq6-default.field-0-0-test at c.in-Ok-eq6-default.ensures.opened)))
    (left_by (returns-in-Err-newtype_variant-4-clause-law g c)) _ (search rules) 6 _
    (rw c.in-Ok-eq6-default.field-0-0-test at c.in-Ok-eq6-default.ensures.opened)
    (λ q. q) c.in-Err-newtype_variant-4.ensures.bare c.in-Err-newtype_variant-4.ensures.refused

pub returns-in-Ok-newtype_variant-5-clause-law : goal.returns-in-Ok-newtype_variant-5-clause-law
returns-in-Ok-newtype_variant-5-clause-law g c =
    variant_ok _ _ _ _ _ _ (search rules) _ 7 _ _ (λ k h. (_, refl, h))
    (c.in-Ok-newtype_variant-5.ensures.ok _ 7 _ (rw c.in-Ok-eq7-default.field-0-0-test at c.in-Ok-eq7-default.ensures.opened))

pub returns-in-Err-newtype_variant-5-clause-law : goal.returns-in-Err-newtype_variant-5-clause-law
returns-in-Err-newtype_variant-5-clause-law g c =
    variant_err _ _ _ _ _ _ (search rules) _ 7 _ (λ v k h. readable _ k h.0 h.2)
    (c.in-Err-newtype_variant-5.ensures.err _ 7 _ (rw c.in-Ok-eq7-default.field-0-0-test at c.in-Ok-eq7-default.ensures.opened))

pub returns-in-Err-newtype_variant-5-clause-refused : goal.returns-in-Err-newtype_variant-5-clause-refused
returns-in-Err-newtype_variant-5-clause-refused g c =
    content_wrong g.R.Source g.C.SerializerConfig.human _ _ _ _
    (left_by (c.in-Err-newtype_variant-5.ensures.err _ 7 _ (rw c.in-Ok-eq7-default.field-0-0-test at c.in-Ok-eq7-default.ensures.opened)))
    (left_by (returns-in-Err-newtype_variant-5-clause-law g c)) _ (search rules) 7 _
    (rw c.in-Ok-eq7-default.field-0-0-test at c.in-Ok-eq7-default.ensures.opened)
    (λ q. q) c.in-Err-newtype_variant-5.ensures.bare c.in-Err-newtype_variant-5.ensures.refused

pub returns-in-Ok-newtype_variant-6-clause-law : goal.returns-in-Ok-newtype_variant-6-clause-law
returns-in-Ok-newtype_variant-6-clause-law g c =
    variant_ok _ _ _ _ _ _ (search rules) _ 8 _ _ (λ k h. (_, refl, h))
    (c.in-Ok-newtype_variant-6.ensures.ok _ 8 _ (rw c.in-Ok-eq8-default.field-0-0-test at c.in-Ok-eq8-default.ensures.opened))

pub returns-in-Err-newtype_variant-6-clause-law : goal.returns-in-Err-newtype_variant-6-clause-law
returns-in-Err-newtype_variant-6-clause-law g c =
    variant_err _ _ _ _ _ _ (search rules) _ 8 _ (λ v k h. readable _ k h.0 h.2)
    (c.in-Err-newtype_variant-6.ensures.err _ 8 _ (rw c.in-Ok-eq8-default.field-0-0-test at c.in-Ok-eq8-default.ensures.opened))

pub returns-in-Err-newtype_variant-6-clause-refused : goal.returns-in-Err-newtype_variant-6-clause-refused
returns-in-Err-newtype_variant-6-clause-refused g c =
    content_wrong g.R.Source g.C.SerializerConfig.human _ _ _ _
    (left_by (c.in-Err-newtype_variant-6.ensures.err _ 8 _ (rw c.in-Ok-eq8-default.field-0-0-test at c.in-Ok-eq8-default.ensures.opened)))
    (left_by (returns-in-Err-newtype_variant-6-clause-law g c)) _ (search rules) 8 _
    (rw c.in-Ok-eq8-default.field-0-0-test at c.in-Ok-eq8-default.ensures.opened)
    (λ q. q) c.in-Err-newtype_variant-6.ensures.bare c.in-Err-newtype_variant-6.ensures.refused

pub returns-in-Ok-fields_variant-2-clause-law : goal.returns-in-Ok-fields_variant-2-clause-law
returns-in-Ok-fields_variant-2-clause-law g c =
    variant_ok _ _ _ _ _ _ (search rules) _ 9 _ _ (λ k h. (_, _, _, refl, h))
    (c.in-Ok-fields_variant-2.ensures.ok _ 9 _ (rw c.in-Ok-eq9-default.field-0-0-test at c.in-Ok-eq9-default.ensures.opened))

pub returns-in-Err-fields_variant-2-clause-law : goal.returns-in-Err-fields_variant-2-clause-law
returns-in-Err-fields_variant-2-clause-law g c =
    variant_err _ _ _ _ _ _ (search rules) _ 9 _ (λ v k h. readable _ k (h.0, (h.1, (h.2, tt))) h.4)
    (c.in-Err-fields_variant-2.ensures.err _ 9 _ (rw c.in-Ok-eq9-default.field-0-0-test at c.in-Ok-eq9-default.ensures.opened))

pub returns-in-Err-fields_variant-2-clause-refused : goal.returns-in-Err-fields_variant-2-clause-refused
returns-in-Err-fields_variant-2-clause-refused g c =
    content_wrong g.R.Source g.C.SerializerConfig.human _ _ _ _
    (left_by (c.in-Err-fields_variant-2.ensures.err _ 9 _ (rw c.in-Ok-eq9-default.field-0-0-test at c.in-Ok-eq9-default.ensures.opened)))
    (left_by (returns-in-Err-fields_variant-2-clause-law g c)) _ (search rules) 9 _
    (rw c.in-Ok-eq9-default.field-0-0-test at c.in-Ok-eq9-default.ensures.opened)
    (λ q. q) c.in-Err-fields_variant-2.ensures.bare c.in-Err-fields_variant-2.ensures.refused

pub returns-in-Ok-unit_variant-3-clause-law : goal.returns-in-Ok-unit_variant-3-clause-law
returns-in-Ok-unit_variant-3-clause-law g c =
    variant_ok _ _ _ _ _ _ (search rules) _ 10 _ _ (λ k h. (refl, h))
    (c.in-Ok-unit_variant-3.ensures.ok _ 10 _ (rw c.in-Ok-eq10-default.field-0-0-test at c.in-Ok-eq10-default.ensures.opened))

pub returns-in-Err-unit_variant-3-clause-law : goal.returns-in-Err-unit_variant-3-clause-law
returns-in-Err-unit_variant-3-clause-law g c =
    variant_err _ _ _ _ _ _ (search rules) _ 10 _ (λ v k h. h.1)
    (c.in-Err-unit_variant-3.ensures.err _ 10 _ (rw c.in-Ok-eq10-default.field-0-0-test at c.in-Ok-eq10-default.ensures.opened))

pub returns-in-Err-unit_variant-3-clause-refused : goal.returns-in-Err-unit_variant-3-clause-refused
returns-in-Err-unit_variant-3-clause-refused g c =
    unit_wrong g.R.Source g.C.SerializerConfig.human _ _ _ _
    (left_by (c.in-Err-unit_variant-3.ensures.err _ 10 _ (rw c.in-Ok-eq10-default.field-0-0-test at c.in-Ok-eq10-default.ensures.opened)))
    (left_by (returns-in-Err-unit_variant-3-clause-law g c)) _ (search rules) 10 _
    (rw c.in-Ok-eq10-default.field-0-0-test at c.in-Ok-eq10-default.ensures.opened)
    c.in-Err-unit_variant-3.ensures.bare c.in-Err-unit_variant-3.ensures.exact

pub returns-in-Ok-newtype_variant-7-clause-law : goal.returns-in-Ok-newtype_variant-7-clause-law
returns-in-Ok-newtype_variant-7-clause-law g c =
    rw (to_z-of_z w16 c.in-Ok-newtype_variant-7.first (search rules)) (variant_ok _ _ _ _ _ _ (search rules) _ 11 _ _ (λ k h. (_, refl, h))
    (c.in-Ok-newtype_variant-7.ensures.ok _ 11 _ (rw c.in-Ok-eq11-default.field-0-0-test at c.in-Ok-eq11-default.ensures.opened)))

pub returns-in-Err-newtype_variant-7-clause-law : goal.returns-in-Err-newtype_variant-7-clause-law
returns-in-Err-newtype_variant-7-clause-law g c =
    variant_err _ _ _ _ _ _ (search rules) _ 11 _ (λ v k h. readable _ k h.0 h.2)
    (c.in-Err-newtype_variant-7.ensures.err _ 11 _ (rw c.in-Ok-eq11-default.field-0-0-test at c.in-Ok-eq11-default.ensures.opened))

pub returns-in-Err-newtype_variant-7-clause-refused : goal.returns-in-Err-newtype_variant-7-clause-refused
returns-in-Err-newtype_variant-7-clause-refused g c =
    content_wrong g.R.Source g.C.SerializerConfig.human _ _ _ _
    (left_by (c.in-Err-newtype_variant-7.ensures.err _ 11 _ (rw c.in-Ok-eq11-default.field-0-0-test at c.in-Ok-eq11-default.ensures.opened)))
    (left_by (returns-in-Err-newtype_variant-7-clause-law g c)) _ (search rules) 11 _
    (rw c.in-Ok-eq11-default.field-0-0-test at c.in-Ok-eq11-default.ensures.opened)
    (λ q. q) c.in-Err-newtype_variant-7.ensures.bare c.in-Err-newtype_variant-7.ensures.refused

pub returns-in-Ok-newtype_variant-8-clause-law : goal.returns-in-Ok-newtype_variant-8-clause-law
returns-in-Ok-newtype_variant-8-clause-law g c =
    variant_ok _ _ _ _ _ _ (search rules) _ 12 _ _ (λ k h. (_, _, refl, h))
    (c.in-Ok-newtype_variant-8.ensures.ok _ 12 _ (rw c.in-Ok-eq12-default.field-0-0-test at c.in-Ok-eq12-default.ensures.opened))

pub returns-in-Err-newtype_variant-8-clause-law : goal.returns-in-Err-newtype_variant-8-clause-law
returns-in-Err-newtype_variant-8-clause-law g c =
    variant_err _ _ _ _ _ _ (search rules) _ 12 _ (λ v k h. readable _ k (h.0, h.1) h.3)
    (c.in-Err-newtype_variant-8.ensures.err _ 12 _ (rw c.in-Ok-eq12-default.field-0-0-test at c.in-Ok-eq12-default.ensures.opened))

pub returns-in-Err-newtype_variant-8-clause-refused : goal.returns-in-Err-newtype_variant-8-clause-refused
returns-in-Err-newtype_variant-8-clause-refused g c =
    content_wrong g.R.Source g.C.SerializerConfig.human _ _ _ _
    (left_by (c.in-Err-newtype_variant-8.ensures.err _ 12 _ (rw c.in-Ok-eq12-default.field-0-0-test at c.in-Ok-eq12-default.ensures.opened)))
    (left_by (returns-in-Err-newtype_variant-8-clause-law g c)) _ (search rules) 12 _
    (rw c.in-Ok-eq12-default.field-0-0-test at c.in-Ok-eq12-default.ensures.opened)
    (λ q. q) c.in-Err-newtype_variant-8.ensures.bare c.in-Err-newtype_variant-8.ensures.refused

pub returns-in-Ok-newtype_variant-9-clause-law : goal.returns-in-Ok-newtype_variant-9-clause-law
returns-in-Ok-newtype_variant-9-clause-law g c =
    variant_ok _ _ _ _ _ _ (search rules) _ 13 _ _ (λ k h. (_, refl, h))
    (c.in-Ok-newtype_variant-9.ensures.ok _ 13 _ (rw c.in-Ok-eq13-default.field-0-0-test at c.in-Ok-eq13-default.ensures.opened))

pub returns-in-Err-newtype_variant-9-clause-law : goal.returns-in-Err-newtype_variant-9-clause-law
returns-in-Err-newtype_variant-9-clause-law g c =
    variant_err _ _ _ _ _ _ (search rules) _ 13 _ (λ v k h. readable _ k h.0 h.2)
    (c.in-Err-newtype_variant-9.ensures.err _ 13 _ (rw c.in-Ok-eq13-default.field-0-0-test at c.in-Ok-eq13-default.ensures.opened))

pub returns-in-Err-newtype_variant-9-clause-refused : goal.returns-in-Err-newtype_variant-9-clause-refused
returns-in-Err-newtype_variant-9-clause-refused g c =
    content_wrong g.R.Source g.C.SerializerConfig.human _ _ _ _
    (left_by (c.in-Err-newtype_variant-9.ensures.err _ 13 _ (rw c.in-Ok-eq13-default.field-0-0-test at c.in-Ok-eq13-default.ensures.opened)))
    (left_by (returns-in-Err-newtype_variant-9-clause-law g c)) _ (search rules) 13 _
    (rw c.in-Ok-eq13-default.field-0-0-test at c.in-Ok-eq13-default.ensures.opened)
    (λ q. q) c.in-Err-newtype_variant-9.ensures.bare c.in-Err-newtype_variant-9.ensures.refused

pub returns-in-Ok-newtype_variant-10-clause-law : goal.returns-in-Ok-newtype_variant-10-clause-law
returns-in-Ok-newtype_variant-10-clause-law g c =
    variant_ok _ _ _ _ _ _ (search rules) _ 14 _ _ (λ k h. (_, refl, h))
    (c.in-Ok-newtype_variant-10.ensures.ok _ 14 _ (rw c.in-Ok-eq14-default.field-0-0-test at c.in-Ok-eq14-default.ensures.opened))

pub returns-in-Err-newtype_variant-10-clause-law : goal.returns-in-Err-newtype_variant-10-clause-law
returns-in-Err-newtype_variant-10-clause-law g c =
    variant_err _ _ _ _ _ _ (search rules) _ 14 _ (λ v k h. readable _ k h.0 h.2)
    (c.in-Err-newtype_variant-10.ensures.err _ 14 _ (rw c.in-Ok-eq14-default.field-0-0-test at c.in-Ok-eq14-default.ensures.opened))

pub returns-in-Err-newtype_variant-10-clause-refused : goal.returns-in-Err-newtype_variant-10-clause-refused
returns-in-Err-newtype_variant-10-clause-refused g c =
    content_wrong g.R.Source g.C.SerializerConfig.human _ _ _ _
    (left_by (c.in-Err-newtype_variant-10.ensures.err _ 14 _ (rw c.in-Ok-eq14-default.field-0-0-test at c.in-Ok-eq14-default.ensures.opened)))
    (left_by (returns-in-Err-newtype_variant-10-clause-law g c)) _ (search rules) 14 _
    (rw c.in-Ok-eq14-default.field-0-0-test at c.in-Ok-eq14-default.ensures.opened)
    (λ q. q) c.in-Err-newtype_variant-10.ensures.bare c.in-Err-newtype_variant-10.ensures.refused

pub returns-in-Ok-fields_variant-3-clause-law : goal.returns-in-Ok-fields_variant-3-clause-law
returns-in-Ok-fields_variant-3-clause-law g c =
    variant_ok _ _ _ _ _ _ (search rules) _ 15 _ _ (λ k h. (_, _, _, refl, h))
    (c.in-Ok-fields_variant-3.ensures.ok _ 15 _ (rw c.in-Ok-eq15-default.field-0-0-test at c.in-Ok-eq15-default.ensures.opened))

pub returns-in-Err-fields_variant-3-clause-law : goal.returns-in-Err-fields_variant-3-clause-law
returns-in-Err-fields_variant-3-clause-law g c =
    variant_err _ _ _ _ _ _ (search rules) _ 15 _ (λ v k h. readable _ k (h.0, (h.1, (h.2, tt))) h.4)
    (c.in-Err-fields_variant-3.ensures.err _ 15 _ (rw c.in-Ok-eq15-default.field-0-0-test at c.in-Ok-eq15-default.ensures.opened))

pub returns-in-Err-fields_variant-3-clause-refused : goal.returns-in-Err-fields_variant-3-clause-refused
returns-in-Err-fields_variant-3-clause-refused g c =
    content_wrong g.R.Source g.C.SerializerConfig.human _ _ _ _
    (left_by (c.in-Err-fields_variant-3.ensures.err _ 15 _ (rw c.in-Ok-eq15-default.field-0-0-test at c.in-Ok-eq15-default.ensures.opened)))
    (left_by (returns-in-Err-fields_variant-3-clause-law g c)) _ (search rules) 15 _
    (rw c.in-Ok-eq15-default.field-0-0-test at c.in-Ok-eq15-default.ensures.opened)
    (λ q. q) c.in-Err-fields_variant-3.ensures.bare c.in-Err-fields_variant-3.ensures.refused

pub returns-in-Ok-newtype_variant-11-clause-law : goal.returns-in-Ok-newtype_variant-11-clause-law
returns-in-Ok-newtype_variant-11-clause-law g c =
    variant_ok _ _ _ _ _ _ (search rules) _ 16 _ _ (λ k h. (_, refl, h))
    (c.in-Ok-newtype_variant-11.ensures.ok _ 16 _ (rw c.in-Ok-eq16-default.field-0-0-test at c.in-Ok-eq16-default.ensures.opened))

pub returns-in-Err-newtype_variant-11-clause-law : goal.returns-in-Err-newtype_variant-11-clause-law
returns-in-Err-newtype_variant-11-clause-law g c =
    variant_err _ _ _ _ _ _ (search rules) _ 16 _ (λ v k h. readable _ k h.0 h.2)
    (c.in-Err-newtype_variant-11.ensures.err _ 16 _ (rw c.in-Ok-eq16-default.field-0-0-test at c.in-Ok-eq16-default.ensures.opened))

pub returns-in-Err-newtype_variant-11-clause-refused : goal.returns-in-Err-newtype_variant-11-clause-refused
returns-in-Err-newtype_variant-11-clause-refused g c =
    content_wrong g.R.Source g.C.SerializerConfig.human _ _ _ _
    (left_by (c.in-Err-newtype_variant-11.ensures.err _ 16 _ (rw c.in-Ok-eq16-default.field-0-0-test at c.in-Ok-eq16-default.ensures.opened)))
    (left_by (returns-in-Err-newtype_variant-11-clause-law g c)) _ (search rules) 16 _
    (rw c.in-Ok-eq16-default.field-0-0-test at c.in-Ok-eq16-default.ensures.opened)
    (λ q. q) c.in-Err-newtype_variant-11.ensures.bare c.in-Err-newtype_variant-11.ensures.refused

pub returns-in-Ok-newtype_variant-12-clause-law : goal.returns-in-Ok-newtype_variant-12-clause-law
returns-in-Ok-newtype_variant-12-clause-law g c =
    variant_ok _ _ _ _ _ _ (search rules) _ 17 _ _ (λ k h. (_, refl, h))
    (c.in-Ok-newtype_variant-12.ensures.ok _ 17 _ (rw c.in-Ok-eq17-default.field-0-0-test at c.in-Ok-eq17-default.ensures.opened))

pub returns-in-Err-newtype_variant-12-clause-law : goal.returns-in-Err-newtype_variant-12-clause-law
returns-in-Err-newtype_variant-12-clause-law g c =
    variant_err _ _ _ _ _ _ (search rules) _ 17 _ (λ v k h. readable _ k h.0 h.2)
    (c.in-Err-newtype_variant-12.ensures.err _ 17 _ (rw c.in-Ok-eq17-default.field-0-0-test at c.in-Ok-eq17-default.ensures.opened))

pub returns-in-Err-newtype_variant-12-clause-refused : goal.returns-in-Err-newtype_variant-12-clause-refused
returns-in-Err-newtype_variant-12-clause-refused g c =
    content_wrong g.R.Source g.C.SerializerConfig.human _ _ _ _
    (left_by (c.in-Err-newtype_variant-12.ensures.err _ 17 _ (rw c.in-Ok-eq17-default.field-0-0-test at c.in-Ok-eq17-default.ensures.opened)))
    (left_by (returns-in-Err-newtype_variant-12-clause-law g c)) _ (search rules) 17 _
    (rw c.in-Ok-eq17-default.field-0-0-test at c.in-Ok-eq17-default.ensures.opened)
    (λ q. q) c.in-Err-newtype_variant-12.ensures.bare c.in-Err-newtype_variant-12.ensures.refused

pub returns-in-Ok-newtype_variant-13-clause-law : goal.returns-in-Ok-newtype_variant-13-clause-law
returns-in-Ok-newtype_variant-13-clause-law g c =
    variant_ok _ _ _ _ _ _ (search rules) _ 18 _ _ (λ k h. (_, refl, h))
    (c.in-Ok-newtype_variant-13.ensures.ok _ 18 _ (rw c.in-Ok-eq18-default.field-0-0-test at c.in-Ok-eq18-default.ensures.opened))

pub returns-in-Err-newtype_variant-13-clause-law : goal.returns-in-Err-newtype_variant-13-clause-law
returns-in-Err-newtype_variant-13-clause-law g c =
    variant_err _ _ _ _ _ _ (search rules) _ 18 _ (λ v k h. readable _ k h.0 h.2)
    (c.in-Err-newtype_variant-13.ensures.err _ 18 _ (rw c.in-Ok-eq18-default.field-0-0-test at c.in-Ok-eq18-default.ensures.opened))

pub returns-in-Err-newtype_variant-13-clause-refused : goal.returns-in-Err-newtype_variant-13-clause-refused
returns-in-Err-newtype_variant-13-clause-refused g c =
    content_wrong g.R.Source g.C.SerializerConfig.human _ _ _ _
    (left_by (c.in-Err-newtype_variant-13.ensures.err _ 18 _ (rw c.in-Ok-eq18-default.field-0-0-test at c.in-Ok-eq18-default.ensures.opened)))
    (left_by (returns-in-Err-newtype_variant-13-clause-law g c)) _ (search rules) 18 _
    (rw c.in-Ok-eq18-default.field-0-0-test at c.in-Ok-eq18-default.ensures.opened)
    (λ q. q) c.in-Err-newtype_variant-13.ensures.bare c.in-Err-newtype_variant-13.ensures.refused

pub returns-in-Ok-newtype_variant-14-clause-law : goal.returns-in-Ok-newtype_variant-14-clause-law
returns-in-Ok-newtype_variant-14-clause-law g c =
    variant_ok _ _ _ _ _ _ (search rules) _ 19 _ _ (λ k h. (_, refl, h))
    (c.in-Ok-newtype_variant-14.ensures.ok _ 19 _ (rw c.in-Ok-eq19-default.field-0-0-test at c.in-Ok-eq19-default.ensures.opened))

pub returns-in-Err-newtype_variant-14-clause-law : goal.returns-in-Err-newtype_variant-14-clause-law
returns-in-Err-newtype_variant-14-clause-law g c =
    variant_err _ _ _ _ _ _ (search rules) _ 19 _ (λ v k h. readable _ k h.0 h.2)
    (c.in-Err-newtype_variant-14.ensures.err _ 19 _ (rw c.in-Ok-eq19-default.field-0-0-test at c.in-Ok-eq19-default.ensures.opened))

pub returns-in-Err-newtype_variant-14-clause-refused : goal.returns-in-Err-newtype_variant-14-clause-refused
returns-in-Err-newtype_variant-14-clause-refused g c =
    content_wrong g.R.Source g.C.SerializerConfig.human _ _ _ _
    (left_by (c.in-Err-newtype_variant-14.ensures.err _ 19 _ (rw c.in-Ok-eq19-default.field-0-0-test at c.in-Ok-eq19-default.ensures.opened)))
    (left_by (returns-in-Err-newtype_variant-14-clause-law g c)) _ (search rules) 19 _
    (rw c.in-Ok-eq19-default.field-0-0-test at c.in-Ok-eq19-default.ensures.opened)
    (λ q. q) c.in-Err-newtype_variant-14.ensures.bare c.in-Err-newtype_variant-14.ensures.refused

pub returns-in-Ok-fields_variant-4-clause-law : goal.returns-in-Ok-fields_variant-4-clause-law
returns-in-Ok-fields_variant-4-clause-law g c =
    variant_ok _ _ _ _ _ _ (search rules) _ 20 _ _ (λ k h. (_, refl, h))
    (c.in-Ok-fields_variant-4.ensures.ok _ 20 _ (rw c.in-Ok-eq20-default.field-0-0-test at c.in-Ok-eq20-default.ensures.opened))

pub returns-in-Err-fields_variant-4-clause-law : goal.returns-in-Err-fields_variant-4-clause-law
returns-in-Err-fields_variant-4-clause-law g c =
    variant_err _ _ _ _ _ _ (search rules) _ 20 _ (λ v k h. readable _ k (h.0, tt) h.2)
    (c.in-Err-fields_variant-4.ensures.err _ 20 _ (rw c.in-Ok-eq20-default.field-0-0-test at c.in-Ok-eq20-default.ensures.opened))

pub returns-in-Err-fields_variant-4-clause-refused : goal.returns-in-Err-fields_variant-4-clause-refused
returns-in-Err-fields_variant-4-clause-refused g c =
    content_wrong g.R.Source g.C.SerializerConfig.human _ _ _ _
    (left_by (c.in-Err-fields_variant-4.ensures.err _ 20 _ (rw c.in-Ok-eq20-default.field-0-0-test at c.in-Ok-eq20-default.ensures.opened)))
    (left_by (returns-in-Err-fields_variant-4-clause-law g c)) _ (search rules) 20 _
    (rw c.in-Ok-eq20-default.field-0-0-test at c.in-Ok-eq20-default.ensures.opened)
    (λ q. q) c.in-Err-fields_variant-4.ensures.bare c.in-Err-fields_variant-4.ensures.refused

pub returns-in-Ok-unit_variant-4-clause-law : goal.returns-in-Ok-unit_variant-4-clause-law
returns-in-Ok-unit_variant-4-clause-law g c =
    variant_ok _ _ _ _ _ _ (search rules) _ 21 _ _ (λ k h. (refl, h))
    (c.in-Ok-unit_variant-4.ensures.ok _ 21 _ (rw c.in-Ok-eq21-default.field-0-0-test at c.in-Ok-eq21-default.ensures.opened))

pub returns-in-Err-unit_variant-4-clause-law : goal.returns-in-Err-unit_variant-4-clause-law
returns-in-Err-unit_variant-4-clause-law g c =
    variant_err _ _ _ _ _ _ (search rules) _ 21 _ (λ v k h. h.1)
    (c.in-Err-unit_variant-4.ensures.err _ 21 _ (rw c.in-Ok-eq21-default.field-0-0-test at c.in-Ok-eq21-default.ensures.opened))

pub returns-in-Err-unit_variant-4-clause-refused : goal.returns-in-Err-unit_variant-4-clause-refused
returns-in-Err-unit_variant-4-clause-refused g c =
    unit_wrong g.R.Source g.C.SerializerConfig.human _ _ _ _
    (left_by (c.in-Err-unit_variant-4.ensures.err _ 21 _ (rw c.in-Ok-eq21-default.field-0-0-test at c.in-Ok-eq21-default.ensures.opened)))
    (left_by (returns-in-Err-unit_variant-4-clause-law g c)) _ (search rules) 21 _
    (rw c.in-Ok-eq21-default.field-0-0-test at c.in-Ok-eq21-default.ensures.opened)
    c.in-Err-unit_variant-4.ensures.bare c.in-Err-unit_variant-4.ensures.exact

pub returns-in-Ok-newtype_variant-15-clause-law : goal.returns-in-Ok-newtype_variant-15-clause-law
returns-in-Ok-newtype_variant-15-clause-law g c =
    variant_ok _ _ _ _ _ _ (search rules) _ 22 _ _ (λ k h. (_, _, _, _, refl, h))
    (c.in-Ok-newtype_variant-15.ensures.ok _ 22 _ (rw c.in-Ok-eq22-default.field-0-0-test at c.in-Ok-eq22-default.ensures.opened))

pub returns-in-Err-newtype_variant-15-clause-law : goal.returns-in-Err-newtype_variant-15-clause-law
returns-in-Err-newtype_variant-15-clause-law g c =
    variant_err _ _ _ _ _ _ (search rules) _ 22 _ (λ v k h. readable _ k (h.0, h.1, h.2, h.3) h.5)
    (c.in-Err-newtype_variant-15.ensures.err _ 22 _ (rw c.in-Ok-eq22-default.field-0-0-test at c.in-Ok-eq22-default.ensures.opened))

pub returns-in-Err-newtype_variant-15-clause-refused : goal.returns-in-Err-newtype_variant-15-clause-refused
returns-in-Err-newtype_variant-15-clause-refused g c =
    content_wrong g.R.Source g.C.SerializerConfig.human _ _ _ _
    (left_by (c.in-Err-newtype_variant-15.ensures.err _ 22 _ (rw c.in-Ok-eq22-default.field-0-0-test at c.in-Ok-eq22-default.ensures.opened)))
    (left_by (returns-in-Err-newtype_variant-15-clause-law g c)) _ (search rules) 22 _
    (rw c.in-Ok-eq22-default.field-0-0-test at c.in-Ok-eq22-default.ensures.opened)
    (λ q. q) c.in-Err-newtype_variant-15.ensures.bare c.in-Err-newtype_variant-15.ensures.refused

pub returns-in-Ok-newtype_variant-16-clause-law : goal.returns-in-Ok-newtype_variant-16-clause-law
returns-in-Ok-newtype_variant-16-clause-law g c =
    rw (to_z-of_z w128 c.in-Ok-newtype_variant-16.first (search rules)) (variant_ok _ _ _ _ _ _ (search rules) _ 23 _ _ (λ k h. (_, refl, h))
    (c.in-Ok-newtype_variant-16.ensures.ok _ 23 _ (rw c.in-Ok-eq23-default.field-0-0-test at c.in-Ok-eq23-default.ensures.opened)))

pub returns-in-Err-newtype_variant-16-clause-law : goal.returns-in-Err-newtype_variant-16-clause-law
returns-in-Err-newtype_variant-16-clause-law g c =
    variant_err _ _ _ _ _ _ (search rules) _ 23 _ (λ v k h. readable _ k h.0 h.2)
    (c.in-Err-newtype_variant-16.ensures.err _ 23 _ (rw c.in-Ok-eq23-default.field-0-0-test at c.in-Ok-eq23-default.ensures.opened))

pub returns-in-Err-newtype_variant-16-clause-refused : goal.returns-in-Err-newtype_variant-16-clause-refused
returns-in-Err-newtype_variant-16-clause-refused g c =
    content_wrong g.R.Source g.C.SerializerConfig.human _ _ _ _
    (left_by (c.in-Err-newtype_variant-16.ensures.err _ 23 _ (rw c.in-Ok-eq23-default.field-0-0-test at c.in-Ok-eq23-default.ensures.opened)))
    (left_by (returns-in-Err-newtype_variant-16-clause-law g c)) _ (search rules) 23 _
    (rw c.in-Ok-eq23-default.field-0-0-test at c.in-Ok-eq23-default.ensures.opened)
    (λ q. q) c.in-Err-newtype_variant-16.ensures.bare c.in-Err-newtype_variant-16.ensures.refused

pub returns-in-Ok-newtype_variant-17-clause-law : goal.returns-in-Ok-newtype_variant-17-clause-law
returns-in-Ok-newtype_variant-17-clause-law g c =
    variant_ok _ _ _ _ _ _ (search rules) _ 24 _ _ (λ k h. (_, refl, h))
    (c.in-Ok-newtype_variant-17.ensures.ok _ 24 _ (rw c.in-Ok-eq24-default.field-0-0-test at c.in-Ok-eq24-default.ensures.opened))

pub returns-in-Err-newtype_variant-17-clause-law : goal.returns-in-Err-newtype_variant-17-clause-law
returns-in-Err-newtype_variant-17-clause-law g c =
    variant_err _ _ _ _ _ _ (search rules) _ 24 _ (λ v k h. readable _ k h.0 h.2)
    (c.in-Err-newtype_variant-17.ensures.err _ 24 _ (rw c.in-Ok-eq24-default.field-0-0-test at c.in-Ok-eq24-default.ensures.opened))

pub returns-in-Err-newtype_variant-17-clause-refused : goal.returns-in-Err-newtype_variant-17-clause-refused
returns-in-Err-newtype_variant-17-clause-refused g c =
    content_wrong g.R.Source g.C.SerializerConfig.human _ _ _ _
    (left_by (c.in-Err-newtype_variant-17.ensures.err _ 24 _ (rw c.in-Ok-eq24-default.field-0-0-test at c.in-Ok-eq24-default.ensures.opened)))
    (left_by (returns-in-Err-newtype_variant-17-clause-law g c)) _ (search rules) 24 _
    (rw c.in-Ok-eq24-default.field-0-0-test at c.in-Ok-eq24-default.ensures.opened)
    (λ q. q) c.in-Err-newtype_variant-17.ensures.bare c.in-Err-newtype_variant-17.ensures.refused

pub returns-in-Ok-fields_variant-5-clause-law : goal.returns-in-Ok-fields_variant-5-clause-law
returns-in-Ok-fields_variant-5-clause-law g c =
    variant_ok _ _ _ _ _ _ (search rules) _ 25 _ _ (λ k h. (_, _, _, _, refl, h))
    (c.in-Ok-fields_variant-5.ensures.ok _ 25 _ (rw c.in-Ok-eq25-default.field-0-0-test at c.in-Ok-eq25-default.ensures.opened))

pub returns-in-Err-fields_variant-5-clause-law : goal.returns-in-Err-fields_variant-5-clause-law
returns-in-Err-fields_variant-5-clause-law g c =
    variant_err _ _ _ _ _ _ (search rules) _ 25 _ (λ v k h. readable _ k (h.0, h.1, h.2, h.3, tt) h.5)
    (c.in-Err-fields_variant-5.ensures.err _ 25 _ (rw c.in-Ok-eq25-default.field-0-0-test at c.in-Ok-eq25-default.ensures.opened))

pub returns-in-Err-fields_variant-5-clause-refused : goal.returns-in-Err-fields_variant-5-clause-refused
returns-in-Err-fields_variant-5-clause-refused g c =
    content_wrong g.R.Source g.C.SerializerConfig.human _ _ _ _
    (left_by (c.in-Err-fields_variant-5.ensures.err _ 25 _ (rw c.in-Ok-eq25-default.field-0-0-test at c.in-Ok-eq25-default.ensures.opened)))
    (left_by (returns-in-Err-fields_variant-5-clause-law g c)) _ (search rules) 25 _
    (rw c.in-Ok-eq25-default.field-0-0-test at c.in-Ok-eq25-default.ensures.opened)
    (λ q. q) c.in-Err-fields_variant-5.ensures.bare c.in-Err-fields_variant-5.ensures.refused

pub returns-in-Ok-newtype_variant-18-clause-law : goal.returns-in-Ok-newtype_variant-18-clause-law
returns-in-Ok-newtype_variant-18-clause-law g c =
    variant_ok _ _ _ _ _ _ (search rules) _ 26 _ _ (λ k h. (_, refl, h))
    (c.in-Ok-newtype_variant-18.ensures.ok _ 26 _ (rw c.in-Ok-eq26-default.field-0-0-test at c.in-Ok-eq26-default.ensures.opened))

pub returns-in-Err-newtype_variant-18-clause-law : goal.returns-in-Err-newtype_variant-18-clause-law
returns-in-Err-newtype_variant-18-clause-law g c =
    variant_err _ _ _ _ _ _ (search rules) _ 26 _ (λ v k h. readable _ k h.0 h.2)
    (c.in-Err-newtype_variant-18.ensures.err _ 26 _ (rw c.in-Ok-eq26-default.field-0-0-test at c.in-Ok-eq26-default.ensures.opened))

pub returns-in-Err-newtype_variant-18-clause-refused : goal.returns-in-Err-newtype_variant-18-clause-refused
returns-in-Err-newtype_variant-18-clause-refused g c =
    content_wrong g.R.Source g.C.SerializerConfig.human _ _ _ _
    (left_by (c.in-Err-newtype_variant-18.ensures.err _ 26 _ (rw c.in-Ok-eq26-default.field-0-0-test at c.in-Ok-eq26-default.ensures.opened)))
    (left_by (returns-in-Err-newtype_variant-18-clause-law g c)) _ (search rules) 26 _
    (rw c.in-Ok-eq26-default.field-0-0-test at c.in-Ok-eq26-default.ensures.opened)
    (λ q. q) c.in-Err-newtype_variant-18.ensures.bare c.in-Err-newtype_variant-18.ensures.refused

pub returns-in-Ok-fields_variant-6-clause-law : goal.returns-in-Ok-fields_variant-6-clause-law
returns-in-Ok-fields_variant-6-clause-law g c =
    rw (to_z-of_z w64 c.in-Ok-fields_variant-6.parts.1.0 (search rules)) (variant_ok _ _ _ _ _ _ (search rules) _ 27 _ _ (λ k h. (_, _, refl, h))
    (c.in-Ok-fields_variant-6.ensures.ok _ 27 _ (rw c.in-Ok-eq27-default.field-0-0-test at c.in-Ok-eq27-default.ensures.opened)))

pub returns-in-Err-fields_variant-6-clause-law : goal.returns-in-Err-fields_variant-6-clause-law
returns-in-Err-fields_variant-6-clause-law g c =
    variant_err _ _ _ _ _ _ (search rules) _ 27 _ (λ v k h. readable _ k (h.0, (h.1, tt)) h.3)
    (c.in-Err-fields_variant-6.ensures.err _ 27 _ (rw c.in-Ok-eq27-default.field-0-0-test at c.in-Ok-eq27-default.ensures.opened))

pub returns-in-Err-fields_variant-6-clause-refused : goal.returns-in-Err-fields_variant-6-clause-refused
returns-in-Err-fields_variant-6-clause-refused g c =
    content_wrong g.R.Source g.C.SerializerConfig.human _ _ _ _
    (left_by (c.in-Err-fields_variant-6.ensures.err _ 27 _ (rw c.in-Ok-eq27-default.field-0-0-test at c.in-Ok-eq27-default.ensures.opened)))
    (left_by (returns-in-Err-fields_variant-6-clause-law g c)) _ (search rules) 27 _
    (rw c.in-Ok-eq27-default.field-0-0-test at c.in-Ok-eq27-default.ensures.opened)
    (λ q. q) c.in-Err-fields_variant-6.ensures.bare c.in-Err-fields_variant-6.ensures.refused

pub returns-in-Ok-newtype_variant-19-clause-law : goal.returns-in-Ok-newtype_variant-19-clause-law
returns-in-Ok-newtype_variant-19-clause-law g c =
    variant_ok _ _ _ _ _ _ (search rules) _ 28 _ _ (λ k h. (_, _, refl, h))
    (c.in-Ok-newtype_variant-19.ensures.ok _ 28 _ (rw c.in-Ok-eq28-default.field-0-0-test at c.in-Ok-eq28-default.ensures.opened))

pub returns-in-Err-newtype_variant-19-clause-law : goal.returns-in-Err-newtype_variant-19-clause-law
returns-in-Err-newtype_variant-19-clause-law g c =
    variant_err _ _ _ _ _ _ (search rules) _ 28 _ (λ v k h. readable _ k (h.0, h.1) h.3)
    (c.in-Err-newtype_variant-19.ensures.err _ 28 _ (rw c.in-Ok-eq28-default.field-0-0-test at c.in-Ok-eq28-default.ensures.opened))

pub returns-in-Err-newtype_variant-19-clause-refused : goal.returns-in-Err-newtype_variant-19-clause-refused
returns-in-Err-newtype_variant-19-clause-refused g c =
    content_wrong g.R.Source g.C.SerializerConfig.human _ _ _ _
    (left_by (c.in-Err-newtype_variant-19.ensures.err _ 28 _ (rw c.in-Ok-eq28-default.field-0-0-test at c.in-Ok-eq28-default.ensures.opened)))
    (left_by (returns-in-Err-newtype_variant-19-clause-law g c)) _ (search rules) 28 _
    (rw c.in-Ok-eq28-default.field-0-0-test at c.in-Ok-eq28-default.ensures.opened)
    (λ q. q) c.in-Err-newtype_variant-19.ensures.bare c.in-Err-newtype_variant-19.ensures.refused

pub returns-in-Ok-unit_variant-5-clause-law : goal.returns-in-Ok-unit_variant-5-clause-law
returns-in-Ok-unit_variant-5-clause-law g c =
    let k = c.in-Ok in
    let at : k.field-0-0 ≡ 29 = omega (arith, k.field-0-0-test, k.ensures.below) in
    variant_ok _ _ _ _ _ _ (search rules) _ 29 _ _ (λ k h. (refl, h))
    (c.in-Ok-unit_variant-5.ensures.ok _ 29 _ (rw at at k.ensures.opened))

pub returns-in-Err-unit_variant-5-clause-law : goal.returns-in-Err-unit_variant-5-clause-law
returns-in-Err-unit_variant-5-clause-law g c =
    let k = c.in-Ok in
    let at : k.field-0-0 ≡ 29 = omega (arith, k.field-0-0-test, k.ensures.below) in
    variant_err _ _ _ _ _ _ (search rules) _ 29 _ (λ v k h. h.1)
    (c.in-Err-unit_variant-5.ensures.err _ 29 _ (rw at at k.ensures.opened))

pub returns-in-Err-unit_variant-5-clause-refused : goal.returns-in-Err-unit_variant-5-clause-refused
returns-in-Err-unit_variant-5-clause-refused g c =
    let k = c.in-Ok in
    let at : k.field-0-0 ≡ 29 = omega (arith, k.field-0-0-test, k.ensures.below) in
    unit_wrong g.R.Source g.C.SerializerConfig.human _ _ _ _ (left_by (c.in-Err-unit_variant-5.ensures.err _ 29 _ (rw at at k.ensures.opened)))
    (left_by (returns-in-Err-unit_variant-5-clause-law g c)) _ (search rules) 29 _ (rw at at k.ensures.opened)
    c.in-Err-unit_variant-5.ensures.bare c.in-Err-unit_variant-5.ensures.exact

pub returns-in-Err-clause-law : goal.returns-in-Err-clause-law
returns-in-Err-clause-law g c =
    variant_unopened _ _ _ _ _ _ (search rules) _ (rw c.in-Err.is at c.deserialize_enum.follows.holds-at-none)

pub returns-in-Err-clause-refused : goal.returns-in-Err-clause-refused
returns-in-Err-clause-refused g c =
    let f = rw c.in-Err.is at c.deserialize_enum.follows.holds-at-none in
    enum_unopened g.R.Source g.C.SerializerConfig.human _ _ _ _ (unopened_by f) (left_by (returns-in-Err-clause-law g c)) _ (search rules) f
