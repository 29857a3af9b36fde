use Rattle.rmp_decode.proofs.EnumRefusals.{enum_unopened, content_wrong}
use Rattle.rmp_decode.proofs.Variants.{variant_ok, variant_err, variant_unopened, readable}
use Rattle.rmp_decode.specs.Law.{Lawful}
use Rattle.rmp_decode.specs.Variants.{FailsToOpenVariant}
use Rattle.rmp_decode.specs.declared.deserializer.Deserializer.{Deserializer}
use Rattle.rmp_decode.specs.declared.error.Error.{Error}
use Rattle.rmp_wire.specs.Msg.{Msg}
use Rattle.rmp_wire.specs.declared.source.Source.{Ghosts}
use Rattle.std.proofs.Common.{◌≡◌, refl, arith, rules, Result, List, ℕ}
use Rattle.test_nodes.proofs.parts.derived.WidthDeserialize.deserialize.Goals as goal

-- the reader that a law speaks of
abbrev left_by : {R C V : Type 0} {g : Ghosts R} {reads : Msg → V → Type 0} {old last : Deserializer R C} {result : Result V Error}
    → Lawful g reads old last result → Deserializer R C
left_by {R} {C} {V} {g} {reads} {old} {last} {result} l = last

-- the reader that is left where no variant opens
abbrev unopened_by : {R C : Type 0} {g : Ghosts R} {names : List (List ℕ)} {old new : Deserializer R C} {e : Error}
    → FailsToOpenVariant g names old new e → Deserializer R C
unopened_by {R} {C} {g} {names} {old} {new} {e} f = new

pub returns-in-Ok-newtype_variant-clause-law : goal.returns-in-Ok-newtype_variant-clause-law
returns-in-Ok-newtype_variant-clause-law g c =
    variant_ok _ _ _ _ _ _ (search rules) _ 0 _ _ (λ k h. (_, refl, h))
    (c.in-Ok-newtype_variant.ensures.ok _ 0 _ (rw c.in-Ok-eq0-default.field-0-0-test at c.in-Ok-eq0-default.ensures.opened))

pub returns-in-Err-newtype_variant-clause-law : goal.returns-in-Err-newtype_variant-clause-law
returns-in-Err-newtype_variant-clause-law g c =
    variant_err _ _ _ _ _ _ (search rules) _ 0 _ (λ v k h. readable _ k h.0 h.2)
    (c.in-Err-newtype_variant.ensures.err _ 0 _ (rw c.in-Ok-eq0-default.field-0-0-test at c.in-Ok-eq0-default.ensures.opened))

pub returns-in-Err-newtype_variant-clause-refused : goal.returns-in-Err-newtype_variant-clause-refused
returns-in-Err-newtype_variant-clause-refused g c =
    content_wrong g.R.Source g.C.SerializerConfig.human _ _ _ _
    (left_by (c.in-Err-newtype_variant.ensures.err _ 0 _ (rw c.in-Ok-eq0-default.field-0-0-test at c.in-Ok-eq0-default.ensures.opened)))
    (left_by (returns-in-Err-newtype_variant-clause-law g c)) _ (search rules) 0 _
    (rw c.in-Ok-eq0-default.field-0-0-test at c.in-Ok-eq0-default.ensures.opened)
    (λ q. q) c.in-Err-newtype_variant.ensures.bare c.in-Err-newtype_variant.ensures.refused

pub returns-in-Ok-newtype_variant-2-clause-law : goal.returns-in-Ok-newtype_variant-2-clause-law
returns-in-Ok-newtype_variant-2-clause-law g c =
    let k = c.in-Ok in
    let at : k.field-0-0 ≡ 1 = omega (arith, k.field-0-0-test, k.ensures.below) in
    variant_ok _ _ _ _ _ _ (search rules) _ 1 _ _ (λ k h. (_, refl, h))
    (c.in-Ok-newtype_variant-2.ensures.ok _ 1 _ (rw at at k.ensures.opened))

pub returns-in-Err-newtype_variant-2-clause-law : goal.returns-in-Err-newtype_variant-2-clause-law
returns-in-Err-newtype_variant-2-clause-law g c =
    let k = c.in-Ok in
    let at : k.field-0-0 ≡ 1 = omega (arith, k.field-0-0-test, k.ensures.below) in
    variant_err _ _ _ _ _ _ (search rules) _ 1 _ (λ v k h. readable _ k h.0 h.2)
    (c.in-Err-newtype_variant-2.ensures.err _ 1 _ (rw at at k.ensures.opened))

pub returns-in-Err-newtype_variant-2-clause-refused : goal.returns-in-Err-newtype_variant-2-clause-refused
returns-in-Err-newtype_variant-2-clause-refused g c =
    let k = c.in-Ok in
    let at : k.field-0-0 ≡ 1 = omega (arith, k.field-0-0-test, k.ensures.below) in
    content_wrong g.R.Source g.C.SerializerConfig.human _ _ _ _ (left_by (c.in-Err-newtype_variant-2.ensures.err _ 1 _ (rw at at k.ensures.opened)))
    (left_by (returns-in-Err-newtype_variant-2-clause-law g c)) _ (search rules) 1 _ (rw at at k.ensures.opened)
    (λ q. q) c.in-Err-newtype_variant-2.ensures.bare c.in-Err-newtype_variant-2.ensures.refused

pub returns-in-Err-clause-law : goal.returns-in-Err-clause-law
returns-in-Err-clause-law g c =
    variant_unopened _ _ _ _ _ _ (search rules) _ (rw c.in-Err.is at c.deserialize_enum.follows.holds-at-none)

pub returns-in-Err-clause-refused : goal.returns-in-Err-clause-refused
returns-in-Err-clause-refused g c =
    let f = rw c.in-Err.is at c.deserialize_enum.follows.holds-at-none in
    enum_unopened g.R.Source g.C.SerializerConfig.human _ _ _ _ (unopened_by f) (left_by (returns-in-Err-clause-law g c)) _ (search rules) f
