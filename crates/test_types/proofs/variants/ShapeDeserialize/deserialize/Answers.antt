use Rattle.std.proofs.Common.{◌≡◌, refl, arith, rules}
use Rattle.rmp_decode.proofs.Variants.{variant_ok, variant_err, variant_unopened, readable}
use Rattle.test_types.proofs.variants.ShapeDeserialize.deserialize.Goals as goal

pub returns-in-Ok-unit_variant-clause-law : goal.returns-in-Ok-unit_variant-clause-law
returns-in-Ok-unit_variant-clause-law g c = variant_ok _ _ _ _ _ _ (search rules) _ 0 _ _ (λ k h. (refl, h))
    (c.in-Ok-unit_variant.ensures.ok _ 0 _ (rw c.in-Ok-eq0-default.field-0-0-test at c.in-Ok-eq0-default.ensures.opened))

pub returns-in-Err-unit_variant-clause-law : goal.returns-in-Err-unit_variant-clause-law
returns-in-Err-unit_variant-clause-law g c = variant_err _ _ _ _ _ _ (search rules) _ 0 _ (λ v k h. h.1)
    (c.in-Err-unit_variant.ensures.err _ 0 _ (rw c.in-Ok-eq0-default.field-0-0-test at c.in-Ok-eq0-default.ensures.opened))

pub returns-in-Ok-newtype_variant-clause-law : goal.returns-in-Ok-newtype_variant-clause-law
returns-in-Ok-newtype_variant-clause-law g c = variant_ok _ _ _ _ _ _ (search rules) _ 1 _ _ (λ k h. (_, refl, h))
    (c.in-Ok-newtype_variant.ensures.ok _ 1 _ (rw c.in-Ok-eq1-default.field-0-0-test at c.in-Ok-eq1-default.ensures.opened))

pub returns-in-Err-newtype_variant-clause-law : goal.returns-in-Err-newtype_variant-clause-law
returns-in-Err-newtype_variant-clause-law g c = variant_err _ _ _ _ _ _ (search rules) _ 1 _ (λ v k h. readable _ k h.0 h.2)
    (c.in-Err-newtype_variant.ensures.err _ 1 _ (rw c.in-Ok-eq1-default.field-0-0-test at c.in-Ok-eq1-default.ensures.opened))

pub returns-in-Ok-newtype_variant-2-clause-law : goal.returns-in-Ok-newtype_variant-2-clause-law
returns-in-Ok-newtype_variant-2-clause-law g c = variant_ok _ _ _ _ _ _ (search rules) _ 2 _ _ (λ k h. (_, _, refl, h))
    (c.in-Ok-newtype_variant-2.ensures.ok _ 2 _ (rw c.in-Ok-eq2-default.field-0-0-test at c.in-Ok-eq2-default.ensures.opened))

pub returns-in-Err-newtype_variant-2-clause-law : goal.returns-in-Err-newtype_variant-2-clause-law
returns-in-Err-newtype_variant-2-clause-law g c = variant_err _ _ _ _ _ _ (search rules) _ 2 _ (λ v k h. readable _ k (h.0, h.1) h.3)
    (c.in-Err-newtype_variant-2.ensures.err _ 2 _ (rw c.in-Ok-eq2-default.field-0-0-test at c.in-Ok-eq2-default.ensures.opened))

pub returns-in-Ok-fields_variant-clause-law : goal.returns-in-Ok-fields_variant-clause-law
returns-in-Ok-fields_variant-clause-law g c =
    let k = c.in-Ok in
    let at : k.field-0-0 ≡ 3 = omega (arith, k.field-0-0-test, k.ensures.below) in
    variant_ok _ _ _ _ _ _ (search rules) _ 3 _ _ (λ k h. (_, _, refl, h)) (c.in-Ok-fields_variant.ensures.ok _ 3 _ (rw at at k.ensures.opened))

pub returns-in-Err-fields_variant-clause-law : goal.returns-in-Err-fields_variant-clause-law
returns-in-Err-fields_variant-clause-law g c =
    let k = c.in-Ok in
    let at : k.field-0-0 ≡ 3 = omega (arith, k.field-0-0-test, k.ensures.below) in
    variant_err _ _ _ _ _ _ (search rules) _ 3 _ (λ v k h. readable _ k (h.0, (h.1, tt)) h.3)
    (c.in-Err-fields_variant.ensures.err _ 3 _ (rw at at k.ensures.opened))

pub returns-in-Err-clause-law : goal.returns-in-Err-clause-law
returns-in-Err-clause-law g c = variant_unopened _ _ _ _ _ _ (search rules) _ (rw c.in-Err.is at c.deserialize_enum.follows.holds-at-none)
