use Rattle.std.proofs.Common.{length, arith, rules, refl, ◌≡◌}
use Rattle.std.proofs.lemmas.Result.{err_from_is_err_and}
use Rattle.std.specs.List.{flat_map}
use Rattle.rmp_encode.specs.Ser.{settings_of}
use Rattle.rmp_encode.specs.Trees.{field_parts, struct_variant_of}
use Rattle.rmp_encode.proofs.Fields.{many_fields}
use Rattle.rmp_encode.proofs.Leaves.{bytes_from}
use Rattle.rmp_encode.proofs.Promises.{not_opened}
use Rattle.rmp_encode.proofs.Refusals.{long_not}
use Rattle.rmp_encode.proofs.Variants.{made_struct_variant}
use Rattle.rmp_encode.proofs.serializer.Serializer.serialize_struct_variant.Goals as goal

pub returns-in_err-open_variant : goal.returns-in_err-open_variant
returns-in_err-open_variant g c =
    let p = err_from_is_err_and c.from_residual.result c.from_residual.ensures.1 in
    let small = bytes_from c.args.variant.now (λ i. omega (arith, c.type_inv.variant i)) in
    rw (p.1, p.2) (
      (
        refl,
        λ _. tt,
        not_opened g.W.Sink (λ fs. length fs ≡ c.args.len) (struct_variant_of c.args.variant.now)
            (flat_map (field_parts (settings_of c.args.self.now).named)) (long_not (length c.args.variant.now) c.args.len)
            (λ fs e. made_struct_variant _ c.args.variant.now c.args.len fs small e) (rw c.is_named.ensures at c.in_err-open_variant.ensures),
      ),
      search rules,
    )

pub returns : goal.returns
returns g c =
    let small = bytes_from c.args.variant.now (λ i. omega (arith, c.type_inv.variant i)) in
    let o = rw c.is_named.ensures at c.in_ok-open_variant.ensures in (
      (refl, λ _. refl, tt),
      (refl, (o.fits, (refl, (refl, (refl, (λ fs e. record { sound = refl; left_is = many_fields _ fs c.args.len e; state = o.begins _ _ (made_struct_variant _ c.args.variant.now c.args.len fs small e) }, o.keeps)))))),
    )
