use Rattle.std.proofs.Common.{length, arith, rules, refl, ◌≡◌}
use Rattle.std.proofs.lemmas.Result.{err_from_is_err_and}
use Rattle.rmp_encode.specs.Trees.{tuple_variant_of}
use Rattle.rmp_encode.proofs.Leaves.{bytes_from}
use Rattle.rmp_encode.proofs.Promises.{not_opened}
use Rattle.rmp_encode.proofs.Refusals.{long_not}
use Rattle.rmp_encode.proofs.Variants.{made_tuple_variant}
use Rattle.rmp_encode.proofs.serializer.Serializer.serialize_tuple_variant.Goals as goal

pub returns-in_err-open_variant : goal.returns-in_err-open_variant
returns-in_err-open_variant g c =
    let p = err_from_is_err_and c.from_residual.result c.from_residual.ensures.1 in
    let small = bytes_from c.args.variant.now (λ i. omega (arith, c.type_inv.variant i)) in
    rw (p.1, p.2) (
      (
        refl,
        λ _. tt,
        not_opened g.W.Sink (λ all. length all ≡ c.args.len) (tuple_variant_of c.args.variant.now) (λ all. all)
            (long_not (length c.args.variant.now) c.args.len) (λ all e. made_tuple_variant _ c.args.variant.now c.args.len all small e)
            c.in_err-open_variant.ensures,
      ),
      search rules,
    )

pub returns : goal.returns
returns g c =
    let small = bytes_from c.args.variant.now (λ i. omega (arith, c.type_inv.variant i)) in
    let o = c.in_ok-open_variant.ensures in (
      (refl, λ _. refl, tt),
      (refl, (o.fits, (refl, (refl, (refl, (λ all e. record { sound = refl; left_is = e; state = o.begins _ _ (made_tuple_variant _ c.args.variant.now c.args.len all small e) }, o.keeps)))))),
    )
