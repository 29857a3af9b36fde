use Rattle.std.proofs.Common.{rules, refl, length, ◌≡◌}
use Rattle.std.proofs.lemmas.Result.{err_from_is_err_and}
use Rattle.std.specs.List.{flat_map}
use Rattle.rmp_encode.specs.Ser.{settings_of}
use Rattle.rmp_encode.specs.Trees.{field_parts, structure_of}
use Rattle.rmp_encode.proofs.Fields.{made_struct, many_fields}
use Rattle.rmp_encode.proofs.Promises.{not_opened}
use Rattle.rmp_encode.proofs.Refusals.{long_past}
use Rattle.rmp_encode.proofs.serializer.Serializer.serialize_struct.Goals as goal

pub returns-in_err-put_len : goal.returns-in_err-put_len
returns-in_err-put_len g c =
    let p = err_from_is_err_and c.from_residual.result c.from_residual.ensures.1 in
    rw (p.1, p.2) (
      (
        refl,
        λ _. tt,
        not_opened g.W.Sink (λ fs. length fs ≡ c.args.len) structure_of (flat_map (field_parts (settings_of c.args.self.now).named))
            (long_past c.args.len) (λ fs e. made_struct _ c.args.len fs e) (rw c.is_named.ensures at c.in_err-put_len.ensures),
      ),
      search rules,
    )

pub returns : goal.returns
returns g c =
    let o = rw c.is_named.ensures at c.in_ok-put_len.ensures in (
      (refl, λ _. refl, tt),
      (refl, (o.fits, (refl, (refl, (refl, (λ fs e. record { sound = refl; left_is = many_fields _ fs c.args.len e; state = o.begins _ _ (made_struct _ c.args.len fs e) }, o.keeps)))))),
    )
