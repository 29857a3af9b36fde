use Rattle.std.proofs.Common.{rules, refl, length, ◌≡◌}
use Rattle.std.proofs.lemmas.Result.{err_from_is_err_and}
use Rattle.rmp_encode.specs.Trees.{sequence_of}
use Rattle.rmp_encode.proofs.Lists.{made_list}
use Rattle.rmp_encode.proofs.Promises.{not_opened}
use Rattle.rmp_encode.proofs.Refusals.{long_past}
use Rattle.rmp_encode.proofs.serializer.Serializer.serialize_tuple_struct.Goals as goal

pub returns-in_err-put_len : goal.returns-in_err-put_len
returns-in_err-put_len g c =
    let p = err_from_is_err_and c.from_residual.result c.from_residual.ensures.1 in
    rw (p.1, p.2) (
      (
        refl,
        λ _. tt,
        not_opened g.W.Sink (λ all. length all ≡ c.args.len) sequence_of (λ all. all) (long_past c.args.len) (λ all e. made_list _ c.args.len all e)
            c.in_err-put_len.ensures,
      ),
      search rules,
    )

pub returns : goal.returns
returns g c =
    let o = c.in_ok-put_len.ensures in (
      (refl, λ _. refl, tt),
      (refl, (o.fits, (refl, (refl, (refl, (λ all e. record { sound = refl; left_is = e; state = o.begins _ _ (made_list _ c.args.len all e) }, o.keeps)))))),
    )
