use Rattle.std.proofs.Common.{arith, []}
use Rattle.std.proofs.lemmas.Result.{err_from_is_err_and}
use Rattle.rmp_encode.proofs.Promises.{one_item, opened, opening_long}
use Rattle.rmp_encode.proofs.Refusals.{long_first}
use Rattle.rmp_encode.proofs.serializer.Serializer.put_len.Goals as goal

pub returns-in_err-n : goal.returns-in_err-n
returns-in_err-n g c =
    let p = err_from_is_err_and c.from_residual.result c.from_residual.ensures.1 in
    rw (p.1, p.2) (opening_long g.W.Sink c.args.self.now _ c.in_err-n.ensures.refused (long_first c.args.len [] c.in_err-n.ensures.long)
    (λ lt. omega (arith, lt, c.in_err-n.ensures.long)))

pub returns : goal.returns
returns g c = opened g.W.Sink _ c.put_head.result c.in_ok-n.ensures.fits
    (one_item g.W.Sink c.put_head.result (rw c.in_ok-n.ensures.same at c.put_head.ensures))
