use Rattle.std.proofs.Common.{arith, length, ◌∷◌, []}
use Rattle.std.proofs.lemmas.Result.{err_from_is_err_and}
use Rattle.rmp_encode.specs.Going.{head_at}
use Rattle.rmp_encode.proofs.Promises.{items_stop, items_then, one_item, opened, opening_long}
use Rattle.rmp_encode.proofs.Refusals.{long_after, long_first}
use Rattle.rmp_encode.proofs.serializer.Serializer.open_variant.Goals as goal

pub returns-in_err-count : goal.returns-in_err-count
returns-in_err-count g c =
    let p = err_from_is_err_and c.from_residual.result c.from_residual.ensures.1 in
    rw (p.1, p.2) (opening_long g.W.Sink c.args.self.now _ c.in_err-count.ensures.refused
    (long_after (length c.args.variant.now) (c.args.len ∷ []) (long_first c.args.len [] c.in_err-count.ensures.long))
    (λ k. let lt = k.1 in omega (arith, lt, c.in_err-count.ensures.long)))

pub returns-in_err-fits_u32 : goal.returns-in_err-fits_u32
returns-in_err-fits_u32 g c =
    let p = err_from_is_err_and c.from_residual-in_err-fits_u32.result c.from_residual-in_err-fits_u32.ensures.1 in
    rw (p.1, p.2) (opening_long g.W.Sink c.args.self.now _ c.in_err-fits_u32.ensures.refused
    (long_first (length c.args.variant.now) (c.args.len ∷ []) c.in_err-fits_u32.ensures.long)
    (λ k. let lt = k.0 in omega (arith, lt, c.in_err-fits_u32.ensures.long)))

pub returns-in_err-put_variant : goal.returns-in_err-put_variant
returns-in_err-put_variant g c =
    let p = err_from_is_err_and c.from_residual-in_err-put_variant.result c.from_residual-in_err-put_variant.ensures.1 in
    rw (p.1, p.2) (opened g.W.Sink _ _ (c.in_ok-fits_u32.ensures.fits, c.in_ok-count.ensures.fits)
    (items_stop g.W.Sink (head_at c.args.pairs c.args.len ∷ []) (head_at c.args.pairs c.args.len) c.in_err-put_variant.ensures))

pub returns : goal.returns
returns g c = opened g.W.Sink _ c.put_head.result (c.in_ok-fits_u32.ensures.fits, c.in_ok-count.ensures.fits)
    (items_then g.W.Sink c.put_head.result c.in_ok-put_variant.ensures
    (one_item g.W.Sink c.put_head.result (rw c.in_ok-count.ensures.same at c.put_head.ensures)))
