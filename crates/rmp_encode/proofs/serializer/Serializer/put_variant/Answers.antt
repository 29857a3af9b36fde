use Rattle.std.proofs.Common.{arith, length, ◌∷◌, []}
use Rattle.std.proofs.lemmas.Result.{err_from_is_err_and}
use Rattle.rmp_wire.specs.Heads.{fits_head}
use Rattle.rmp_wire.specs.Msg.{text}
use Rattle.rmp_wire.specs.Spelling.{canon}
use Rattle.rmp_encode.specs.Going.{head_at}
use Rattle.rmp_encode.proofs.Leaves.{bytes_from}
use Rattle.rmp_encode.proofs.Promises.{items_stop, items_then, one_item, one_message}
use Rattle.rmp_encode.proofs.serializer.Serializer.put_variant.Goals as goal

pub returns-in_err-put_head : goal.returns-in_err-put_head
unfolding head_at
returns-in_err-put_head g c =
    let p = err_from_is_err_and c.from_residual.result c.from_residual.ensures.1 in
    rw (p.1, p.2) (items_stop g.W.Sink (canon (text c.args.name.now) ∷ []) (canon (text c.args.name.now)) (one_item g.W.Sink _ c.in_err-put_head.ensures))

pub returns : goal.returns
unfolding head_at fits_head
returns g c = items_then g.W.Sink c.put_word.result (one_item g.W.Sink _ c.in_ok-put_head.ensures)
    (one_message g.W.Sink (text c.args.name.now) (length c.args.name.now) c.put_word.result
    (c.requires, bytes_from c.args.name.now (λ i. omega (arith, c.type_inv.name i))) c.requires c.put_word.ensures)
