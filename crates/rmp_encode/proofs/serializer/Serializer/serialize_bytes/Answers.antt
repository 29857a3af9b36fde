use Rattle.std.proofs.Common.{arith, length, refl}
use Rattle.std.proofs.lemmas.Result.{err_from_is_err_and}
use Rattle.rmp_wire.specs.Heads.{fits_head}
use Rattle.rmp_wire.specs.Msg.{bin}
use Rattle.rmp_encode.proofs.Leaves.{bytes_from, bin_too_long}
use Rattle.rmp_encode.proofs.Promises.{head_by_wire, message_by_head, message_long}
use Rattle.rmp_encode.proofs.serializer.Serializer.serialize_bytes.Goals as goal

pub returns-in_err-fits_u32 : goal.returns-in_err-fits_u32
returns-in_err-fits_u32 g c =
    let p = err_from_is_err_and c.from_residual.result c.from_residual.ensures.1 in
    let e = c.in_err-fits_u32.ensures in
    let w = message_long g.W.Sink (bin c.args.bytes.now) (length c.args.bytes.now) c.args.self.now c.in_err-fits_u32.field-0.0 e.refused e.long
    (bin_too_long g.W.Sink _ c.args.bytes.now _ _ e.refused e.long) in
    rw (p.1, p.2) (record { writes = w.writes; marker = w.marker; error = w.error; keeps = w.keeps; refused = w.refused; long = w.long })

pub returns : goal.returns
unfolding fits_head
returns g c =
    let fits = c.in_ok-fits_u32.ensures.fits in
    let w = message_by_head g.W.Sink (bin c.args.bytes.now) (length c.args.bytes.now) c.answer.result
    (fits, bytes_from c.args.bytes.now (λ i. omega (arith, c.type_inv.bytes i))) fits
    (head_by_wire g.W.Sink c.write_bin.result c.answer.ensures.is c.answer.ensures.error c.write_bin.ensures.writes
    (record { settings = refl; place = c.write_bin.ensures.place })) in
    record { writes = w.writes; marker = w.marker; error = w.error; keeps = w.keeps; refused = w.refused; long = w.long }
