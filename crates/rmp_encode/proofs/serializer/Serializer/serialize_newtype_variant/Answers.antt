use Rattle.std.proofs.Common.{arith, length, ◌∷◌, []}
use Rattle.std.specs.Prelude.{Err, Ok}
use Rattle.std.proofs.lemmas.Result.{err_from_is_err_and}
use Rattle.rmp_wire.specs.Msg.{text}
use Rattle.rmp_wire.specs.Spelling.{canon}
use Rattle.rmp_encode.specs.Markers.{value_of}
use Rattle.rmp_encode.specs.Refusals.{AnyLong}
use Rattle.rmp_encode.specs.Trees.{map_head}
use Rattle.rmp_encode.proofs.Leaves.{bytes_from}
use Rattle.rmp_encode.proofs.Promises.{all_begun, none_begun, opened, opening_long, value_written}
use Rattle.rmp_encode.proofs.Refusals.{long_first}
use Rattle.rmp_encode.proofs.Variants.{made_newtype}
use Rattle.rmp_encode.proofs.serializer.Serializer.serialize_newtype_variant.Goals as goal

pub returns-in_err-fits_u32 : goal.returns-in_err-fits_u32
returns-in_err-fits_u32 g c =
    let p = err_from_is_err_and c.from_residual.result c.from_residual.ensures.1 in
    let e = c.in_err-fits_u32.ensures in
    let w = none_begun g.W.Sink g.T.Serialize.takes_memory (λ s. g.T.Serialize.data_of c.args.value.now s.human ∷ [])
    (λ s. value_of s (g.T.Serialize.data_of c.args.value.now s.human) (g.T.Serialize.marks c.args.value.now s) ∷ []) (g.T.Serialize.refuses c.args.value.now ∷ [])
    (g.T.Serialize.is_value c.args.value.now) (made_newtype _ c.args.variant.now _ (bytes_from c.args.variant.now (λ i. omega (arith, c.type_inv.variant i))))
    (λ l. l) (opening_long g.W.Sink {numbers = length c.args.variant.now ∷ []} {first = map_head 1} {items = canon (text c.args.variant.now) ∷ []} c.args.self.now c.in_err-fits_u32.field-0.0 e.refused
    (long_first (length c.args.variant.now) [] e.long) (λ k. let lt = k.0 in omega (arith, lt, e.long))) in
    rw (p.1, p.2) (record {
      writes = w.writes;
      keeps = w.keeps;
      long = λ le. w.refused (λ k. let lt = k.0 in omega (arith, le, lt));
      marker = w.marker;
      error = w.error;
      value = tt;
    })

pub returns-in_err-put_variant : goal.returns-in_err-put_variant
returns-in_err-put_variant g c =
    let p = err_from_is_err_and c.from_residual-in_err-put_variant.result c.from_residual-in_err-put_variant.ensures.1 in
    let w = none_begun g.W.Sink g.T.Serialize.takes_memory (λ s. g.T.Serialize.data_of c.args.value.now s.human ∷ [])
    (λ s. value_of s (g.T.Serialize.data_of c.args.value.now s.human) (g.T.Serialize.marks c.args.value.now s) ∷ []) (g.T.Serialize.refuses c.args.value.now ∷ [])
    (g.T.Serialize.is_value c.args.value.now) (made_newtype _ c.args.variant.now _ (bytes_from c.args.variant.now (λ i. omega (arith, c.type_inv.variant i))))
    (λ l. l) (opened g.W.Sink (length c.args.variant.now ∷ []) (Err _) (c.in_ok-fits_u32.ensures.fits, tt) c.in_err-put_variant.ensures) in
    rw (p.1, p.2) (record {
      writes = w.writes;
      keeps = w.keeps;
      long = λ le. w.refused (λ k. let lt = k.0 in omega (arith, le, lt));
      marker = w.marker;
      error = w.error;
      value = tt;
    })

pub returns : goal.returns
returns g c =
    let e = c.serialize.ensures in
    let w = all_begun g.W.Sink g.T.Serialize.takes_memory {M = AnyLong (length c.args.variant.now ∷ [])} c.serialize.result
    (made_newtype _ c.args.variant.now _ (bytes_from c.args.variant.now (λ i. omega (arith, c.type_inv.variant i)))) (λ l. l)
    (opened g.W.Sink (length c.args.variant.now ∷ []) (Ok _) (c.in_ok-fits_u32.ensures.fits, tt) c.in_ok-put_variant.ensures)
    (value_written g.W.Sink (λ s. g.T.Serialize.data_of c.args.value.now s.human) (g.T.Serialize.marks c.args.value.now) c.put_variant.new.self
    c.serialize.new.se c.serialize.result e.writes e.keeps e.marker e.error e.value) in
    record {
      writes = w.writes;
      keeps = w.keeps;
      long = λ le. w.refused (λ k. let lt = k.0 in omega (arith, le, lt));
      marker = w.marker;
      error = w.error;
      value = w.value;
    }
