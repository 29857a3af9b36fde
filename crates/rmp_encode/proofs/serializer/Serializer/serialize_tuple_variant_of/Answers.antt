use Rattle.std.proofs.Common.{arith, length, ◌∷◌, []}
use Rattle.rmp_encode.specs.Refusals.{AnyLong}
use Rattle.std.proofs.lemmas.Result.{err_from_is_err_and}
use Rattle.rmp_encode.proofs.Leaves.{bytes_from}
use Rattle.rmp_encode.proofs.Promises.{all_begun, as_parts, none_begun}
use Rattle.rmp_encode.proofs.Variants.{made_tuple_variant}
use Rattle.rmp_encode.proofs.serializer.Serializer.serialize_tuple_variant_of.Goals as goal

pub returns-in_err-open_variant : goal.returns-in_err-open_variant
returns-in_err-open_variant g c =
    let p = err_from_is_err_and c.from_residual.result c.from_residual.ensures.1 in
    let small = bytes_from c.args.variant.now (λ i. omega (arith, c.type_inv.variant i)) in
    let w = none_begun g.W.Sink g.E.Elements.takes_memory (λ s. g.E.Elements.parts_of c.args.elements.now s.human)
    (g.E.Elements.pieces c.args.elements.now) (g.E.Elements.refusals c.args.elements.now) (g.E.Elements.are_values c.args.elements.now)
    (made_tuple_variant _ c.args.variant.now g.E.Elements.count _ small (g.E.Elements.counted c.args.elements.now _)) (λ l. l)
    (rw c.len.ensures at c.in_err-open_variant.ensures) in
    rw (p.1, p.2) (record { writes = w.writes; keeps = w.keeps; marker = w.marker; error = w.error; value = w.value; long = λ le. w.refused (λ k. let lt = k.0 in omega (arith, le, lt)); long_count = λ le. w.refused (λ k. let lt = k.1 in omega (arith, le, lt)) })

pub returns : goal.returns
returns g c =
    let small = bytes_from c.args.variant.now (λ i. omega (arith, c.type_inv.variant i)) in
    let e = c.write.ensures in
    let w = all_begun g.W.Sink g.E.Elements.takes_memory {M = AnyLong (length c.args.variant.now ∷ g.E.Elements.count ∷ [])} c.write.result (made_tuple_variant _ c.args.variant.now g.E.Elements.count _ small (g.E.Elements.counted c.args.elements.now _))
    absurd (rw c.len.ensures at c.in_ok-open_variant.ensures)
    (as_parts g.W.Sink (λ s. g.E.Elements.parts_of c.args.elements.now s.human)
    (g.E.Elements.pieces c.args.elements.now) e.writes e.keeps e.marker e.error e.value) in
    record { writes = w.writes; keeps = w.keeps; marker = w.marker; error = w.error; value = w.value; long = λ le. w.refused (λ k. let lt = k.0 in omega (arith, le, lt)); long_count = λ le. w.refused (λ k. let lt = k.1 in omega (arith, le, lt)) }
