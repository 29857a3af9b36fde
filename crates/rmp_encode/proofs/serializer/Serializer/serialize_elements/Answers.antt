use Rattle.std.proofs.Common.{◌∷◌, [], arith}
use Rattle.rmp_encode.specs.Refusals.{AnyLong}
use Rattle.std.proofs.lemmas.Result.{err_from_is_err_and}
use Rattle.rmp_encode.proofs.Lists.{made_list}
use Rattle.rmp_encode.proofs.Promises.{all_begun, as_parts, none_begun}
use Rattle.rmp_encode.proofs.serializer.Serializer.serialize_elements.Goals as goal

pub returns-in_err-put_len : goal.returns-in_err-put_len
returns-in_err-put_len g c =
    let p = err_from_is_err_and c.from_residual.result c.from_residual.ensures.1 in
    let w = none_begun g.W.Sink g.E.Elements.takes_memory (λ s. g.E.Elements.parts_of c.args.elements.now s.human)
    (g.E.Elements.pieces c.args.elements.now) (g.E.Elements.refusals c.args.elements.now) (g.E.Elements.are_values c.args.elements.now)
    (made_list _ g.E.Elements.count _ (g.E.Elements.counted c.args.elements.now _)) (λ l. l)
    (rw c.len.ensures at c.in_err-put_len.ensures) in
    rw (p.1, p.2) (record { writes = w.writes; keeps = w.keeps; marker = w.marker; error = w.error; long = λ le. w.refused (λ lt. omega (arith, le, lt)); value = w.value })

pub returns : goal.returns
returns g c =
    let e = c.write.ensures in
    let w = all_begun g.W.Sink g.E.Elements.takes_memory {M = AnyLong (g.E.Elements.count ∷ [])} c.write.result (made_list _ g.E.Elements.count _ (g.E.Elements.counted c.args.elements.now _))
    absurd (rw c.len.ensures at c.in_ok-put_len.ensures)
    (as_parts g.W.Sink (λ s. g.E.Elements.parts_of c.args.elements.now s.human)
    (g.E.Elements.pieces c.args.elements.now) e.writes e.keeps e.marker e.error e.value) in
    record { writes = w.writes; keeps = w.keeps; marker = w.marker; error = w.error; long = λ le. w.refused (λ lt. omega (arith, le, lt)); value = w.value }
