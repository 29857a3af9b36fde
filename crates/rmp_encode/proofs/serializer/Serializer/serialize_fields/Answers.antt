use Rattle.std.proofs.Common.{arith, ◌∷◌, [], sym, ◌∙◌}
use Rattle.std.specs.Prelude.{Err}
use Rattle.std.proofs.lemmas.Result.{err_from_is_err_and}
use Rattle.std.specs.List.{flat_map}
use Rattle.rmp_encode.specs.Going.{head_at}
use Rattle.rmp_encode.specs.Markers.{items_of, pieces_by}
use Rattle.rmp_encode.specs.Refusals.{lengths}
use Rattle.rmp_encode.specs.Ser.{settings_of}
use Rattle.rmp_encode.specs.Trees.{field_parts, fields_by}
use Rattle.rmp_encode.proofs.Fields.{fields_many, made_struct}
use Rattle.rmp_encode.proofs.Names.{ends_at_long}
use Rattle.rmp_encode.proofs.Promises.{all_begun, as_parts, none_begun}
use Rattle.rmp_encode.proofs.Refusals.{long_after, long_alone, long_first}
use Rattle.rmp_encode.proofs.serializer.Serializer.serialize_fields.Goals as goal

pub returns-in_err-put_len : goal.returns-in_err-put_len
returns-in_err-put_len g c =
    let p = err_from_is_err_and c.from_residual.result c.from_residual.ensures.1 in
    let made = made_struct _ g.E.Elements.count _ (fields_many c.args.names.now _ _ c.requires (g.E.Elements.counted c.args.elements.now _)) in
    let w = none_begun g.W.Sink g.E.Elements.takes_memory (λ s. flat_map (field_parts s.named) (fields_by c.args.names.now (g.E.Elements.parts_of c.args.elements.now s.human)))
    (λ s. pieces_by s.named c.args.names.now (g.E.Elements.pieces c.args.elements.now s)) (g.E.Elements.refusals c.args.elements.now) (g.E.Elements.are_values c.args.elements.now)
    made (λ h. long_first g.E.Elements.count (lengths c.args.names.now) (long_alone g.E.Elements.count h))
    (rw (c.is_named.ensures, c.len.ensures) at c.in_err-put_len.ensures) in
    let name = ends_at_long g.W.Sink c.args.names.now (g.E.Elements.parts_of c.args.elements.now (settings_of c.args.self.now).human)
    (λ b. items_of (head_at b g.E.Elements.count ∷ [])) (g.E.Elements.pieces c.args.elements.now (settings_of c.args.self.now))
    (Err _) (c.requires ∙ sym (g.E.Elements.counted c.args.elements.now _)) made w.writes w.marker in
    rw (p.1, p.2) (record { writes = w.writes; keeps = w.keeps; marker = w.marker; error = w.error; long = λ le. w.refused (λ lt. omega (arith, le, lt)); long_name = name; value = w.value })

pub returns : goal.returns
returns g c =
    let e = c.write_fields.ensures in
    let made = made_struct _ g.E.Elements.count _ (fields_many c.args.names.now _ _ c.requires (g.E.Elements.counted c.args.elements.now _)) in
    let w = all_begun g.W.Sink g.E.Elements.takes_memory c.write_fields.result made
    (long_after g.E.Elements.count (lengths c.args.names.now)) (rw (c.is_named.ensures, c.len.ensures) at c.in_ok-put_len.ensures)
    (as_parts g.W.Sink (λ s. flat_map (field_parts s.named) (fields_by c.args.names.now (g.E.Elements.parts_of c.args.elements.now s.human)))
    (λ s. pieces_by s.named c.args.names.now (g.E.Elements.pieces c.args.elements.now s)) e.writes e.keeps e.marker e.error e.value) in
    let name = ends_at_long g.W.Sink c.args.names.now (g.E.Elements.parts_of c.args.elements.now (settings_of c.args.self.now).human)
    (λ b. items_of (head_at b g.E.Elements.count ∷ [])) (g.E.Elements.pieces c.args.elements.now (settings_of c.args.self.now))
    c.write_fields.result (c.requires ∙ sym (g.E.Elements.counted c.args.elements.now _)) made w.writes w.marker in
    record { writes = w.writes; keeps = w.keeps; marker = w.marker; error = w.error; long = λ le. w.refused (λ lt. omega (arith, le, lt)); long_name = name; value = w.value }
