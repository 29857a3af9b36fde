use Rattle.std.proofs.Common.{arith, length, ◌∷◌, sym, ◌∙◌}
use Rattle.std.specs.Prelude.{Err}
use Rattle.std.proofs.lemmas.Result.{err_from_is_err_and}
use Rattle.std.specs.List.{flat_map}
use Rattle.rmp_encode.specs.Going.{head_at}
use Rattle.rmp_encode.specs.Markers.{items_of, pieces_by}
use Rattle.rmp_encode.specs.Refusals.{lengths}
use Rattle.rmp_encode.specs.Ser.{settings_of}
use Rattle.rmp_encode.specs.Trees.{field_parts, fields_by, variant_items}
use Rattle.rmp_encode.proofs.Fields.{fields_many}
use Rattle.rmp_encode.proofs.Leaves.{bytes_from}
use Rattle.rmp_encode.proofs.Names.{ends_at_long}
use Rattle.rmp_encode.proofs.Promises.{all_begun, as_parts, none_begun}
use Rattle.rmp_encode.proofs.Refusals.{long_after, long_both}
use Rattle.rmp_encode.proofs.Variants.{made_struct_variant}
use Rattle.rmp_encode.proofs.serializer.Serializer.serialize_struct_variant_of.Goals as goal

pub returns-in_err-open_variant : goal.returns-in_err-open_variant
returns-in_err-open_variant g c =
    let p = err_from_is_err_and c.from_residual.result c.from_residual.ensures.1 in
    let small = bytes_from c.args.variant.now (λ i. omega (arith, c.type_inv.variant i)) in
    let many = fields_many c.args.names.now _ _ c.requires (g.E.Elements.counted c.args.elements.now _) in
    let made = made_struct_variant _ c.args.variant.now g.E.Elements.count _ small many in
    let w = none_begun g.W.Sink g.E.Elements.takes_memory (λ s. flat_map (field_parts s.named) (fields_by c.args.names.now (g.E.Elements.parts_of c.args.elements.now s.human)))
    (λ s. pieces_by s.named c.args.names.now (g.E.Elements.pieces c.args.elements.now s)) (g.E.Elements.refusals c.args.elements.now) (g.E.Elements.are_values c.args.elements.now)
    made (long_both (length c.args.variant.now) g.E.Elements.count (lengths c.args.names.now))
    (rw (c.is_named.ensures, c.len.ensures) at c.in_err-open_variant.ensures) in
    let name = ends_at_long g.W.Sink c.args.names.now (g.E.Elements.parts_of c.args.elements.now (settings_of c.args.self.now).human)
    (λ b. items_of (variant_items c.args.variant.now (head_at b g.E.Elements.count))) (g.E.Elements.pieces c.args.elements.now (settings_of c.args.self.now))
    (Err _) (c.requires ∙ sym (g.E.Elements.counted c.args.elements.now _)) made w.writes w.marker in
    rw (p.1, p.2) (record { writes = w.writes; keeps = w.keeps; marker = w.marker; error = w.error; value = w.value; long_name = name; long = λ le. w.refused (λ k. let lt = k.0 in omega (arith, le, lt)); long_count = λ le. w.refused (λ k. let lt = k.1 in omega (arith, le, lt)) })

pub returns : goal.returns
returns g c =
    let small = bytes_from c.args.variant.now (λ i. omega (arith, c.type_inv.variant i)) in
    let many = fields_many c.args.names.now _ _ c.requires (g.E.Elements.counted c.args.elements.now _) in
    let made = made_struct_variant _ c.args.variant.now g.E.Elements.count _ small many in
    let e = c.write_fields.ensures in
    let w = all_begun g.W.Sink g.E.Elements.takes_memory c.write_fields.result made
    (λ h. long_after (length c.args.variant.now) (g.E.Elements.count ∷ lengths c.args.names.now) (long_after g.E.Elements.count (lengths c.args.names.now) h)) (rw (c.is_named.ensures, c.len.ensures) at c.in_ok-open_variant.ensures)
    (as_parts g.W.Sink (λ s. flat_map (field_parts s.named) (fields_by c.args.names.now (g.E.Elements.parts_of c.args.elements.now s.human)))
    (λ s. pieces_by s.named c.args.names.now (g.E.Elements.pieces c.args.elements.now s)) e.writes e.keeps e.marker e.error e.value) in
    let name = ends_at_long g.W.Sink c.args.names.now (g.E.Elements.parts_of c.args.elements.now (settings_of c.args.self.now).human)
    (λ b. items_of (variant_items c.args.variant.now (head_at b g.E.Elements.count))) (g.E.Elements.pieces c.args.elements.now (settings_of c.args.self.now))
    c.write_fields.result (c.requires ∙ sym (g.E.Elements.counted c.args.elements.now _)) made w.writes w.marker in
    record { writes = w.writes; keeps = w.keeps; marker = w.marker; error = w.error; value = w.value; long_name = name; long = λ le. w.refused (λ k. let lt = k.0 in omega (arith, le, lt)); long_count = λ le. w.refused (λ k. let lt = k.1 in omega (arith, le, lt)) }
