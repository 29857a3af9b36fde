use Rattle.std.proofs.Common.{arith, drop, length, take, ◌-◌}
use Rattle.std.specs.List.{flat_map}
use Rattle.std.proofs.lemmas.Result.{err_from_is_err_and}
use Rattle.rmp_encode.specs.Markers.{pieces_by, value_of}
use Rattle.rmp_encode.specs.Trees.{field_parts, fields_by}
use Rattle.rmp_encode.proofs.Promises.{as_parts, named_stop, named_then}
use Rattle.rmp_encode.proofs.elements.rows.write_fields_then.Goals as goal

pub returns-in_err-put_field : goal.returns-in_err-put_field
returns-in_err-put_field g c =
    let p = err_from_is_err_and c.from_residual.result c.from_residual.ensures.1 in
    rw (p.1, p.2) (named_stop g.W.Sink g.E.Serialize.takes_memory g.R.Elements.takes_memory (λ s. g.E.Serialize.data_of c.args.first.now s.human)
    (λ s. value_of s (g.E.Serialize.data_of c.args.first.now s.human) (g.E.Serialize.marks c.args.first.now s))
    (λ s. g.R.Elements.parts_of c.args.rest.now s.human) (g.R.Elements.pieces c.args.rest.now) (g.R.Elements.refusals c.args.rest.now)
    (g.R.Elements.are_values c.args.rest.now) c.args.names.now _ (omega (arith, c.requires)) c.in_err-put_field.ensures.parts)

pub returns : goal.returns
returns g c =
    let f = c.write_fields.ensures in
    let names = take (length c.args.names.now - 1) (drop 1 c.args.names.now) in
    named_then g.W.Sink g.E.Serialize.takes_memory g.R.Elements.takes_memory (λ s. g.E.Serialize.data_of c.args.first.now s.human)
    (λ s. value_of s (g.E.Serialize.data_of c.args.first.now s.human) (g.E.Serialize.marks c.args.first.now s))
    (λ s. g.R.Elements.parts_of c.args.rest.now s.human) (g.R.Elements.pieces c.args.rest.now) c.args.names.now _ c.write_fields.result (omega (arith, c.requires)) c.in_ok-put_field.ensures.parts
    (as_parts g.W.Sink (λ s. flat_map (field_parts s.named) (fields_by names (g.R.Elements.parts_of c.args.rest.now s.human)))
    (λ s. pieces_by s.named names (g.R.Elements.pieces c.args.rest.now s)) f.writes f.keeps f.marker f.error f.value)
