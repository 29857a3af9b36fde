use Rattle.std.proofs.Common.{arith, ◌≡◌, ◌∙◌, ap, sym}
use Rattle.rmp_wire.specs.Msg.{items_of}
use Rattle.rmp_serde.specs.Parts.{tree, parts_of, row_after}
use Rattle.rmp_serde.specs.Tokens.{tokens, first_items}
use Rattle.rmp_serde.proofs.FlatRows.{tree_row}
use Rattle.rmp_serde.proofs.FlatParts.{parts_same, parts_at, turn_at}
use Rattle.rmp_serde.proofs.value.reference.ValueRef.parts.Goals as goal

pub invariant_of-result : goal.invariant_of-result
invariant_of-result c =
    let v = c.args.self in
    let many : c.parts-left.result ≡ parts_of (tree v) = c.parts-left.ensures.parts ∙ parts_same c.node.result (tree v) c.node.ensures.head in
    record { there = omega (arith, many, parts_at (tokens v.value.now) v.at (tree_row v.value.now)) }

pub returns : goal.returns
returns c =
    let v = c.args.self in
    let many : c.parts-left.result ≡ parts_of (tree v) = c.parts-left.ensures.parts ∙ parts_same c.node.result (tree v) c.node.ensures.head in
    record { parts = ap (λ z. items_of (first_items z (row_after v))) many ∙ sym (turn_at (tokens v.value.now) v.at (tree_row v.value.now)) }
