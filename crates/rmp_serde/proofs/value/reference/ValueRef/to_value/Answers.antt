use Rattle.std.proofs.Common.{arith, ◌≡◌, ◌∙◌, sym, ap, ◌-◌, ◌++◌, length, take, drop}
use Rattle.std.proofs.lemmas.List.{length-append, length-drop, length-map}
use Rattle.rmp_decode.specs.Kinds.{content_len}
use Rattle.rmp_serde.specs.Flat.{heads_of, token_in, told_tree}
use Rattle.rmp_serde.specs.Tokens.{tokens}
use Rattle.rmp_serde.specs.declared.value.flat.Nodes.{Nodes}
use Rattle.rmp_serde.proofs.FlatParts.{after_row, parts_same}
use Rattle.rmp_serde.proofs.FlatRows.{span_within}
use Rattle.rmp_serde.proofs.FlatTakes.{takes_drop}
use Rattle.rmp_serde.proofs.PartCopies.{copied, part_long, part_told, parts_there, told_heads, tree_of_heads}
use Rattle.rmp_serde.proofs.value.reference.ValueRef.to_value.Goals as goal

pub past-requires-clause-row : goal.past-requires-clause-row
past-requires-clause-row c = after_row _ _ c.args.self.value.now c.value.invariant c.value.view_is c.args.self.at

pub past-requires-clause-takes : goal.past-requires-clause-takes
past-requires-clause-takes c = takes_drop _ _ c.args.self.at c.value.invariant.takes

pub past-requires-clause-parts : goal.past-requires-clause-parts
past-requires-clause-parts c =
    let m = c.args.self.value.now in
    let at = c.args.self.at in
    let many = parts_same c.node-node.result (told_tree (drop at (tokens m))) c.node-node.ensures.head in
    omega (arith, c.parts.ensures.parts, many, parts_there c.value.inside.root c.value.inside.parts m at c.value.invariant c.value.view_is)

pub add_some-requires-clause-there : goal.add_some-requires-clause-there
add_some-requires-clause-there c = λ i l.
    let at = c.args.self.at in
    let parts = c.value.inside.parts in
    let row = after_row c.value.inside.root parts c.args.self.value.now c.value.invariant c.value.view_is at in
    omega (
      arith,
      l,
      c.past.ensures.place,
      span_within c.parts.result (drop at (heads_of parts)) row,
      length-drop at (heads_of parts),
      length-map parts.nodes.items (token_in parts.bytes.items),
    )

pub from_parts-requires-clause-starts : goal.from_parts-requires-clause-starts
from_parts-requires-clause-starts c =
    let made = c.add_some.new.self in
    let s = c.content.result.now in
    let whole = told_tree (drop c.args.self.at (tokens c.args.self.value.now)) in
    let long : content_len c.head.result ≡ length s = part_long whole c.head.result (c.head.ensures.head ∙ c.node-node.ensures.head)
    ∙ ap length (sym c.content.ensures.content) in
    omega (arith, c.len-start.ensures, made.bytes.ok.0, long, ap length c.in_ok-extend_from_slice.ensures.items, length-append made.bytes.items s)

pub from_parts-requires-clause-told : goal.from_parts-requires-clause-told
from_parts-requires-clause-told c =
    let m = c.args.self.value.now in
    let at = c.args.self.at in
    let parts = c.value.inside.parts in
    let whole = told_tree (drop at (tokens m)) in
    let row = after_row c.value.inside.root parts m c.value.invariant c.value.view_is at in
    let made = c.add_some.new.self in
    let after : Nodes = record { nodes = made.nodes; bytes = c.extend_from_slice.new.self } in
    let s = c.content.result.now in
    let many = c.parts.ensures.parts ∙ parts_same c.node-node.result whole c.node-node.ensures.head in
    let told = c.in_ok-add_some.ensures.ok ∙ ap (λ z. z ++ take (c.past.result - at) (drop at (heads_of parts))) c.new-parts.ensures.none in
    let fits = part_told c.value.inside.root parts m at c.value.invariant c.value.view_is in
    tree_of_heads whole _
    (copied c.value.inside.root parts m at c.value.invariant c.value.view_is made after c.head.result s c.len-start.result c.parts.result c.past.result row
    many c.past.ensures.place told c.in_ok-add_some.ensures.within (λ i. made.nodes.items) c.in_ok-extend_from_slice.ensures.items
    (omega (arith, c.len-start.ensures, made.bytes.ok.0)) (c.head.ensures.head ∙ c.node-node.ensures.head) c.content.ensures.content) fits.0 fits.1

pub returns : goal.returns
returns c =
    let m = c.args.self.value.now in
    let at = c.args.self.at in
    let parts = c.value.inside.parts in
    let whole = told_tree (drop at (tokens m)) in
    let row = after_row c.value.inside.root parts m c.value.invariant c.value.view_is at in
    let made = c.add_some.new.self in
    let after : Nodes = record { nodes = made.nodes; bytes = c.extend_from_slice.new.self } in
    let s = c.content.result.now in
    let many = c.parts.ensures.parts ∙ parts_same c.node-node.result whole c.node-node.ensures.head in
    let told = c.in_ok-add_some.ensures.ok ∙ ap (λ z. z ++ take (c.past.result - at) (drop at (heads_of parts))) c.new-parts.ensures.none in
    record {
      value = c.from_parts.ensures.told ∙ told_heads whole _
          (copied c.value.inside.root parts m at c.value.invariant c.value.view_is made after c.head.result s c.len-start.result c.parts.result
          c.past.result row many c.past.ensures.place told c.in_ok-add_some.ensures.within (λ i. made.nodes.items)
          c.in_ok-extend_from_slice.ensures.items (omega (arith, c.len-start.ensures, made.bytes.ok.0)) (c.head.ensures.head ∙ c.node-node.ensures.head)
          c.content.ensures.content);
    }
