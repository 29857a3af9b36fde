use Rattle.std.proofs.Common.{arith, ◌≡◌, ◌∙◌, ◌<◌, ◌≤◌, ◌+◌, ap, suc, length}
use Rattle.rmp_wire.specs.Spelling.{head_of}
use Rattle.rmp_serde.specs.Flat.{takes_in}
use Rattle.rmp_serde.specs.Tokens.{first_tree, row_from}
use Rattle.rmp_serde.proofs.FlatParts.{part_there, part_head, part_within, part_past}
use Rattle.rmp_serde.proofs.value.Value.part_at.Goals as goal

pub index-node-requires : goal.index-node-requires
index-node-requires c =
    let nodes = c.self.inside.parts.nodes in
    let there : c.args.i < length nodes.items = part_there _ _ c.args.self.now c.self.invariant c.self.view_is c.args.i c.requires.there in
    omega (arith, there, nodes.ok.0)

pub overflow_add-part : goal.overflow_add-part
overflow_add-part c =
    let nodes = c.self.inside.parts.nodes in
    let there : c.args.i < length nodes.items = part_there _ _ c.args.self.now c.self.invariant c.self.view_is c.args.i c.requires.there in
    omega (arith, there, nodes.ok.0)

pub invariant_of-part : goal.invariant_of-part
invariant_of-part c =
    let next : suc c.args.i ≡ c.args.i + 1 = omega arith in
    record {
      head = part_head _ _ c.args.self.now c.self.invariant c.self.view_is c.args.i c.requires.there c.index-node.result.now c.index-node.ensures
          ∙ ap (λ z. head_of (first_tree (row_from c.args.self.now z))) next;
    }

pub overflow_add-result : goal.overflow_add-result
overflow_add-result c =
    let nodes = c.self.inside.parts.nodes in
    let node = c.index-node.result.now in
    let within : c.args.i + takes_in node ≤ length nodes.items =
    part_within _ _ c.args.self.now c.self.invariant c.self.view_is c.args.i c.requires.there node c.index-node.ensures in
    omega (arith, within, c.takes.ensures.takes, nodes.ok.0)

pub returns-clause-past : goal.returns-clause-past
returns-clause-past c =
    ap (λ z. row_from c.args.self.now (suc (c.args.i + z))) c.takes.ensures.takes
    ∙ part_past _ _ c.args.self.now c.self.invariant c.self.view_is c.args.i c.requires.there c.index-node.result.now c.index-node.ensures
