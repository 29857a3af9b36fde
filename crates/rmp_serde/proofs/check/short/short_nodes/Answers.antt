-- Each turn passes over one head and its content.
use Rattle.std.proofs.Common.{arith, ◌≡◌, ◌∙◌, ◌≤◌, ◌+◌, ◌-◌, subst, drop, get_or, length}
use Rattle.rmp_serde.specs.Places.{TakesNodes}
use Rattle.rmp_serde.proofs.Short.{small_more, nodes_more, entry_bounds}
use Rattle.rmp_serde.proofs.check.short.short_nodes.Goals as goal

pub small-preserved : goal.small-preserved
small-preserved c = record {
  nodes = small_more c.args.bytes.now c.small.at c.small.at 0 c.small.invariant.nodes (omega arith) c.if-bytes-at-lt128.true;
  most = omega arith;
}

pub table-preserved : goal.table-preserved
table-preserved c =
    let e = c.entry_of-entry.result in
    let v = c.table.invariant in
    let b = entry_bounds (get_or c.args.bytes.now c.table.at 0) e.added e.least e.size e.parts (omega (arith, c.type_inv.bytes c.table.at))
    c.entry_of-entry.ensures in
    let room : c.table.at + 32 ≤ length c.args.bytes.now = omega arith in
    let nodes = nodes_more c.args.bytes.now c.table.at (c.small.at + (c.min-block.result - c.table.todo)) c.table.parts c.from.result e.added e.least e.size
    e.parts v.nodes room (λ i. omega (arith, c.type_inv.bytes i))
    (c.from.ensures ∙ c.from_be_bytes-next.ensures) c.entry_of-entry.ensures c.if-from-entry.false in
    let count : c.small.at + (c.min-block.result - c.table.todo) + 1 ≡ c.small.at + (c.min-block.result - (c.table.todo - 1)) = omega arith in
    record {
      nodes = subst (λ z. TakesNodes z (c.table.parts + e.parts) c.args.bytes.now (drop (c.table.at + e.size) c.args.bytes.now)) count nodes;
      long = omega (arith, b);
      few = omega (arith, b);
      most = omega arith;
      block = v.block;
    }

pub table-init : goal.table-init
table-init c =
    let none : c.small.at ≡ c.small.at + (c.min-block.result - c.min-block.result) = omega arith in
    record {
      nodes = subst (λ z. TakesNodes z 0 c.args.bytes.now (drop c.small.at c.args.bytes.now)) none c.small.invariant.nodes;
      long = omega arith;
      few = omega arith;
      most = omega arith;
      block = omega arith;
    }

pub overflow_add-parts : goal.overflow_add-parts
overflow_add-parts c =
    let e = c.entry_of-entry.result in
    let b = entry_bounds (get_or c.args.bytes.now c.table.at 0) e.added e.least e.size e.parts (omega (arith, c.type_inv.bytes c.table.at))
    c.entry_of-entry.ensures in
    omega (arith, b)

pub returns-clause-nodes : goal.returns-clause-nodes
returns-clause-nodes c = c.table.invariant.nodes
