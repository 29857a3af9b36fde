use Rattle.std.proofs.Common.{rules, arith, ◌∷◌}
use Rattle.std.proofs.lemmas.Result.{err_from_is_err_and}
use Rattle.rmp_serde.proofs.FlatParts.{ends_at}
use Rattle.rmp_serde.proofs.TreeWriting.{tree_of_puts, takes_until, takes_next, starts_in}
use Rattle.rmp_serde.proofs.value.write.write_nodes.Goals as goal

pub returns-in_err-write_node-clause-writes : goal.returns-in_err-write_node-clause-writes
returns-in_err-write_node-clause-writes g c =
    let p = err_from_is_err_and c.from_residual.result c.from_residual.ensures.1 in
    let row = c.args.root ∷ c.args.parts.now.nodes.items in
    rw (p.1, p.2) (takes_until _ row c.loop-at.at _ (omega (arith, c.loop-at-test.true, c.len-at-end.ensures))
    (starts_in row c.loop-at.at _ c.node.result (omega (arith, c.loop-at-test.true, c.len-at-end.ensures)) c.node.ensures.node) c.loop-at.invariant.1
    (tree_of_puts c.in_err-write_node.ensures.writes))

pub loop-at-preserved : goal.loop-at-preserved
loop-at-preserved g c = (
  search rules,
  takes_next _ (c.args.root ∷ c.args.parts.now.nodes.items) c.loop-at.at _ _ c.node.result
      (omega (arith, c.loop-at-test.true, c.len-at-end.ensures)) (omega arith) c.node.ensures.node c.loop-at.invariant.1
      (tree_of_puts c.in_ok-write_node.ensures.writes),
)

pub write_node-requires : goal.write_node-requires
write_node-requires g c = record {
  within = rw c.node.ensures.node (ends_at _ (c.args.root ∷ c.args.parts.now.nodes.items) c.loop-at.at (c.requires.root, c.requires.within));
}
