use Rattle.std.proofs.Common.{sym, ◌∙◌}
use Rattle.std.proofs.lemmas.Bool.{false≢true}
use Rattle.rmp_serde.proofs.Same.{heads_equal, both_same, not_same}
use Rattle.rmp_serde.proofs.value.equal.same.Goals as goal

pub returns-then-same_node : goal.returns-then-same_node
returns-then-same_node c = record {
  same = both_same c.same_node.result c.same_parts.result _ _ _
      (heads_equal c.a.inside.root c.a.inside.parts c.args.a.now c.b.inside.root c.b.inside.parts c.args.b.now c.a.invariant c.a.view_is c.b.invariant
      c.b.view_is)
      c.same_node.ensures.same c.if-same_node.true c.same_parts.ensures.same;
}

pub returns-else-same_node : goal.returns-else-same_node
returns-else-same_node c = record {
  same = not_same c.same_node.result _ _ _
      (heads_equal c.a.inside.root c.a.inside.parts c.args.a.now c.b.inside.root c.b.inside.parts c.args.b.now c.a.invariant c.a.view_is c.b.invariant
      c.b.view_is)
      c.same_node.ensures.same (λ t. false≢true (sym c.if-same_node.false ∙ t));
}
