use Rattle.std.proofs.Common.{arith, sym, ap, subst, ◌∙◌, ◌<◌, Some}
use Rattle.rmp_wire.specs.Msg.{count, depth}
use Rattle.rmp_serde.specs.Parts.{tree}
use Rattle.rmp_serde.specs.Tokens.{tokens, first_tree, past_items}
use Rattle.rmp_serde.proofs.FlatRows.{tree_row}
use Rattle.rmp_serde.proofs.FlatParts.{pair_is, no_pair, value_there}
use Rattle.rmp_serde.proofs.value.reference.ValueRef.pair.Goals as goal

pub next-requires-clause-there : goal.next-requires-clause-there
next-requires-clause-there c =
    let m = c.args.self.value.now in
    omega (
      arith,
      ap count c.part-key.ensures.part,
      value_there (tokens m) c.args.self.at c.in-Map.len c.args.i (tree_row m) (sym c.in-Map.ensures.head)
          c.if-i-len.true,
    )

pub returns-then-i-len-clause-pair : goal.returns-then-i-len-clause-pair
returns-then-i-len-clause-pair c =
    let m = c.args.self.value.now in
    let p = pair_is (tokens m) c.args.self.at c.in-Map.len c.args.i (tree_row m) (sym c.in-Map.ensures.head) c.if-i-len.true in
    ap (λ z. Some (tree c.part-key.result, first_tree z)) c.next.ensures.next
    ∙ ap (λ z. Some (first_tree z, first_tree (past_items 1 z))) c.part-key.ensures.part ∙ sym p.0

pub returns-then-i-len-clause-smaller_key : goal.returns-then-i-len-clause-smaller_key
returns-then-i-len-clause-smaller_key c =
    let m = c.args.self.value.now in
    let p = pair_is (tokens m) c.args.self.at c.in-Map.len c.args.i (tree_row m) (sym c.in-Map.ensures.head) c.if-i-len.true in
    subst (λ z. depth (first_tree z) < depth (tree c.args.self)) (sym c.part-key.ensures.part) p.1

pub returns-then-i-len-clause-smaller_value : goal.returns-then-i-len-clause-smaller_value
returns-then-i-len-clause-smaller_value c =
    let m = c.args.self.value.now in
    let p = pair_is (tokens m) c.args.self.at c.in-Map.len c.args.i (tree_row m) (sym c.in-Map.ensures.head) c.if-i-len.true in
    subst (λ z. depth (first_tree z) < depth (tree c.args.self)) (sym (c.next.ensures.next ∙ ap (past_items 1) c.part-key.ensures.part)) p.2

pub returns-else-i-len-clause-pair : goal.returns-else-i-len-clause-pair
returns-else-i-len-clause-pair c =
    let m = c.args.self.value.now in
    sym (no_pair (tokens m) c.args.self.at c.in-Map.len c.args.i (tree_row m) (sym c.in-Map.ensures.head) (omega (arith, c.if-i-len.false)))
