use Rattle.std.proofs.Common.{arith, sym, ap, subst, ◌∙◌, ◌<◌, Some}
use Rattle.rmp_wire.specs.Msg.{depth}
use Rattle.rmp_serde.specs.Parts.{tree}
use Rattle.rmp_serde.specs.Tokens.{tokens, first_tree}
use Rattle.rmp_serde.proofs.FlatRows.{tree_row}
use Rattle.rmp_serde.proofs.FlatParts.{item_is, no_item}
use Rattle.rmp_serde.proofs.value.reference.ValueRef.item.Goals as goal

pub returns-then-i-len-clause-item : goal.returns-then-i-len-clause-item
returns-then-i-len-clause-item c =
    let m = c.args.self.value.now in
    let p = item_is (tokens m) c.args.self.at c.in-List.len c.args.i (tree_row m) (sym c.in-List.ensures.head) c.if-i-len.true in
    ap (λ z. Some (first_tree z)) c.part.ensures.part ∙ sym p.0

pub returns-then-i-len-clause-smaller : goal.returns-then-i-len-clause-smaller
returns-then-i-len-clause-smaller c =
    let m = c.args.self.value.now in
    let p = item_is (tokens m) c.args.self.at c.in-List.len c.args.i (tree_row m) (sym c.in-List.ensures.head) c.if-i-len.true in
    subst (λ z. depth (first_tree z) < depth (tree c.args.self)) (sym c.part.ensures.part) p.1

pub returns-else-i-len-clause-item : goal.returns-else-i-len-clause-item
returns-else-i-len-clause-item c =
    let m = c.args.self.value.now in
    sym (no_item (tokens m) c.args.self.at c.in-List.len c.args.i (tree_row m) (sym c.in-List.ensures.head) (omega (arith, c.if-i-len.false)))
