use Rattle.std.proofs.Common.{rules, ◌≡◌, ◌∙◌, sym, ap, subst, ◌<◌, ◌+◌, ◌-◌, arith, ◌∷◌, length, drop, get_or}
use Rattle.std.proofs.lemmas.List.{length-set}
use Rattle.rmp_wire.specs.Msg.{count}
use Rattle.rmp_serde.specs.Flat.{heads_of, heads_in, span, IsRow, AllTake}
use Rattle.rmp_serde.specs.Tokens.{built}
use Rattle.rmp_serde.proofs.FlatRows.{row_drop}
use Rattle.rmp_serde.proofs.FlatTakes.{from_place, parts_after, heads_drop, heads_set, within_set, settled, settled_leaf}
use Rattle.rmp_serde.proofs.value.flat.Nodes.settle.Goals as goal

pub past-end-requires-clause-row : goal.past-end-requires-clause-row
past-end-requires-clause-row c =
    row_drop (c.loop-at.at - 1 + 1) (heads_of c.loop-at.self) (subst IsRow (sym c.loop-at.invariant.heads) c.requires.row)

pub past-end-requires-clause-parts : goal.past-end-requires-clause-parts
past-end-requires-clause-parts c =
    let row = c.loop-at.self.nodes.items in
    let b = c.loop-at.self.bytes.items in
    let at = c.loop-at.at - 1 in
    let node = c.index-node.result.now in
    let l : at < length row = omega (arith, c.loop-at-test.true, c.loop-at.invariant.there) in
    let g : node ≡ get_or row at node = search rules in
    let r : IsRow (heads_in b row) = subst IsRow (sym c.loop-at.invariant.heads) c.requires.row in
    let here : IsRow (heads_in b (node ∷ drop (at + 1) row)) = subst IsRow (from_place b row at node l g) (row_drop at (heads_in b row) r) in
    omega (arith, c.parts.ensures.parts, parts_after b node (drop (at + 1) row) here, ap (λ z. count (built z)) (heads_drop b row (at + 1)))

pub loop-at-preserved-then-is_leaf : goal.loop-at-preserved-then-is_leaf
loop-at-preserved-then-is_leaf c =
    let row = c.loop-at.self.nodes.items in
    let b = c.loop-at.self.bytes.items in
    let at = c.loop-at.at - 1 in
    let node = c.index-node.result.now in
    let l : at < length row = omega (arith, c.loop-at-test.true, c.loop-at.invariant.there) in
    let g : node ≡ get_or row at node = search rules in
    let r : IsRow (heads_in b row) = subst IsRow (sym c.loop-at.invariant.heads) c.requires.row in
    let next : c.loop-at.at ≡ at + 1 = omega (arith, c.loop-at-test.true) in
    record {
      heads = c.loop-at.invariant.heads;
      bytes = c.loop-at.invariant.bytes;
      takes = settled_leaf b row at node l g r (subst (λ z. AllTake b (drop z row)) next c.loop-at.invariant.takes)
          (sym c.is_leaf.ensures.leaf ∙ c.if-is_leaf.true);
      within = c.loop-at.invariant.within;
      there = omega (arith, l);
    }

pub loop-at-preserved : goal.loop-at-preserved
loop-at-preserved c =
    let row = c.loop-at.self.nodes.items in
    let b = c.loop-at.self.bytes.items in
    let at = c.loop-at.at - 1 in
    let node = c.index-node.result.now in
    let node' = c.taking.result in
    let l : at < length row = omega (arith, c.loop-at-test.true, c.loop-at.invariant.there) in
    let g : node ≡ get_or row at node = search rules in
    let r : IsRow (heads_in b row) = subst IsRow (sym c.loop-at.invariant.heads) c.requires.row in
    let next : c.loop-at.at ≡ at + 1 = omega (arith, c.loop-at-test.true) in
    record {
      heads = heads_set b row at node node' g c.taking.ensures.head (c.taking.ensures.content b) ∙ c.loop-at.invariant.heads;
      bytes = c.loop-at.invariant.bytes;
      takes = settled b row at c.past-end.result node node' l g r (subst (λ z. AllTake b (drop z row)) next c.loop-at.invariant.takes)
          (c.past-end.ensures.place ∙ ap (λ z. at + 1 + span z (drop (at + 1) (heads_in b row))) c.parts.ensures.parts) c.taking.ensures.head
          (c.taking.ensures.content b) c.taking.ensures.takes;
      within = within_set (length b) row at node node' g (c.taking.ensures.within (length b)) c.loop-at.invariant.within;
      there = omega (arith, l, length-set row at node');
    }
