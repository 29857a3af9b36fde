use Rattle.std.proofs.Common.{arith, ◌≡◌, ◌∙◌, ◌<◌, ◌+◌, ap, suc}
use Rattle.rmp_wire.specs.Msg.{count}
use Rattle.rmp_serde.specs.Tokens.{tokens, row_from, past_items}
use Rattle.rmp_serde.proofs.FlatRows.{tree_row}
use Rattle.rmp_serde.proofs.FlatTakes.{takes_drop}
use Rattle.rmp_serde.proofs.FlatParts.{parts_at, after_row, after_many, after_later, one_there}
use Rattle.rmp_serde.proofs.value.reference.ValueRef.part.Goals as goal

pub past-requires-clause-row : goal.past-requires-clause-row
past-requires-clause-row c = after_row _ _ c.args.self.value.now c.value.invariant c.value.view_is c.args.self.at

pub past-requires-clause-takes : goal.past-requires-clause-takes
past-requires-clause-takes c = takes_drop _ _ c.args.self.at c.value.invariant.takes

pub past-requires-clause-parts : goal.past-requires-clause-parts
past-requires-clause-parts c =
    let m = c.args.self.value.now in
    let l : c.args.i < count (row_from m (suc c.args.self.at)) = omega (arith, c.requires.there, parts_at (tokens m) c.args.self.at (tree_row m)) in
    omega (arith, after_many _ _ m c.value.invariant c.value.view_is c.args.self.at c.args.i l)

pub part_at-requires : goal.part_at-requires
part_at-requires c =
    let v = c.args.self in
    let m = v.value.now in
    let l : c.args.i < count (row_from m (suc v.at)) = omega (arith, c.requires.there, parts_at (tokens m) v.at (tree_row m)) in
    let next : suc c.past.result ≡ c.past.result + 1 = omega arith in
    let later : row_from m (suc c.past.result) ≡ past_items c.args.i (row_from m (suc v.at)) =
    ap (row_from m) next ∙ after_later _ _ m c.value.invariant c.value.view_is v.at c.past.result c.args.i c.past.ensures.place in
    record { there = omega (arith, one_there c.args.i (row_from m (suc v.at)) l, ap count later) }

pub returns-clause-part : goal.returns-clause-part
returns-clause-part c =
    let v = c.args.self in
    let m = v.value.now in
    let next : suc c.past.result ≡ c.past.result + 1 = omega arith in
    c.part_at.ensures.part ∙ ap (row_from m) next
    ∙ after_later _ _ m c.value.invariant c.value.view_is v.at c.past.result c.args.i c.past.ensures.place
