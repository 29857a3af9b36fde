use Rattle.std.proofs.Common.{rules, arith, ◌≡◌, ◌∙◌, subst, ◌<◌, ◌≤◌, length, take, get_or}
use Rattle.std.proofs.lemmas.List.{take_all}
use Rattle.rmp_wire.specs.Msg.{count, msgs}
use Rattle.rmp_wire.proofs.Lists.{count-msgs}
use Rattle.rmp_serde.proofs.Making.{IsRowOf, row_more, items_next, list_tree, list_is}
use Rattle.rmp_serde.proofs.value.Value.from_items.Goals as goal

pub loop-item-preserved : goal.loop-item-preserved
loop-item-preserved c =
    let items = c.args.items.now in
    let i = c.loop-item.item-index in
    let m = c.item-item.result in
    let there : i < length items = search rules in
    let is : m ≡ get_or items i m = search rules in
    subst (IsRowOf c.add_all.new.self) (items_next items i m there is)
    (row_more c.loop-item.parts c.add_all.new.self (msgs (take i items)) m c.item.inside.root c.item.inside.parts c.loop-item.invariant c.item.invariant
    c.item.view_is c.in_ok-add_all.ensures.ok c.in_ok-add_all.ensures.within)

pub from_parts-requires-clause-told : goal.from_parts-requires-clause-told
from_parts-requires-clause-told c =
    let items = c.args.items.now in
    let end : length items ≤ c.loop-item.item-index = search rules in
    let many : c.in_ok-len.len ≡ count (msgs items) = omega (arith, c.in_ok-len.ensures.same, count-msgs items) in
    list_tree c.loop-item.parts c.in_ok-len.len 0 (msgs items)
    (subst (λ z. IsRowOf c.loop-item.parts (msgs z)) (take_all c.loop-item.item-index items end) c.loop-item.invariant) many
    (omega (arith, c.in_ok-len.ensures.same, c.in_ok-len.ensures.fits))

pub returns-clause-value : goal.returns-clause-value
returns-clause-value c =
    let items = c.args.items.now in
    let end : length items ≤ c.loop-item.item-index = search rules in
    let many : c.in_ok-len.len ≡ count (msgs items) = omega (arith, c.in_ok-len.ensures.same, count-msgs items) in
    c.from_parts.ensures.told ∙ list_is c.loop-item.parts c.in_ok-len.len 0 (msgs items)
    (subst (λ z. IsRowOf c.loop-item.parts (msgs z)) (take_all c.loop-item.item-index items end) c.loop-item.invariant) many
