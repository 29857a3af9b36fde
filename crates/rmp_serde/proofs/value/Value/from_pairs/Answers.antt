use Rattle.std.proofs.Common.{rules, arith, ◌≡◌, ◌∙◌, subst, ◌<◌, ◌≤◌, length, take, get_or}
use Rattle.std.proofs.lemmas.List.{take_all}
use Rattle.rmp_wire.specs.Msg.{count_pairs, pairs}
use Rattle.rmp_wire.proofs.Lists.{count_pairs-pairs}
use Rattle.rmp_decode.proofs.Rows.{push}
use Rattle.rmp_serde.specs.Tokens.{flat_pairs}
use Rattle.rmp_serde.proofs.Making.{IsRowOf, row_more, pairs_next, map_tree, map_is}
use Rattle.rmp_serde.proofs.value.Value.from_pairs.Goals as goal

pub loop-key-preserved : goal.loop-key-preserved
loop-key-preserved c =
    let entries = c.args.entries.now in
    let i = c.loop-key.key-index in
    let p = c.loop-key-item.result in
    let there : i < length entries = search rules in
    let is : p ≡ get_or entries i p = search rules in
    let before = flat_pairs (pairs (take i entries)) in
    let key : IsRowOf c.add_all.new.self (push before p.0) = row_more c.loop-key.parts c.add_all.new.self before p.0 c.key.inside.root c.key.inside.parts
    c.loop-key.invariant c.key.invariant c.key.view_is c.in_ok-add_all.ensures.ok c.in_ok-add_all.ensures.within in
    subst (IsRowOf c.add_all-in-loop-key.new.self) (pairs_next entries i p there is)
    (row_more c.add_all.new.self c.add_all-in-loop-key.new.self (push before p.0) p.1 c.value.inside.root c.value.inside.parts key c.value.invariant
    c.value.view_is c.in_ok-add_all-2.ensures.ok c.in_ok-add_all-2.ensures.within)

pub from_parts-requires-clause-told : goal.from_parts-requires-clause-told
from_parts-requires-clause-told c =
    let entries = c.args.entries.now in
    let end : length entries ≤ c.loop-key.key-index = search rules in
    let many : c.in_ok-len.len ≡ count_pairs (pairs entries) = omega (arith, c.in_ok-len.ensures.same, count_pairs-pairs entries) in
    map_tree c.loop-key.parts c.in_ok-len.len 0 (pairs entries)
    (subst (λ z. IsRowOf c.loop-key.parts (flat_pairs (pairs z))) (take_all c.loop-key.key-index entries end) c.loop-key.invariant) many
    (omega (arith, c.in_ok-len.ensures.same, c.in_ok-len.ensures.fits))

pub returns-clause-value : goal.returns-clause-value
returns-clause-value c =
    let entries = c.args.entries.now in
    let end : length entries ≤ c.loop-key.key-index = search rules in
    let many : c.in_ok-len.len ≡ count_pairs (pairs entries) = omega (arith, c.in_ok-len.ensures.same, count_pairs-pairs entries) in
    c.from_parts.ensures.told ∙ map_is c.loop-key.parts c.in_ok-len.len 0 (pairs entries)
    (subst (λ z. IsRowOf c.loop-key.parts (flat_pairs (pairs z))) (take_all c.loop-key.key-index entries end) c.loop-key.invariant) many
