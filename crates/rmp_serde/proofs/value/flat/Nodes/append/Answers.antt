use Rattle.std.proofs.Common.{◌≡◌, ◌∙◌, ap, arith, ◌≤◌, ◌+◌, ◌-◌, ◌++◌, ◌∷◌, [], suc, length, length-append}
use Rattle.rmp_serde.specs.Flat.{takes_then}
use Rattle.rmp_serde.specs.Pushing.{moved}
use Rattle.rmp_serde.proofs.FlatMade.{all_later}
use Rattle.rmp_serde.proofs.Pushing.{append_more, begins, new_nodes}
use Rattle.rmp_serde.proofs.value.flat.Nodes.append.Goals as goal

pub push_moved-requires-clause-room : goal.push_moved-requires-clause-room
push_moved-requires-clause-room c =
    let bytes = c.item.inside.parts.bytes in
    let all = c.extend_from_slice.new.self in
    let fits : length bytes.items ≤ 18446744073709551615 - c.len-by.result =
    omega (arith, c.len-by.ensures, c.in_ok-extend_from_slice.ensures.len, c.as_slice.ensures.len, bytes.ok.0, all.ok.1, all.small) in
    all_later (c.taking.result ∷ []) (length bytes.items) (18446744073709551615 - c.len-by.result) fits
    (c.taking.ensures.within (length bytes.items) c.item.invariant.root_within, tt)

pub push_moved-requires-2-clause-room : goal.push_moved-requires-2-clause-room
push_moved-requires-2-clause-room c =
    let bytes = c.item.inside.parts.bytes in
    let all = c.extend_from_slice.new.self in
    let fits : length bytes.items ≤ 18446744073709551615 - c.len-by.result =
    omega (arith, c.len-by.ensures, c.in_ok-extend_from_slice.ensures.len, c.as_slice.ensures.len, bytes.ok.0, all.ok.1, all.small) in
    rw c.as_slice-2.ensures.value
    (all_later c.item.inside.parts.nodes.items (length bytes.items) (18446744073709551615 - c.len-by.result) fits c.item.invariant.within)

pub push_moved-requires-2-clause-space : goal.push_moved-requires-2-clause-space
push_moved-requires-2-clause-space c =
    let first = c.reserve.new.self.items in
    let made = c.push_moved.new.self.nodes in
    let node = moved c.len-by.result c.taking.result in
    omega (
      arith,
      made.ok.0,
      ap length c.push_moved.ensures.nodes,
      length-append first (node ∷ []),
      c.push_moved.ensures.capacity,
      c.in_ok-reserve.ensures.ok,
      c.reserve.new.self.ok.0,
      c.len-count.ensures,
      c.as_slice-2.ensures.len,
    )

pub returns-clause-ok : goal.returns-clause-ok
returns-clause-ok c = λ ms o.
    let root = c.item.inside.root in
    let parts = c.item.inside.parts in
    let count : 1 + c.len-count.result ≡ suc (length parts.nodes.items) = omega (arith, c.len-count.ensures, parts.nodes.ok.0) in
    let place : c.len-by.result ≡ length c.args.self.now.bytes.items = omega (arith, c.len-by.ensures, c.args.self.now.bytes.ok.0) in
    append_more c.args.self.now c.push_moved-2.new.self ms c.args.item.now root c.taking.result parts o c.item.invariant c.item.view_is
    (record {
      head = c.taking.ensures.head;
      content = c.taking.ensures.content;
      within = c.taking.ensures.within;
      takes = c.taking.ensures.takes ∙ ap (λ z. takes_then z root) count;
    })
    (new_nodes _ _ _ _ _ _ _ _ _ place c.in_ok-reserve.ensures.items c.push_moved.ensures.nodes
    c.push_moved-2.ensures.nodes c.as_slice-2.ensures.value)
    (ap (λ z. z.items) (c.push_moved-2.ensures.bytes ∙ c.push_moved.ensures.bytes) ∙ c.in_ok-extend_from_slice.ensures.items
    ∙ ap (λ z. c.args.self.now.bytes.items ++ z) c.as_slice.ensures.value)

pub returns-clause-front : goal.returns-clause-front
returns-clause-front c =
    let place : c.len-by.result ≡ length c.args.self.now.bytes.items = omega (arith, c.len-by.ensures, c.args.self.now.bytes.ok.0) in
    begins c.args.self.now c.push_moved-2.new.self _ _
    (new_nodes _ _ _ _ _ _ _ _ _ place c.in_ok-reserve.ensures.items c.push_moved.ensures.nodes
    c.push_moved-2.ensures.nodes c.as_slice-2.ensures.value)
    (ap (λ z. z.items) (c.push_moved-2.ensures.bytes ∙ c.push_moved.ensures.bytes) ∙ c.in_ok-extend_from_slice.ensures.items
    ∙ ap (λ z. c.args.self.now.bytes.items ++ z) c.as_slice.ensures.value)
