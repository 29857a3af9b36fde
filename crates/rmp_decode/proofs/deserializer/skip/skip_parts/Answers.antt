use Rattle.std.proofs.Common.{refl, arith}
use Rattle.rmp_decode.proofs.SkipLoop.{wants_out, wants_none, none_of, wants_leaf, wants_empty, wants_in, wants_leaves, wants_deep, wants_memory, wants_cut}
use Rattle.rmp_decode.proofs.SkipLoop.{wants_unread, falls_then, falls_out, falls_leaf, falls_in, no_room}
use Rattle.rmp_decode.proofs.SkipLaws.{parts_taken, leaf_taken}
use Rattle.rmp_decode.proofs.deserializer.skip.skip_parts.Goals as goal

pub returns-then-de-le1 : goal.returns-then-de-le1
returns-then-de-le1 g c = no_room g.R.Source _ _ c.args.de.now c.requires.failed c.if-de-le1.true

pub parts-preserved-in-Some : goal.parts-preserved-in-Some
parts-preserved-in-Some g c =
    let w = wants_leaves g.R.Source _ _ _ _ _ _ _ c.parts.invariant _ _ c.skip_leaves-wanted.ensures.skipped in
    wants_out g.R.Source _ _ _ _ _ _ _ w c.in-Some.n _ _ c.if-wanted-eq0.true c.in-Some.ensures.items refl

pub parts-smaller-in-Some : goal.parts-smaller-in-Some
parts-smaller-in-Some g c = falls_then _ c.parts.room _ c.parts.wanted c.parts.outer.items c.skip_leaves-wanted.ensures.skipped.fewer
    (falls_out c.parts.room c.skip_leaves-wanted.result c.in-Some.n _ c.parts.outer.items _ c.if-wanted-eq0.true c.in-Some.ensures.items refl)

pub returns-in-None : goal.returns-in-None
returns-in-None g c =
    let w = wants_leaves g.R.Source _ _ _ _ _ _ _ c.parts.invariant _ _ c.skip_leaves-wanted.ensures.skipped in
    wants_none g.R.Source _ _ _ _ _ _ _ w _ c.if-wanted-eq0.true (none_of c.parts.outer.items (omega (arith, c.in-None.ensures.cases.0))) refl

pub returns-then-room-le1 : goal.returns-then-room-le1
returns-then-room-le1 g c =
    let w = wants_leaves g.R.Source _ _ _ _ _ _ _ c.parts.invariant _ _ c.skip_leaves-wanted.ensures.skipped in
    let p = parts_taken g.R.Source _ _ _ c.in-Ok.ensures c.in-Parts.is_map c.in-Parts.n c.in-Parts.is in
    wants_deep g.R.Source _ _ _ _ _ _ _ w _ c.next_part.new.de refl (omega (arith, c.if-wanted-eq0.false)) _ p.begun c.in-Parts.is_map c.in-Parts.n refl c.if-room-le1.true

pub returns-in-Err-push : goal.returns-in-Err-push
returns-in-Err-push g c =
    let w = wants_leaves g.R.Source _ _ _ _ _ _ _ c.parts.invariant _ _ c.skip_leaves-wanted.ensures.skipped in
    let p = parts_taken g.R.Source _ _ _ c.in-Ok.ensures c.in-Parts.is_map c.in-Parts.n c.in-Parts.is in
    wants_memory g.R.Source _ _ _ _ _ _ _ w _ c.next_part.new.de refl (omega (arith, c.if-wanted-eq0.false)) _ p.begun c.in-Parts.is_map c.in-Parts.n refl
    (omega (arith, c.if-inner-gt0.true, c.messages-inner.ensures.same))

pub parts-smaller-then-inner-gt0 : goal.parts-smaller-then-inner-gt0
parts-smaller-then-inner-gt0 g c = falls_then _ c.parts.room _ c.parts.wanted c.parts.outer.items c.skip_leaves-wanted.ensures.skipped.fewer
    (falls_in c.parts.room c.skip_leaves-wanted.result _ _ _ c.parts.outer.items _ (omega (arith, c.if-wanted-eq0.false)) refl refl
    c.messages-inner.ensures.below c.in-Ok-push.ensures.items (omega (arith, c.if-room-le1.false)))

pub parts-preserved-then-inner-gt0 : goal.parts-preserved-then-inner-gt0
parts-preserved-then-inner-gt0 g c =
    let w = wants_leaves g.R.Source _ _ _ _ _ _ _ c.parts.invariant _ _ c.skip_leaves-wanted.ensures.skipped in
    let p = parts_taken g.R.Source _ _ _ c.in-Ok.ensures c.in-Parts.is_map c.in-Parts.n c.in-Parts.is in
    wants_in g.R.Source _ _ _ _ _ _ _ w _ c.next_part.new.de refl (omega (arith, c.if-wanted-eq0.false)) _ p.begun c.in-Parts.is_map c.in-Parts.n _ _ _ _ refl refl refl
    c.messages-inner.ensures.same c.in-Ok-push.ensures.items (omega (arith, c.if-room-le1.false))

pub parts-smaller-else-inner-gt0 : goal.parts-smaller-else-inner-gt0
parts-smaller-else-inner-gt0 g c = falls_then _ c.parts.room _ c.parts.wanted c.parts.outer.items c.skip_leaves-wanted.ensures.skipped.fewer
    (falls_leaf c.parts.room c.skip_leaves-wanted.result _ c.parts.outer.items (omega (arith, c.if-wanted-eq0.false)) refl)

pub parts-preserved-else-inner-gt0 : goal.parts-preserved-else-inner-gt0
parts-preserved-else-inner-gt0 g c =
    let w = wants_leaves g.R.Source _ _ _ _ _ _ _ c.parts.invariant _ _ c.skip_leaves-wanted.ensures.skipped in
    let p = parts_taken g.R.Source _ _ _ c.in-Ok.ensures c.in-Parts.is_map c.in-Parts.n c.in-Parts.is in
    wants_empty g.R.Source _ _ _ _ _ _ _ w _ c.next_part.new.de refl (omega (arith, c.if-wanted-eq0.false)) _ p.begun c.in-Parts.is_map c.in-Parts.n _ refl refl
    (omega (arith, c.if-inner-gt0.false, c.messages-inner.ensures.same)) (omega (arith, c.if-room-le1.false))

-- ---- a leaf

pub parts-smaller : goal.parts-smaller
parts-smaller g c = falls_then _ c.parts.room _ c.parts.wanted c.parts.outer.items c.skip_leaves-wanted.ensures.skipped.fewer
    (falls_leaf c.parts.room c.skip_leaves-wanted.result _ c.parts.outer.items (omega (arith, c.if-wanted-eq0.false)) refl)

pub parts-preserved : goal.parts-preserved
parts-preserved g c =
    let w = wants_leaves g.R.Source _ _ _ _ _ _ _ c.parts.invariant _ _ c.skip_leaves-wanted.ensures.skipped in
    let t = leaf_taken g.R.Source _ _ _ c.in-Ok.ensures c.in-Leaf.len c.in-Leaf.is in
    wants_leaf g.R.Source _ _ _ _ _ _ _ w _ c.next_part.new.de refl (omega (arith, c.if-wanted-eq0.false)) (t.taken.marker, t.head) t.taken.begun c.in-Leaf.len _ _ t.is_leaf
    c.in-Ok-pass_payload.ensures.passes refl

pub returns-in-Err-pass_payload : goal.returns-in-Err-pass_payload
returns-in-Err-pass_payload g c =
    let w = wants_leaves g.R.Source _ _ _ _ _ _ _ c.parts.invariant _ _ c.skip_leaves-wanted.ensures.skipped in
    let t = leaf_taken g.R.Source _ _ _ c.in-Ok.ensures c.in-Leaf.len c.in-Leaf.is in
    wants_cut g.R.Source _ _ _ _ _ _ _ w _ c.next_part.new.de refl (omega (arith, c.if-wanted-eq0.false)) (t.taken.marker, t.head) t.taken.begun c.in-Leaf.len _ _ t.is_leaf
    c.in-Err-pass_payload.ensures.some c.in-Err-pass_payload.ensures.passes

-- ---- no head

pub returns-in-Err : goal.returns-in-Err
returns-in-Err g c =
    let w = wants_leaves g.R.Source _ _ _ _ _ _ _ c.parts.invariant _ _ c.skip_leaves-wanted.ensures.skipped in
    wants_unread g.R.Source _ _ _ _ _ _ _ w _ c.next_part.new.de _ refl (omega (arith, c.if-wanted-eq0.false)) c.in-Err.ensures
