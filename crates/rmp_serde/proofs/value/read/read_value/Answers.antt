use Rattle.std.proofs.Common.{arith, ap, length}
use Rattle.std.proofs.lemmas.List.{length-append}
use Rattle.rmp_serde.specs.Flat.{heads_of}
use Rattle.rmp_serde.proofs.ReadLoop.{fits_as}
use Rattle.rmp_serde.proofs.ReadTop.{
  bare_len,
  is_tree,
  tree_law,
  leaf_read,
  leaf_unread,
  leaf_wrong,
  deep_unread,
  deep_wrong,
  nest_read,
  nest_unread,
  nest_wrong,
  none_wrong,
}
use Rattle.rmp_decode.proofs.Laws.{refused_none}
use Rattle.rmp_decode.specs.State.{failed_of}
use Rattle.rmp_decode.proofs.Faults.{head_tells, tells_after}
use Rattle.rmp_serde.proofs.ValueFaults.{leaf_tells}
use Rattle.rmp_decode.proofs.Exactness.{none_told}
use Rattle.rmp_serde.proofs.value.read.read_value.Goals as goal

pub returns-then-room-le1-clause-law : goal.returns-then-room-le1-clause-law
returns-then-room-le1-clause-law g c = rw c.refuse.ensures.failed
    (deep_unread g.R.Source c.args.de.now c.deserialize_head.new.self (c.in-Ok.ensures.ok.marker, c.in-Ok.head) c.in-Ok.ensures.ok.begun
    c.in-Some.is_map c.in-Some.n c.in-Some.ensures _ (omega (arith, c.room.ensures, c.if-room-le1.true)))

pub returns-then-room-le1-clause-refusal : goal.returns-then-room-le1-clause-refusal
returns-then-room-le1-clause-refusal g c = rw (c.refuse.ensures.failed, c.refuse.ensures.same)
    (deep_wrong g.R.Source c.args.de.now c.deserialize_head.new.self (c.in-Ok.ensures.ok.marker, c.in-Ok.head) c.in-Ok.ensures.ok.begun
    c.in-Some.is_map c.in-Some.n c.in-Some.ensures (omega (arith, c.room.ensures, c.if-room-le1.true)))

pub from_parts-requires-clause-fits : goal.from_parts-requires-clause-fits
from_parts-requires-clause-fits g c = fits_as c.args.de.now.strict c.in-Ok.head _ c.in-Ok.ensures.ok.begun.ok.is_head

pub from_parts-requires-clause-told : goal.from_parts-requires-clause-told
from_parts-requires-clause-told g c = is_tree g.R.Source c.args.de.now c.read_parts.new.de _
    (nest_read g.R.Source c.args.de.now c.deserialize_head.new.self (c.in-Ok.ensures.ok.marker, c.in-Ok.head) c.in-Ok.ensures.ok.begun
    c.in-Some.is_map c.in-Some.n c.in-Some.ensures c.read_parts.new.de _ _ c.read_parts.new.made.bytes.items
    (omega (arith, c.room.ensures, c.if-room-le1.false)) (rw (← c.messages.ensures.same) c.in-Ok-read_parts.ensures.law) c.new-made.ensures.none)

pub from_parts-requires-in-Ok-read_content-clause-fits : goal.from_parts-requires-in-Ok-read_content-clause-fits
from_parts-requires-in-Ok-read_content-clause-fits g c = fits_as c.args.de.now.strict c.in-Ok.head _ c.in-Ok.ensures.ok.begun.ok.is_head

pub from_parts-requires-in-Ok-read_content-clause-told : goal.from_parts-requires-in-Ok-read_content-clause-told
from_parts-requires-in-Ok-read_content-clause-told g c = is_tree g.R.Source c.args.de.now c.read_content.new.de _
    (leaf_read g.R.Source c.args.de.now c.deserialize_head.new.self (c.in-Ok.ensures.ok.marker, c.in-Ok.head) c.in-Ok.ensures.ok.begun
    c.read_content.new.de c.new-made.result.bytes.items c.read_content.new.bytes.items c.new-made.result.nodes.items c.in-None.ensures
    c.in-Ok-read_content.ensures.ok c.new-made.ensures.empty c.new-made.ensures.none)

pub returns-in-Ok-read_parts-clause-law : goal.returns-in-Ok-read_parts-clause-law
returns-in-Ok-read_parts-clause-law g c = tree_law g.R.Source c.args.de.now c.read_parts.new.de _
    (nest_read g.R.Source c.args.de.now c.deserialize_head.new.self (c.in-Ok.ensures.ok.marker, c.in-Ok.head) c.in-Ok.ensures.ok.begun
    c.in-Some.is_map c.in-Some.n c.in-Some.ensures c.read_parts.new.de _ _ c.read_parts.new.made.bytes.items
    (omega (arith, c.room.ensures, c.if-room-le1.false)) (rw (← c.messages.ensures.same) c.in-Ok-read_parts.ensures.law) c.new-made.ensures.none) _
    c.from_parts.ensures.told

pub returns-in-Err-read_parts-clause-law : goal.returns-in-Err-read_parts-clause-law
returns-in-Err-read_parts-clause-law g c =
    nest_unread g.R.Source c.args.de.now c.deserialize_head.new.self (c.in-Ok.ensures.ok.marker, c.in-Ok.head) c.in-Ok.ensures.ok.begun
    c.in-Some.is_map c.in-Some.n c.in-Some.ensures c.read_parts.new.de c.in-Err-read_parts.e (heads_of c.new-made.result)
    (heads_of c.read_parts.new.made)
    (omega (arith, c.room.ensures, c.if-room-le1.false)) (rw (← c.messages.ensures.same) c.in-Err-read_parts.ensures.law)

pub returns-in-Err-read_parts-clause-refusal : goal.returns-in-Err-read_parts-clause-refusal
returns-in-Err-read_parts-clause-refusal g c =
    nest_wrong g.R.Source c.args.de.now c.deserialize_head.new.self (c.in-Ok.ensures.ok.marker, c.in-Ok.head) c.in-Ok.ensures.ok.begun
    c.in-Some.is_map c.in-Some.n c.in-Some.ensures c.read_parts.new.de c.in-Err-read_parts.e
    (omega (arith, c.room.ensures, c.if-room-le1.false)) (rw (← c.messages.ensures.same) c.in-Err-read_parts.ensures.refusal)

pub returns-in-Ok-read_content-clause-law : goal.returns-in-Ok-read_content-clause-law
returns-in-Ok-read_content-clause-law g c = tree_law g.R.Source c.args.de.now c.read_content.new.de _
    (leaf_read g.R.Source c.args.de.now c.deserialize_head.new.self (c.in-Ok.ensures.ok.marker, c.in-Ok.head) c.in-Ok.ensures.ok.begun
    c.read_content.new.de c.new-made.result.bytes.items c.read_content.new.bytes.items c.new-made.result.nodes.items c.in-None.ensures
    c.in-Ok-read_content.ensures.ok c.new-made.ensures.empty c.new-made.ensures.none) _ c.from_parts-in-Ok-read_content.ensures.told

pub returns-in-Err-read_content-clause-law : goal.returns-in-Err-read_content-clause-law
returns-in-Err-read_content-clause-law g c =
    leaf_unread g.R.Source c.args.de.now c.deserialize_head.new.self (c.in-Ok.ensures.ok.marker, c.in-Ok.head) c.in-Ok.ensures.ok.begun
    c.read_content.new.de c.in-Err-read_content.e c.in-Err-read_content.ensures.err

pub returns-in-Err-read_content-clause-refusal : goal.returns-in-Err-read_content-clause-refusal
returns-in-Err-read_content-clause-refusal g c =
    leaf_wrong g.R.Source c.args.de.now c.deserialize_head.new.self (c.in-Ok.ensures.ok.marker, c.in-Ok.head) c.in-Ok.ensures.ok.begun
    c.read_content.new.de c.in-Err-read_content.e c.in-Err-read_content.ensures.content c.in-Err-read_content.ensures.err

pub returns-in-Err-clause-law : goal.returns-in-Err-clause-law
returns-in-Err-clause-law g c = refused_none _ _ _ _ _ c.in-Err.ensures.err

pub returns-in-Err-clause-refusal : goal.returns-in-Err-clause-refusal
returns-in-Err-clause-refusal g c = none_wrong _ _ _ _ c.in-Err.ensures.err

pub read_content-requires-clause-leaf : goal.read_content-requires-clause-leaf
read_content-requires-clause-leaf g c = c.in-None.ensures

pub read_parts-requires-clause-deep : goal.read_parts-requires-clause-deep
read_parts-requires-clause-deep g c = omega (arith, c.room.ensures, c.if-room-le1.false)

pub from_parts-requires-clause-starts : goal.from_parts-requires-clause-starts
from_parts-requires-clause-starts g c = omega (arith, bare_len c.in-Some.is_map c.in-Some.n c.in-Ok.head c.in-Some.ensures)

pub from_parts-requires-clause-within : goal.from_parts-requires-clause-within
from_parts-requires-clause-within g c = c.in-Ok-read_parts.ensures.within

pub from_parts-requires-in-Ok-read_content-clause-starts : goal.from_parts-requires-in-Ok-read_content-clause-starts
from_parts-requires-in-Ok-read_content-clause-starts g c =
    let o = c.in-Ok-read_content.ensures.ok in
    omega (arith, ap length o.whole, length-append c.new-made.result.bytes.items o.content, o.taken.long)

-- ---- faults

pub returns-then-room-le1-clause-fault : goal.returns-then-room-le1-clause-fault
returns-then-room-le1-clause-fault g c = rw c.refuse.ensures.failed (none_told _ _ _ c.in-Ok.ensures.ok.begun.sound)

pub returns-in-Err-read_parts-clause-fault : goal.returns-in-Err-read_parts-clause-fault
returns-in-Err-read_parts-clause-fault g c = tells_after _ _ _ _ c.in-Ok.ensures.ok.begun.sound c.in-Err-read_parts.ensures.fault

pub returns-in-Err-read_content-clause-fault : goal.returns-in-Err-read_content-clause-fault
returns-in-Err-read_content-clause-fault g c = tells_after _ _ _ _ c.in-Ok.ensures.ok.begun.sound
    (leaf_tells g.R.Source (failed_of c.deserialize_head.new.self) c.read_content.new.de c.in-Err-read_content.e c.in-Ok.head
    c.in-Err-read_content.ensures.err)

pub returns-in-Err-clause-fault : goal.returns-in-Err-clause-fault
returns-in-Err-clause-fault g c = head_tells g.R.Source _ _ _ c.in-Err.ensures.err
