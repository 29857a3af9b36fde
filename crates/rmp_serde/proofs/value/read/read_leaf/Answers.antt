use Rattle.std.proofs.Common.{arith, ◌≡◌, ◌∙◌, ◌≤◌, ◌++◌, length, inl, inr, ap}
use Rattle.std.specs.Prelude.{true}
use Rattle.std.proofs.lemmas.List.{length-append}
use Rattle.rmp_wire.specs.declared.head.Head.{Head}
use Rattle.rmp_wire.specs.declared.head.Head.TheVariants as heads
use Rattle.rmp_wire.specs.declared.source.Source.{Ghosts}
use Rattle.rmp_decode.specs.State.{failed_of, Stays}
use Rattle.rmp_decode.specs.declared.deserializer.Deserializer.{Deserializer}
use Rattle.rmp_decode.specs.declared.error.Error.{Error}
use Rattle.rmp_serde.specs.ReadParts.{FailsLeaf}
use Rattle.rmp_serde.proofs.FlatMade.{all_later}
use Rattle.rmp_serde.proofs.ReadLoop.{leaf_told}
use Rattle.rmp_decode.proofs.Exactness.{none_told}
use Rattle.rmp_serde.proofs.ValueFaults.{leaf_tells}
use Rattle.rmp_serde.proofs.value.read.read_leaf.Goals as goal

-- where the content wasn't read, the reader is failed, and nothing else of it changes
module _ {R C : Type 0} (g : Ghosts R) (old new : Deserializer R C) (e : Error) where
  again : Stays g (failed_of old) new → Stays g old new
  again s = record { config = s.config; room = s.room; limit = s.limit; strict = s.strict; place = s.place }

  leaf_fails : (h : Head) → FailsLeaf g h (failed_of old) new e → (new.failed ≡ true) × Stays g old new
  leaf_fails heads.Nil f = (f.failed, again f.stays)
  leaf_fails (heads.Truth t) f = (f.failed, again f.stays)
  leaf_fails (heads.Whole z) f = (f.failed, again f.stays)
  leaf_fails (heads.F32Bits n) f = (f.failed, again f.stays)
  leaf_fails (heads.F64Bits n) f = (f.failed, again f.stays)
  leaf_fails (heads.Text n) f = (f.failed, again f.stays)
  leaf_fails (heads.Bin n) f = (f.failed, again f.stays)
  leaf_fails (heads.Array n) f = (f.failed, again f.stays)
  leaf_fails (heads.Map n) f = (f.failed, again f.stays)
  leaf_fails (heads.Ext n tag) f = (f.failed, again f.stays)

pub read_content-requires-clause-leaf : goal.read_content-requires-clause-leaf
read_content-requires-clause-leaf g c = c.requires.leaf

pub push-requires-clause-fits : goal.push-requires-clause-fits
push-requires-clause-fits g c = c.requires.fits

pub push-requires-clause-starts : goal.push-requires-clause-starts
push-requires-clause-starts g c =
    let o = c.in-Ok.ensures.ok in
    let room = c.make_room_for_content.new.self in
    omega (arith, c.len-at.ensures, room.bytes.ok.0, ap length o.whole, length-append room.bytes.items o.content, o.taken.long)

pub push-requires-clause-within : goal.push-requires-clause-within
push-requires-clause-within g c =
    let o = c.in-Ok.ensures.ok in
    let made = c.args.made.now in
    let room = c.make_room_for_content in
    let bytes = room.new.self.bytes.items in
    let longer : length made.bytes.items ≤ length c.read_content.new.bytes.items =
    omega (arith, ap length o.whole, length-append bytes o.content, ap length room.ensures.bytes) in
    rw room.ensures.nodes (all_later made.nodes.items (length made.bytes.items) _ longer c.requires.within)

pub returns-in-Ok-push-clause-ok : goal.returns-in-Ok-push-clause-ok
returns-in-Ok-push-clause-ok g c =
    let o = c.in-Ok.ensures.ok in
    let made = c.args.made.now in
    let room = c.make_room_for_content.ensures in
    record {
      content = o.content;
      taken = o.taken;
      utf8 = o.utf8;
      told = c.in-Ok-push.ensures.ok
          ∙ rw room.nodes
          (leaf_told made.nodes.items made.bytes.items o.content c.read_content.new.bytes.items c.args.head c.len-at.result c.requires.within
          (o.whole ∙ ap (λ z. z ++ o.content) room.bytes) (rw (← room.bytes) (omega (arith, c.len-at.ensures, made.bytes.ok.0))) o.taken.long);
    }

pub returns-in-Err-push-clause-err : goal.returns-in-Err-push-clause-err
returns-in-Err-push-clause-err g c = inl c.refuse.ensures.same

pub returns-in-Err-clause-err : goal.returns-in-Err-clause-err
returns-in-Err-clause-err g c = inr c.in-Err.ensures.err

pub returns-in-Err-clause-failed : goal.returns-in-Err-clause-failed
returns-in-Err-clause-failed g c = (leaf_fails g.R.Source c.args.de.now c.read_content.new.de c.in-Err.e c.args.head c.in-Err.ensures.err).0

pub returns-in-Err-clause-stays : goal.returns-in-Err-clause-stays
returns-in-Err-clause-stays g c = (leaf_fails g.R.Source c.args.de.now c.read_content.new.de c.in-Err.e c.args.head c.in-Err.ensures.err).1

pub returns-in-Err-push-clause-fault : goal.returns-in-Err-push-clause-fault
returns-in-Err-push-clause-fault g c = rw c.refuse.ensures.failed (none_told _ _ _ c.in-Ok.ensures.ok.taken.sound)

pub returns-in-Err-clause-fault : goal.returns-in-Err-clause-fault
returns-in-Err-clause-fault g c = leaf_tells g.R.Source (failed_of c.args.de.now) c.read_content.new.de c.in-Err.e c.args.head c.in-Err.ensures.err
