use Rattle.std.proofs.Common.{◌∙◌, refl, arith}
use Rattle.rmp_decode.proofs.SkipLoop.{falls_leaf}
use Rattle.rmp_serde.specs.Flat.{heads_of}
use Rattle.rmp_serde.proofs.ReadLoop.{
  fits_as,
  falls_entered,
  none_of,
  wants_all,
  wants_out,
  wants_none,
  wants_leaf,
  wants_entered,
  unentered_refused,
  unentered_wrong,
  left_refused,
  left_wrong,
  none_refused,
  none_wrong,
}
use Rattle.rmp_decode.proofs.Faults.{head_tells, tells_after}
use Rattle.rmp_decode.proofs.Exactness.{none_told}
use Rattle.rmp_serde.proofs.value.read.read_parts.Goals as goal

pub parts-init : goal.parts-init
parts-init g c = (
  wants_all g.R.Source c.args.count c.args.de.now _ c.new-outer.result.items (heads_of c.args.made.now) c.new-outer.ensures.items
      c.requires.deep (omega (arith, c.room-room.ensures)) c.requires.ready c.requires.clean,
  c.requires.within,
)

pub parts-preserved-then-wanted-eq0 : goal.parts-preserved-then-wanted-eq0
parts-preserved-then-wanted-eq0 g c = (
  wants_out g.R.Source c.args.count c.args.de.now c.parts.de c.parts.room c.parts.wanted c.parts.outer.items
      (heads_of c.args.made.now) (heads_of c.parts.made) c.parts.invariant.0 c.in-Some.n _ _ c.if-wanted-eq0.true c.in-Some.ensures.items refl,
  c.parts.invariant.1,
)

pub returns-in-None-clause-law : goal.returns-in-None-clause-law
returns-in-None-clause-law g c = wants_none g.R.Source c.args.count c.args.de.now c.parts.de c.parts.room c.parts.wanted c.parts.outer.items
    (heads_of c.args.made.now) (heads_of c.parts.made) c.parts.invariant.0 c.if-wanted-eq0.true
    (none_of c.parts.outer.items (omega (arith, c.in-None.ensures.cases.0)))

pub enter-requires-clause-fits : goal.enter-requires-clause-fits
enter-requires-clause-fits g c = fits_as c.parts.de.strict c.in-Ok.head _ c.in-Ok.ensures.ok.begun.ok.is_head

pub parts-smaller-in-Ok-enter : goal.parts-smaller-in-Ok-enter
parts-smaller-in-Ok-enter g c = falls_entered c.parts.room c.parts.wanted _ _ c.parts.outer.items c.in-Ok-enter.now c.enter.new.outer.items
    (omega (arith, c.if-wanted-eq0.false)) refl c.in-Ok-enter.ensures.deep c.in-Ok-enter.ensures.wanted

pub parts-preserved-in-Ok-enter : goal.parts-preserved-in-Ok-enter
parts-preserved-in-Ok-enter g c = (
  rw c.in-Ok-enter.ensures.same
      (wants_entered g.R.Source c.args.count c.args.de.now c.parts.de c.parts.room c.parts.wanted c.parts.outer.items
      (heads_of c.args.made.now) (heads_of c.parts.made) c.parts.invariant.0 c.deserialize_head.new.self (omega (arith, c.if-wanted-eq0.false))
      (c.in-Ok.ensures.ok.marker, c.in-Ok.head) c.in-Ok.ensures.ok.begun c.in-Ok.ensures.ready c.in-Some-as_parts.parts.0 c.in-Some-as_parts.parts.1 _
      c.in-Ok-enter.now c.enter.new.outer.items _ refl c.in-Some-as_parts.ensures c.in-Ok-enter.ensures.wanted c.in-Ok-enter.ensures.deep
      c.in-Ok-enter.ensures.told),
  c.in-Ok-enter.ensures.within,
)

pub returns-in-Err-enter-clause-law : goal.returns-in-Err-enter-clause-law
returns-in-Err-enter-clause-law g c = rw c.in-Err-enter.ensures.failed
    (unentered_refused g.R.Source c.args.count c.args.de.now c.parts.de c.parts.room c.parts.wanted c.parts.outer.items (heads_of c.args.made.now)
    (heads_of c.parts.made) c.parts.invariant.0 c.deserialize_head.new.self (omega (arith, c.if-wanted-eq0.false))
    (c.in-Ok.ensures.ok.marker, c.in-Ok.head) c.in-Ok.ensures.ok.begun c.in-Ok.ensures.ready c.in-Some-as_parts.parts.0 c.in-Some-as_parts.parts.1
    c.in-Err-enter.e _ c.in-Some-as_parts.ensures c.in-Err-enter.ensures.err)

pub returns-in-Err-enter-clause-refusal : goal.returns-in-Err-enter-clause-refusal
returns-in-Err-enter-clause-refusal g c = rw c.in-Err-enter.ensures.failed
    (unentered_wrong g.R.Source c.args.count c.args.de.now c.parts.de c.parts.room c.parts.wanted c.parts.outer.items (heads_of c.args.made.now)
    (heads_of c.parts.made) c.parts.invariant.0 c.deserialize_head.new.self (omega (arith, c.if-wanted-eq0.false))
    (c.in-Ok.ensures.ok.marker, c.in-Ok.head) c.in-Ok.ensures.ok.begun c.in-Ok.ensures.ready c.in-Some-as_parts.parts.0 c.in-Some-as_parts.parts.1
    c.in-Err-enter.e c.in-Some-as_parts.ensures c.in-Err-enter.ensures.err)

pub read_leaf-requires-clause-fits : goal.read_leaf-requires-clause-fits
read_leaf-requires-clause-fits g c = fits_as c.parts.de.strict c.in-Ok.head _ c.in-Ok.ensures.ok.begun.ok.is_head

pub parts-smaller : goal.parts-smaller
parts-smaller g c = falls_leaf c.parts.room c.parts.wanted _ c.parts.outer.items (omega (arith, c.if-wanted-eq0.false)) refl

pub parts-preserved : goal.parts-preserved
parts-preserved g c = (
  wants_leaf g.R.Source c.args.count c.args.de.now c.parts.de c.parts.room c.parts.wanted c.parts.outer.items
      (heads_of c.args.made.now) (heads_of c.parts.made) c.parts.invariant.0 c.deserialize_head.new.self (omega (arith, c.if-wanted-eq0.false))
      (c.in-Ok.ensures.ok.marker, c.in-Ok.head) c.in-Ok.ensures.ok.begun c.in-Ok.ensures.ready c.read_leaf.new.de _ _ refl c.in-None-as_parts.ensures
      c.in-Ok-read_leaf.ensures.ok,
  c.in-Ok-read_leaf.ensures.within,
)

pub returns-in-Err-read_leaf-clause-law : goal.returns-in-Err-read_leaf-clause-law
returns-in-Err-read_leaf-clause-law g c =
    let o = c.in-Err-read_leaf.ensures in
    left_refused g.R.Source c.args.count c.args.de.now c.parts.de c.parts.room c.parts.wanted c.parts.outer.items (heads_of c.args.made.now)
    (heads_of c.parts.made) c.parts.invariant.0 c.deserialize_head.new.self (omega (arith, c.if-wanted-eq0.false))
    (c.in-Ok.ensures.ok.marker, c.in-Ok.head) c.in-Ok.ensures.ok.begun c.in-Ok.ensures.ready c.read_leaf.new.de c.in-Err-read_leaf.e _ o.err o.failed o.stays

pub returns-in-Err-read_leaf-clause-refusal : goal.returns-in-Err-read_leaf-clause-refusal
returns-in-Err-read_leaf-clause-refusal g c =
    left_wrong g.R.Source c.args.count c.args.de.now c.parts.de c.parts.room c.parts.wanted c.parts.outer.items (heads_of c.args.made.now)
    (heads_of c.parts.made) c.parts.invariant.0 c.deserialize_head.new.self (omega (arith, c.if-wanted-eq0.false))
    (c.in-Ok.ensures.ok.marker, c.in-Ok.head) c.in-Ok.ensures.ok.begun c.in-Ok.ensures.ready c.read_leaf.new.de c.in-Err-read_leaf.e
    c.in-Err-read_leaf.ensures.err

pub returns-in-Err-clause-law : goal.returns-in-Err-clause-law
returns-in-Err-clause-law g c = none_refused g.R.Source c.args.count c.args.de.now c.parts.de c.parts.room c.parts.wanted c.parts.outer.items
    (heads_of c.args.made.now) (heads_of c.parts.made) c.parts.invariant.0 c.deserialize_head.new.self c.in-Err.e (omega (arith, c.if-wanted-eq0.false))
    c.in-Err.ensures.err _

pub returns-in-Err-clause-refusal : goal.returns-in-Err-clause-refusal
returns-in-Err-clause-refusal g c = λ _. none_wrong g.R.Source c.args.count c.args.de.now c.parts.de c.parts.room c.parts.wanted c.parts.outer.items
    (heads_of c.args.made.now) (heads_of c.parts.made) c.parts.invariant.0 c.deserialize_head.new.self c.in-Err.e (omega (arith, c.if-wanted-eq0.false))
    c.in-Err.ensures.err

pub enter-requires-clause-parts : goal.enter-requires-clause-parts
enter-requires-clause-parts g c = c.in-Some-as_parts.ensures

pub enter-requires-clause-within : goal.enter-requires-clause-within
enter-requires-clause-within g c = c.parts.invariant.1

pub read_leaf-requires-clause-leaf : goal.read_leaf-requires-clause-leaf
read_leaf-requires-clause-leaf g c = c.in-None-as_parts.ensures

-- ---- faults

pub returns-in-Err-enter-clause-fault : goal.returns-in-Err-enter-clause-fault
returns-in-Err-enter-clause-fault g c = rw c.in-Err-enter.ensures.failed
    (none_told _ _ _ (c.in-Ok.ensures.ok.begun.sound ∙ c.parts.invariant.0.sound))

pub returns-in-Err-read_leaf-clause-fault : goal.returns-in-Err-read_leaf-clause-fault
returns-in-Err-read_leaf-clause-fault g c = tells_after _ _ _ _ (c.in-Ok.ensures.ok.begun.sound ∙ c.parts.invariant.0.sound)
    c.in-Err-read_leaf.ensures.fault

pub returns-in-Err-clause-fault : goal.returns-in-Err-clause-fault
returns-in-Err-clause-fault g c = tells_after _ _ _ _ c.parts.invariant.0.sound (head_tells g.R.Source _ _ _ c.in-Err.ensures.err)
