use Rattle.std.proofs.Common.{◌≡◌, ◌∙◌, ap, ◌<◌, ◌+◌, arith, drop, suc}
use Rattle.rmp_wire.specs.Msg.{count}
use Rattle.rmp_serde.specs.Tokens.{built}
use Rattle.rmp_serde.specs.Flat.{heads_of, span}
use Rattle.rmp_serde.proofs.FlatTakes.{walk_place, walk_step, walk_within}
use Rattle.rmp_serde.proofs.value.flat.Nodes.past.Goals as goal

pub loop-init : goal.loop-init
loop-init c = omega arith

pub index-requires : goal.index-requires
index-requires c =
    let s = c.args.self.now in
    let there = walk_place s.bytes.items s.nodes.items c.args.at c.requires.row c.requires.takes c.loop.counter c.loop.place
    (omega (arith, c.loop-test.true, c.requires.parts)) c.loop.invariant in
    omega (arith, there, s.nodes.ok.0)

pub overflow_add-place : goal.overflow_add-place
overflow_add-place c =
    let s = c.args.self.now in
    let l : c.loop.counter < count (built (drop c.args.at (heads_of s))) = omega (arith, c.loop-test.true, c.requires.parts) in
    let there = walk_place s.bytes.items s.nodes.items c.args.at c.requires.row c.requires.takes c.loop.counter c.loop.place l c.loop.invariant in
    let next = walk_step s.bytes.items s.nodes.items c.args.at c.requires.row c.requires.takes c.loop.counter c.loop.place c.index.result.now l
    c.loop.invariant c.index.ensures in
    let within = walk_within s.bytes.items s.nodes.items c.args.at c.requires.row c.requires.takes (suc c.loop.counter) _
    (omega (arith, there, c.loop.invariant)) next in
    omega (arith, within, c.takes-place.ensures.takes, s.nodes.ok.0)

pub loop-preserved : goal.loop-preserved
loop-preserved c =
    let s = c.args.self.now in
    let l : c.loop.counter < count (built (drop c.args.at (heads_of s))) = omega (arith, c.loop-test.true, c.requires.parts) in
    let next = walk_step s.bytes.items s.nodes.items c.args.at c.requires.row c.requires.takes c.loop.counter c.loop.place c.index.result.now l
    c.loop.invariant c.index.ensures in
    omega (
      arith,
      next,
      c.takes-place.ensures.takes,
      ap (λ z. span z (drop c.args.at (heads_of s)))
          (let e : c.loop.counter + 1 ≡ suc c.loop.counter = omega arith in e),
    )

pub returns : goal.returns
returns c =
    let s = c.args.self.now in
    let e : c.loop.counter ≡ c.args.count = omega (arith, c.loop-test.false, c.loop.auto.counter-end) in
    record { place = c.loop.invariant ∙ ap (λ z. c.args.at + span z (drop c.args.at (heads_of s))) e }
