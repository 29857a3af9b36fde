use Rattle.std.proofs.Common.{refl, arith, ◌<◌, length}
use Rattle.std.proofs.lemmas.Bool.{false≢true}
use Rattle.rmp_serde.proofs.Same.{at_place, one_further}
use Rattle.rmp_serde.proofs.value.equal.same_parts.Goals as goal

pub returns-then-not-same_node : goal.returns-then-not-same_node
returns-then-not-same_node c =
    let xs = c.args.xs.now in
    let ys = c.args.ys.now in
    let l : c.loop-i.i < length xs.nodes.items = omega (arith, c.loop-i-test.true, c.len-i-end.ensures, xs.nodes.ok.0) in
    record {
      same = (
        λ no. absurd (false≢true no),
        λ same. let e = at_place xs.bytes.items ys.bytes.items xs.nodes.items ys.nodes.items c.loop-i.i c.index.result.now c.index-in-loop-i.result.now l
            (omega (arith, l, c.loop-i.invariant.0)) c.index.ensures c.index-in-loop-i.ensures same in c.if-not-same_node.ensures.same.1 e,
      );
    }

pub loop-i-preserved : goal.loop-i-preserved
loop-i-preserved c =
    let xs = c.args.xs.now in
    let ys = c.args.ys.now in
    let l : c.loop-i.i < length xs.nodes.items = omega (arith, c.loop-i-test.true, c.len-i-end.ensures, xs.nodes.ok.0) in (
      c.loop-i.invariant.0,
      one_further xs.bytes.items ys.bytes.items xs.nodes.items ys.nodes.items c.loop-i.i c.index.result.now c.index-in-loop-i.result.now l
          (omega (arith, l, c.loop-i.invariant.0)) c.index.ensures c.index-in-loop-i.ensures c.loop-i.invariant.1 (c.if-not-same_node.ensures.same.0 refl),
    )
