use Rattle.std.proofs.Common.{arith}
use Rattle.std.proofs.lemmas.Result.{err_from_is_err_and}
use Rattle.rmp_encode.specs.Trees.{number_head}
use Rattle.rmp_encode.proofs.Numbers.{numbers_all, numbers_more, numbers_none, numbers_stop}
use Rattle.rmp_encode.proofs.serializer.Serializer.put_numbers.Goals as goal

pub loop-b-init : goal.loop-b-init
loop-b-init g c = record { within = omega arith; items = numbers_none g.W.Sink number_head c.args.self.now }

pub loop-b-preserved : goal.loop-b-preserved
loop-b-preserved g c = record {
  within = omega arith;
  items = numbers_more g.W.Sink number_head c.args.bytes.now c.loop-b.b-index _ c.loop-b-test.true c.loop-b.invariant.items c.in_ok-put_byte.ensures;
}

pub returns-in_err-put_byte : goal.returns-in_err-put_byte
returns-in_err-put_byte g c =
    let p = err_from_is_err_and c.from_residual.result c.from_residual.ensures.1 in
    rw (p.1, p.2) (numbers_stop g.W.Sink number_head c.args.bytes.now c.loop-b.b-index _ c.loop-b-test.true c.loop-b.invariant.items
    c.in_err-put_byte.ensures)

pub returns : goal.returns
returns g c = numbers_all g.W.Sink number_head c.args.bytes.now c.loop-b.b-index c.loop-b-test.false c.loop-b.invariant.items
