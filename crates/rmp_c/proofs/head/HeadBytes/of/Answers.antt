use Rattle.std.proofs.Common.{arith}
use Rattle.std.proofs.lemmas.List.{length-take-le}
use Rattle.rmp_c.proofs.Puts.{written_whole}
use Rattle.rmp_c.proofs.head.HeadBytes.of.Goals as goal

pub returns : goal.returns
returns c = record {
  bytes = λ fits. let s = c.write_head.new.sink in written_whole c.args.head _ s.len s.faults _ s.full (length-take-le s.len s.bytes (let a = s.sized in let b = s.within in omega (arith, a, b))) (c.write_head.ensures.writes fits);
}
