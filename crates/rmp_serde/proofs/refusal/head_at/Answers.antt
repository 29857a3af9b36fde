use Rattle.std.proofs.Common.{arith, drop, Some}
use Rattle.std.proofs.Math.ListN.{drop_of_length-le}
use Rattle.rmp_wire.proofs.NextReads.{no_head_at_end}
use Rattle.rmp_serde.proofs.refusal.head_at.Goals as goal

pub returns-then-place-input : goal.returns-then-place-input
returns-then-place-input c = no_head_at_end (Some (drop c.args.place c.args.input.now))
    (drop_of_length-le c.args.input.now (omega (arith, c.if-place-input.true)))
