use Rattle.std.proofs.Common.{arith}
use Rattle.rmp_wire.proofs.Told.{puts_fault}
use Rattle.rmp_wire.proofs.sink.SliceSinkSink.put_all.Goals as goal

pub returns-clause-writes : goal.returns-clause-writes
returns-clause-writes c =
    puts_fault _ c.args.piece.now _ _ _ _ c.copy_front-n.result _ _ (omega (arith, c.copy_front-n.ensures.count)) c.copy_front-n.ensures.bytes
    (omega (arith, c.copy_front-n.ensures.faults)) c.stopped.ensures
