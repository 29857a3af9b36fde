use Rattle.rmp_wire.proofs.ReadAhead.{skipped_held}
use Rattle.rmp_wire.specs.ReadAhead.{held_of, reader_after}
use Rattle.rmp_wire.proofs.read_ahead.AheadSourceSource.skip.Goals as goal

pub returns-clause-bytes : goal.returns-clause-bytes
returns-clause-bytes g c t =
    rw c.skip.ensures (skipped_held (held_of c.args.self.now) (g.R.Read.remaining (reader_after c.args.self.now)) c.args.len
    (rw (c.len.ensures.count) at c.if-len.false))
