use Rattle.std.proofs.Common.{rules}
use Rattle.rmp_wire.proofs.Copying.{consumed}
use Rattle.rmp_wire.proofs.buffered.BufSourceSource.skip.Goals as goal

pub returns-clause-bytes : goal.returns-clause-bytes
returns-clause-bytes g c t =
    consumed _ _ c.held.result.now c.args.len c.held.ensures.bytes (search rules)
    (rw c.held.ensures.all (rw c.get_mut.ensures.value at c.consume.ensures.bytes))
