use Rattle.std.proofs.Common.{rules}
use Rattle.rmp_wire.proofs.Copying.{gained}
use Rattle.rmp_wire.proofs.slice.read_reader.copied_front.Goals as goal

pub returns-clause-ok : goal.returns-clause-ok
returns-clause-ok g c t =
    gained _ _ c.front-front.result.now _ _ c.min-n.result _ c.front-front.ensures.bytes (c.skip.ensures.bytes (search rules)) (search rules) (search rules)
    (search rules) (search rules)
