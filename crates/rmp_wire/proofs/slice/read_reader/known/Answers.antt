use Rattle.rmp_wire.proofs.Taken.{bytes_from}
use Rattle.rmp_wire.proofs.slice.read_reader.known.Goals as goal

pub returns-clause-bytes : goal.returns-clause-bytes
returns-clause-bytes c = bytes_from c.args.bytes.now (λ k. (c.type_inv.bytes k).fits)
