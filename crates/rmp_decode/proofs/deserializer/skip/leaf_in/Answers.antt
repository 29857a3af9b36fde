use Rattle.std.proofs.Common.{sym}
use Rattle.rmp_decode.proofs.deserializer.skip.leaf_in.Goals as goal

pub returns-in-None : goal.returns-in-None
returns-in-None c = record { leaf = c.in-None.ensures; long = sym c.content_len.ensures }
