use Rattle.rmp_decode.proofs.BufferedHeads.{first_byte}
use Rattle.rmp_decode.proofs.access.seq.first_of.Goals as goal

pub returns-in-len1-up : goal.returns-in-len1-up
returns-in-len1-up c = first_byte c.args.front.now c.in-len1-up.len_at_least
