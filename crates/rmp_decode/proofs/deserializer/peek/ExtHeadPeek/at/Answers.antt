use Rattle.std.proofs.Common.{rules}
use Rattle.std.proofs.lemmas.Int.{to_z-of_z}
use Rattle.std.specs.Int.{w8}
use Rattle.rmp_decode.proofs.BufferedHeads.{any_starts}
use Rattle.rmp_decode.proofs.deserializer.peek.ExtHeadPeek.at.Goals as goal

pub returns-in-Some-clause-starts : goal.returns-in-Some-clause-starts
returns-in-Some-clause-starts c = rw (to_z-of_z w8 c.in-Some.tag (search rules)) (any_starts c.args.strict _ _ _ (search rules) c.in-Some.ensures)
