use Rattle.rmp_decode.proofs.Wide.{sixteen_first}
use Rattle.rmp_decode.proofs.deserializer.numbers.sixteen_of.Goals as goal

pub returns-in-len16-up-clause-front : goal.returns-in-len16-up-clause-front
returns-in-len16-up-clause-front c = sixteen_first c.args.front.now c.in-len16-up.len_at_least
