use Rattle.std.proofs.Common.{rules}
use Rattle.rmp_decode.proofs.Words.{front_words}
use Rattle.rmp_decode.proofs.text.OwnText.new.Goals as goal

pub returns : goal.returns
returns c = front_words c.args.text.now c.copy_from_slice.new.self (search rules) (search rules)
