use Rattle.std.proofs.Common.{sym, ◌∙◌}
use Rattle.rmp_decode.proofs.Words.{all_words}
use Rattle.rmp_decode.proofs.text.OwnText.as_str.Goals as goal

pub returns-in-Ok : goal.returns-in-Ok
returns-in-Ok c = c.in-Ok.ensures.cases.0 ∙ sym (all_words c.args.self.now.bytes c.in-Ok.ensures.cases.1)
