use Rattle.canon_lines.specs.Lines.{lines_in}
use Rattle.canon_lines.specs.Prints.{PrintsMessages}
use Rattle.canon_lines.proofs.OneOutput.{messages_once, all_once}
use Rattle.canon_lines.proofs.laws.one_output.Goals as goal

pub returns : goal.returns
returns c = λ input out other accepted answer p q. all_once PrintsMessages messages_once (lines_in input) out other accepted answer p q
