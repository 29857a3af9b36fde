use Rattle.canon_lines.specs.Checks.{PrintsChecks}
use Rattle.canon_lines.specs.Lines.{lines_in}
use Rattle.canon_lines.proofs.OneCheck.{checks_once}
use Rattle.canon_lines.proofs.OneOutput.{all_once}
use Rattle.canon_lines.proofs.laws.one_check.Goals as goal

pub returns : goal.returns
returns c = λ input out other accepted answer p q. all_once PrintsChecks checks_once (lines_in input) out other accepted answer p q
