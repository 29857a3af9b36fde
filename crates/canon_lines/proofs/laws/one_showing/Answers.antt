use Rattle.canon_lines.proofs.OneShowing.{shown_once, number_once}
use Rattle.canon_lines.proofs.laws.one_showing.Goals as goal

pub returns : goal.returns
returns c = record { output = shown_once; number = number_once }
