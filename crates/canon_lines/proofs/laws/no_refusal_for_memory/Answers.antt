use Rattle.canon_lines.proofs.OneOutput.{other_name}
use Rattle.canon_lines.proofs.laws.no_refusal_for_memory.Goals as goal

pub returns : goal.returns
returns c = record { run = λ place rest p. other_name place p.error p.no_memory p.shown; check = λ place rest p. other_name place p.error p.no_memory p.shown }
