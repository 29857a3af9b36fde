use Rattle.canon_lines.proofs.OneRefusal.{one_name}
use Rattle.canon_lines.proofs.laws.one_refusal.Goals as goal

pub returns : goal.returns
returns c = λ strict room bytes e f n k p q. one_name strict room e f bytes n k p q
