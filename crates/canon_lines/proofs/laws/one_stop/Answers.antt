use Rattle.canon_lines.proofs.OneCheck.{one_reason, whole_or_stopped, fault_or_stop}
use Rattle.canon_lines.proofs.laws.one_stop.Goals as goal

pub returns : goal.returns
returns c = record { name = one_reason; no_whole = whole_or_stopped; no_fault = fault_or_stop }
