use Rattle.canon_lines.proofs.Early.{on_err}
use Rattle.canon_lines.proofs.Showing.{shown_starts}
use Rattle.canon_lines.proofs.show.show.Goals as goal

pub returns-clause-early : goal.returns-clause-early
returns-clause-early g c = on_err c.complain.result _ (shown_starts g.R.Source g.W.Sink c.args.form _ _ _ _ c.in_ok-refused.ensures.shown)
