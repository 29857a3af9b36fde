use Rattle.std.proofs.lemmas.Result.{IfOk-weaker}
use Rattle.rmp_serde.proofs.path.path_at.Goals as goal

pub returns : goal.returns
returns c = IfOk-weaker c.path_of.result _ _ (λ p h. (c.in_ok-found.found, c.in_ok-found.ensures, h)) c.path_of.ensures
