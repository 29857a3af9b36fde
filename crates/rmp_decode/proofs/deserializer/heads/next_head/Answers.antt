use Rattle.std.proofs.Common.{◌∙◌, ap, Err}
use Rattle.std.proofs.lemmas.Result.{err_from_is_err_and}
use Rattle.rmp_wire.proofs.NextReads.{reads_next}
use Rattle.rmp_decode.proofs.Allowed.{marker_failed, head_failed}
use Rattle.rmp_decode.proofs.deserializer.heads.next_head.Goals as goal

pub returns-in_err-marker-clause-refused : goal.returns-in_err-marker-clause-refused
returns-in_err-marker-clause-refused g c =
    let p = err_from_is_err_and c.from_residual.result c.from_residual.ensures.1 in
    marker_failed g.S.Source _ _ _ _ _ (p.1 ∙ ap Err p.2) c.in_err-marker.ensures.reads

pub returns-in_err-head-clause-refused : goal.returns-in_err-head-clause-refused
returns-in_err-head-clause-refused g c =
    let p = err_from_is_err_and c.from_residual-in_err-head.result c.from_residual-in_err-head.ensures.1 in
    head_failed g.S.Source _ _ _ _ _ _ _ (p.1 ∙ ap Err p.2) c.in_ok-marker.ensures.reads c.in_err-head.ensures.refused

pub returns-clause-taken : goal.returns-clause-taken
returns-clause-taken g c = record {
  read = reads_next g.S.Source _ _ _ _ _ c.in_ok-marker.ensures.reads c.in_ok-head.ensures.taken.read;
  allowed = c.in_ok-head.ensures.taken.allowed;
}
