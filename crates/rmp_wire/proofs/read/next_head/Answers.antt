use Rattle.std.proofs.Common.{◌∙◌, ap, Err}
use Rattle.std.proofs.lemmas.Result.{err_from_is_err_and}
use Rattle.rmp_wire.proofs.NextReads.{reads_next, fails_at_marker, fails_at_head}
use Rattle.rmp_wire.proofs.read.next_head.Goals as goal

pub returns-in_err-marker : goal.returns-in_err-marker
returns-in_err-marker g c = let p = err_from_is_err_and c.from_residual.result c.from_residual.ensures.1
    in record { reads = fails_at_marker g.S.Source _ _ _ _ (p.1 ∙ ap Err p.2) c.in_err-marker.ensures.reads }

pub returns-in_err-head : goal.returns-in_err-head
returns-in_err-head g c =
    let p = err_from_is_err_and c.from_residual-in_err-head.result c.from_residual-in_err-head.ensures.1 in
    record { reads = fails_at_head g.S.Source _ _ _ _ _ _ (p.1 ∙ ap Err p.2) c.in_ok-marker.ensures.reads c.in_err-head.ensures.reads }

pub returns : goal.returns
returns g c = record { reads = reads_next g.S.Source _ _ _ _ _ c.in_ok-marker.ensures.reads c.in_ok-head.ensures.reads }
