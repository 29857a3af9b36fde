use Rattle.std.proofs.lemmas.Result.{err_from_is_err_and}
use Rattle.rmp_wire.proofs.Writing.{puts_stop, head_some}
use Rattle.rmp_wire.proofs.write.write_bin.Goals as goal

pub returns-in_err-write_bin_len-clause-writes : goal.returns-in_err-write_bin_len-clause-writes
returns-in_err-write_bin_len-clause-writes g c =
    let p = err_from_is_err_and c.from_residual.result c.from_residual.ensures.1 in
    rw (p.1, p.2) (puts_stop _ c.in_err-write_bin_len.ensures.writes)

pub returns-clause-writes : goal.returns-clause-writes
returns-clause-writes g c = c.write_content.ensures.writes _ _ (head_some _) c.in_ok-write_bin_len.ensures.writes
