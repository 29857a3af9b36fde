use Rattle.std.proofs.lemmas.Result.{err_from_is_err_and}
use Rattle.canon_lines.proofs.Early.{nothing_put, on_err, start_none}
use Rattle.canon_lines.proofs.Printing.{prints_none}
use Rattle.canon_lines.proofs.lines.refuse.Goals as goal

pub returns-in_err-print-clause-prints : goal.returns-in_err-print-clause-prints
returns-in_err-print-clause-prints g c =
    let p = err_from_is_err_and c.from_residual.result c.from_residual.ensures.1 in
    rw (p.1, p.2) (prints_none g.W.Sink c.args.sink.now)

pub returns-in_err-print-clause-early : goal.returns-in_err-print-clause-early
returns-in_err-print-clause-early g c = on_err c.from_residual.result _ (nothing_put g.W.Sink c.args.sink.now (start_none _))
