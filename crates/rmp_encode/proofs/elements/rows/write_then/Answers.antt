use Rattle.std.specs.Prelude.{Ok, Err}
use Rattle.std.proofs.lemmas.Result.{err_from_is_err_and}
use Rattle.rmp_encode.proofs.Promises.{as_parts, row_stop, row_then, value_written}
use Rattle.rmp_encode.proofs.elements.rows.write_then.Goals as goal

pub returns-in_err-serialize : goal.returns-in_err-serialize
returns-in_err-serialize g c =
    let p = err_from_is_err_and c.from_residual.result c.from_residual.ensures.1 in
    let e = c.in_err-serialize.ensures in
    rw (p.1, p.2) (row_stop g.W.Sink g.E.Serialize.takes_memory g.R.Elements.takes_memory (λ s. g.R.Elements.parts_of c.args.rest.now s.human) (g.R.Elements.pieces c.args.rest.now)
    (g.R.Elements.refusals c.args.rest.now) (g.R.Elements.are_values c.args.rest.now) (λ l. l)
    (value_written g.W.Sink (λ s. g.E.Serialize.data_of c.args.first.now s.human) (g.E.Serialize.marks c.args.first.now) c.args.se.now _ (Err _) e.writes
    c.serialize.ensures.keeps e.marker e.error tt))

pub returns : goal.returns
returns g c =
    let e = c.in_ok-serialize.ensures in
    let f = c.write.ensures in
    row_then g.W.Sink g.E.Serialize.takes_memory g.R.Elements.takes_memory {U = g.E.Serialize.is_value c.args.first.now}
    {V = g.R.Elements.are_values c.args.rest.now} c.write.result (λ l. l)
    (value_written g.W.Sink (λ s. g.E.Serialize.data_of c.args.first.now s.human) (g.E.Serialize.marks c.args.first.now) c.args.se.now _ (Ok _) e.writes
    c.serialize.ensures.keeps tt tt e.value)
    (as_parts g.W.Sink (λ s. g.R.Elements.parts_of c.args.rest.now s.human) (g.R.Elements.pieces c.args.rest.now) f.writes f.keeps f.marker f.error f.value)
