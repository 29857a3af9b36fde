-- What the sink was given is the text and the end of its line.
use Rattle.std.proofs.Common.{inr, subst, ◌∙◌}
use Rattle.std.specs.Io.KnownBytes.{Appends}
use Rattle.std.proofs.lemmas.Result.{err_from_is_err_and}
use Rattle.canon_lines.proofs.Early.{nothing_put, on_err, start_none, line_begun}
use Rattle.canon_lines.proofs.Printing.{puts_line, line_stops_before, line_stops_within, line_lacks_memory, prints_ok, prints_err, prints_none}
use Rattle.canon_lines.proofs.lines.print_line.Goals as goal

pub returns-in_err-end_line-clause-prints : goal.returns-in_err-end_line-clause-prints
returns-in_err-end_line-clause-prints g c =
    let p = err_from_is_err_and c.from_residual.result c.from_residual.ensures.1 in
    rw (p.1, p.2) (prints_none g.W.Sink c.args.sink.now)

pub returns-in_err-end_line-clause-early : goal.returns-in_err-end_line-clause-early
returns-in_err-end_line-clause-early g c = on_err c.from_residual.result _ (nothing_put g.W.Sink c.args.sink.now (start_none _))

pub returns-in-Ok-clause-line : goal.returns-in-Ok-clause-line
returns-in-Ok-clause-line g c = subst (Appends (g.W.Sink.told c.args.sink.now) (g.W.Sink.told c.put_all.new.self))
    (c.as_bytes.ensures.text ∙ c.in_ok-end_line.ensures.ended) c.in-Ok.ensures.writes.whole

pub returns-in-Ok-clause-prints : goal.returns-in-Ok-clause-prints
returns-in-Ok-clause-prints g c =
    let put = subst (Appends (g.W.Sink.told c.args.sink.now) (g.W.Sink.told c.put_all.new.self))
    (c.as_bytes.ensures.text ∙ c.in_ok-end_line.ensures.ended) c.in-Ok.ensures.writes.whole in
    prints_ok g.W.Sink (puts_line g.W.Sink _ _ _ put c.in-Ok.ensures.writes.sound) c.put_all.ensures.place

pub returns-in-Err-InvalidMarkerWrite-clause-prints : goal.returns-in-Err-InvalidMarkerWrite-clause-prints
returns-in-Err-InvalidMarkerWrite-clause-prints g c =
    let writes = rw c.in-Err-InvalidMarkerWrite.field-0-is at c.in-Err-InvalidMarkerWrite.ensures.writes in
    prints_err g.W.Sink (line_stops_before g.W.Sink _ _ _ (c.as_bytes.ensures.text ∙ c.in_ok-end_line.ensures.ended) writes.stops) c.put_all.ensures.place

pub returns-in-Err-InvalidMarkerWrite-clause-early : goal.returns-in-Err-InvalidMarkerWrite-clause-early
returns-in-Err-InvalidMarkerWrite-clause-early g c =
    line_begun g.W.Sink _ _ _ (c.as_bytes.ensures.text ∙ c.in_ok-end_line.ensures.ended) c.in-Err-InvalidMarkerWrite.ensures.writes.stops

pub returns-in-Err-InvalidDataWrite-clause-prints : goal.returns-in-Err-InvalidDataWrite-clause-prints
returns-in-Err-InvalidDataWrite-clause-prints g c =
    let writes = rw c.in-Err-InvalidDataWrite.field-0-is at c.in-Err-InvalidDataWrite.ensures.writes in
    prints_err g.W.Sink (line_stops_within g.W.Sink _ _ _ (c.as_bytes.ensures.text ∙ c.in_ok-end_line.ensures.ended) writes.stops) c.put_all.ensures.place

pub returns-in-Err-InvalidDataWrite-clause-early : goal.returns-in-Err-InvalidDataWrite-clause-early
returns-in-Err-InvalidDataWrite-clause-early g c =
    line_begun g.W.Sink _ _ _ (c.as_bytes.ensures.text ∙ c.in_ok-end_line.ensures.ended) c.in-Err-InvalidDataWrite.ensures.writes.stops

pub returns-in-Err-OutOfMemory-clause-prints : goal.returns-in-Err-OutOfMemory-clause-prints
returns-in-Err-OutOfMemory-clause-prints g c =
    let writes = rw c.in-Err-OutOfMemory.field-0-is at c.in-Err-OutOfMemory.ensures.writes in
    prints_err g.W.Sink (inr (line_lacks_memory g.W.Sink _ _ (c.as_bytes.ensures.text ∙ c.in_ok-end_line.ensures.ended) writes.stops)) c.put_all.ensures.place

pub returns-in-Err-OutOfMemory-clause-early : goal.returns-in-Err-OutOfMemory-clause-early
returns-in-Err-OutOfMemory-clause-early g c = line_begun g.W.Sink _ _ _ (c.as_bytes.ensures.text ∙ c.in_ok-end_line.ensures.ended) c.in-Err-OutOfMemory.ensures.writes.stops
