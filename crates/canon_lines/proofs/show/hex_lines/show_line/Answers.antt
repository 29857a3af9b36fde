use Rattle.canon_lines.proofs.Early.{on_err}
use Rattle.canon_lines.proofs.ShownLines.{puts_line, puts_no_hex, puts_none}
use Rattle.canon_lines.proofs.show.hex_lines.show_line.Goals as goal

pub returns-in_ok-refused-in-Ok-clause-shown : goal.returns-in_ok-refused-in-Ok-clause-shown
returns-in_ok-refused-in-Ok-clause-shown g c = puts_line g.W.Sink c.args.form c.args.line.now _ c.args.number _ _ _ _ _ c.in-Ok.ensures.ok
    c.as_slice.ensures.value c.in_ok-refused-in-Ok.ensures.shown c.of_line.ensures

pub returns-in-Err : goal.returns-in-Err
returns-in-Err g c = record {
  shown = puts_no_hex g.W.Sink c.args.form c.args.line.now c.args.sink.now c.args.number c.in-Err.e c.no_hex.result c.in-Err.ensures.err
      c.no_hex.ensures.hex c.no_hex.ensures.told;
  early = on_err c.no_hex.result _ (puts_none g.W.Sink c.args.form c.args.line.now c.args.sink.now);
}
