use Rattle.std.proofs.Common.{rules, arith, ◌∙◌, ap, length}
use Rattle.std.proofs.lemmas.List.{length-drop}
use Rattle.std.proofs.lemmas.Result.{err_from_is_err_and}
use Rattle.canon_lines.proofs.Checked.{left_after}
use Rattle.canon_lines.proofs.Early.{on_err, refused_early}
use Rattle.canon_lines.proofs.Firsts.{first_some, first_more, first_early}
use Rattle.canon_lines.proofs.MessageReads.{message_refused, prints_failed}
use Rattle.canon_lines.proofs.Printing.{puts_both, prints_after}
use Rattle.canon_lines.proofs.Shown.{all_read}
use Rattle.canon_lines.proofs.run.run_messages.Goals as goal

pub slice_bounds-left-count : goal.slice_bounds-left-count
slice_bounds-left-count g c = (first_some c.in-Ok.len c.loop-left.left.now _ c.in-Ok.ensures.told).within

pub slice_bounds-left-start : goal.slice_bounds-left-start
slice_bounds-left-start g c = (first_some c.in-Ok.len c.loop-left.left.now _ c.in-Ok.ensures.told).within

pub loop-left-smaller : goal.loop-left-smaller
loop-left-smaller g c =
    let b = first_some c.in-Ok.len c.loop-left.left.now _ c.in-Ok.ensures.told in
    omega (arith, b.some, b.within, ap length (left_after c.in-Ok.len c.loop-left.left.now), length-drop c.in-Ok.len c.loop-left.left.now)

pub loop-left-preserved : goal.loop-left-preserved
loop-left-preserved g c =
    let inv = c.loop-left.invariant in
    record {
      read = first_more g.W.Sink c.in-Ok.len c.args.bytes.now c.loop-left.left.now _ c.in-Ok.ensures.told _
          (left_after c.in-Ok.len c.loop-left.left.now) inv.read c.in_ok-print_line-in-Ok.ensures.line;
      lines = puts_both g.W.Sink inv.lines c.in_ok-print_line-in-Ok.ensures.prints.whole;
      place = c.print_line.ensures.prints.place ∙ inv.place;
    }

pub returns-in_err-print_line-in-Ok-clause-prints : goal.returns-in_err-print_line-in-Ok-clause-prints
returns-in_err-print_line-in-Ok-clause-prints g c =
    let p = err_from_is_err_and c.from_residual.result c.from_residual.ensures.1 in
    rw (p.1, p.2) (prints_after g.W.Sink _ c.loop-left.invariant.lines c.loop-left.invariant.place
    (prints_failed g.W.Sink c.in_err-print_line-in-Ok.ensures.prints))

pub returns-in_err-print_line-in-Ok-clause-early : goal.returns-in_err-print_line-in-Ok-clause-early
returns-in_err-print_line-in-Ok-clause-early g c = on_err c.from_residual.result _
    (first_early g.W.Sink c.in-Ok.len c.args.bytes.now c.loop-left.left.now _ c.in-Ok.ensures.told c.loop-left.invariant.read
    c.in_err-print_line-in-Ok.ensures.early)

pub returns-in-Err : goal.returns-in-Err
returns-in-Err g c =
    let inv = c.loop-left.invariant in
    record {
      shown = message_refused g.W.Sink c.args.bytes.now _ _ c.in-Err.error c.refuse_message.result _ inv.read (search rules) (search rules)
          c.in-Err.ensures.none c.in-Err.ensures.wrong
          c.refuse_message.ensures.memory c.refuse_message.ensures.refused c.refuse_message.ensures.line;
      prints = prints_after g.W.Sink c.refuse_message.result inv.lines inv.place c.refuse_message.ensures.prints;
      early = refused_early g.W.Sink c.args.bytes.now _ _ c.in-Err.error c.refuse_message.result _ inv.read (search rules) (search rules)
          c.in-Err.ensures.none c.in-Err.ensures.wrong
          c.refuse_message.ensures.early;
    }

pub returns-clause-shown : goal.returns-clause-shown
returns-clause-shown g c = all_read g.W.Sink c.args.bytes.now _ c.loop-left.invariant.read (search rules)
