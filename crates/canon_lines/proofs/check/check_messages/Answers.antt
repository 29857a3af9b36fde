use Rattle.std.proofs.Common.{rules, arith, ◌≡◌, ◌∙◌, Ok, inl, ap, refl, subst, length}
use Rattle.std.specs.Io.KnownBytes.{Appends}
use Rattle.std.proofs.lemmas.List.{length-append, length-drop}
use Rattle.std.proofs.lemmas.Result.{err_from_is_err_and}
use Rattle.rmp_serde.specs.Places.{IsWhole, IsFault}
use Rattle.canon_lines.specs.Messages.{canonical_text}
use Rattle.canon_lines.specs.Texts.{text_bytes}
use Rattle.canon_lines.specs.Prints.{line, IsStart, Puts}
use Rattle.canon_lines.proofs.Checked.{
  whole_some,
  fault_within,
  left_after,
  all_checked,
  checked_more,
  fault_ends,
  stop_ends,
  checked_early,
  whole_early,
  fault_early,
  stop_early,
}
use Rattle.canon_lines.proofs.Early.{on_err}
use Rattle.canon_lines.proofs.MessageReads.{prints_failed}
use Rattle.canon_lines.proofs.Printing.{puts_both, prints_ok, prints_err, prints_after}
use Rattle.canon_lines.proofs.check.check_messages.Goals as goal

pub slice_bounds-left-count : goal.slice_bounds-left-count
slice_bounds-left-count g c =
    let whole : IsWhole c.loop-left.left.now c.in-Ok-Whole.len = (c.check_canonical.ensures.whole c.in-Ok-Whole.len).0
    (c.in-Ok-Whole.is ∙ ap Ok c.in-Ok-Whole.field-0-is) in
    (whole_some c.loop-left.left.now c.in-Ok-Whole.len whole).within

pub slice_bounds-left-start : goal.slice_bounds-left-start
slice_bounds-left-start g c =
    let whole : IsWhole c.loop-left.left.now c.in-Ok-Whole.len = (c.check_canonical.ensures.whole c.in-Ok-Whole.len).0
    (c.in-Ok-Whole.is ∙ ap Ok c.in-Ok-Whole.field-0-is) in
    (whole_some c.loop-left.left.now c.in-Ok-Whole.len whole).within

pub loop-left-smaller : goal.loop-left-smaller
loop-left-smaller g c =
    let whole : IsWhole c.loop-left.left.now c.in-Ok-Whole.len = (c.check_canonical.ensures.whole c.in-Ok-Whole.len).0
    (c.in-Ok-Whole.is ∙ ap Ok c.in-Ok-Whole.field-0-is) in
    let b = whole_some c.loop-left.left.now c.in-Ok-Whole.len whole in
    omega (arith, b.some, b.within, ap length (left_after c.in-Ok-Whole.len c.loop-left.left.now), length-drop c.in-Ok-Whole.len c.loop-left.left.now)

pub loop-left-preserved : goal.loop-left-preserved
loop-left-preserved g c =
    let inv = c.loop-left.invariant in
    let whole : IsWhole c.loop-left.left.now c.in-Ok-Whole.len = (c.check_canonical.ensures.whole c.in-Ok-Whole.len).0
    (c.in-Ok-Whole.is ∙ ap Ok c.in-Ok-Whole.field-0-is) in
    let text : text_bytes c.print.new.self ≡ canonical_text c.in-Ok-Whole.len = c.in_ok-print-in-Ok-Whole.ensures.text in
    let printed = subst (λ s. Appends (g.W.Sink.told c.loop-left.sink) (g.W.Sink.told c.print_line.new.sink) (line s)) text
    c.in_ok-print_line-in-Ok-Whole.ensures.line in
    record {
      read = checked_more g.W.Sink c.args.bytes.now c.loop-left.left.now _ c.in-Ok-Whole.len inv.read whole
          (left_after c.in-Ok-Whole.len c.loop-left.left.now) printed;
      lines = puts_both g.W.Sink inv.lines c.in_ok-print_line-in-Ok-Whole.ensures.prints.whole;
      place = c.print_line.ensures.prints.place ∙ inv.place;
    }

pub returns-in_err-print_line-in-Ok-Whole-clause-prints : goal.returns-in_err-print_line-in-Ok-Whole-clause-prints
returns-in_err-print_line-in-Ok-Whole-clause-prints g c =
    let p = err_from_is_err_and c.from_residual-in_err-print_line-in-Ok-Whole.result c.from_residual-in_err-print_line-in-Ok-Whole.ensures.1 in
    rw (p.1, p.2) (prints_after g.W.Sink _ c.loop-left.invariant.lines c.loop-left.invariant.place
    (prints_failed g.W.Sink c.in_err-print_line-in-Ok-Whole.ensures.prints))

pub overflow_add-place : goal.overflow_add-place
overflow_add-place g c =
    let fault : IsFault c.loop-left.left.now c.in-Ok-Fault.at = (c.check_canonical.ensures.fault c.in-Ok-Fault.at).0
    (c.in-Ok-Fault.is ∙ ap Ok c.in-Ok-Fault.field-0-is) in
    let within = fault_within c.loop-left.left.now c.in-Ok-Fault.at fault in
    let read = c.loop-left.invariant.read in
    let all = ap length read.holds.split ∙ length-append read.front c.loop-left.left.now in
    omega (arith, within, all)

pub returns-in-Ok-Fault-clause-shown : goal.returns-in-Ok-Fault-clause-shown
returns-in-Ok-Fault-clause-shown g c =
    let fault : IsFault c.loop-left.left.now c.in-Ok-Fault.at = (c.check_canonical.ensures.fault c.in-Ok-Fault.at).0
    (c.in-Ok-Fault.is ∙ ap Ok c.in-Ok-Fault.field-0-is) in
    fault_ends g.W.Sink c.args.bytes.now c.loop-left.left.now _ c.in-Ok-Fault.at c.refuse.result _ c.loop-left.invariant.read refl fault
    c.refuse.ensures.refused c.refuse.ensures.line

pub returns-in-Ok-Fault-clause-prints : goal.returns-in-Ok-Fault-clause-prints
returns-in-Ok-Fault-clause-prints g c = prints_after g.W.Sink c.refuse.result c.loop-left.invariant.lines c.loop-left.invariant.place c.refuse.ensures.prints

pub returns-in-Err-clause-shown : goal.returns-in-Err-clause-shown
returns-in-Err-clause-shown g c =
    stop_ends g.W.Sink c.args.bytes.now c.loop-left.left.now _ c.in-Err.error c.refuse_message.result _ c.loop-left.invariant.read refl
    (search rules) c.in-Err.ensures.stops c.refuse_message.ensures.memory c.refuse_message.ensures.refused c.refuse_message.ensures.line

pub returns-in-Err-clause-prints : goal.returns-in-Err-clause-prints
returns-in-Err-clause-prints g c = prints_after g.W.Sink c.refuse_message.result c.loop-left.invariant.lines c.loop-left.invariant.place
    c.refuse_message.ensures.prints

pub returns-in_err-print-in-Ok-Whole-clause-early : goal.returns-in_err-print-in-Ok-Whole-clause-early
returns-in_err-print-in-Ok-Whole-clause-early g c = on_err c.from_residual.result _
    (checked_early g.W.Sink c.args.bytes.now c.loop-left.left.now c.loop-left.invariant.read)

pub returns-in_err-print_line-in-Ok-Whole-clause-early : goal.returns-in_err-print_line-in-Ok-Whole-clause-early
returns-in_err-print_line-in-Ok-Whole-clause-early g c =
    let whole : IsWhole c.loop-left.left.now c.in-Ok-Whole.len = (c.check_canonical.ensures.whole c.in-Ok-Whole.len).0
    (c.in-Ok-Whole.is ∙ ap Ok c.in-Ok-Whole.field-0-is) in
    let text : text_bytes c.print.new.self ≡ canonical_text c.in-Ok-Whole.len = c.in_ok-print-in-Ok-Whole.ensures.text in
    let put = subst (λ s. Puts g.W.Sink (IsStart (line s)) c.loop-left.sink c.print_line.new.sink) text c.in_err-print_line-in-Ok-Whole.ensures.early in
    on_err c.from_residual-in_err-print_line-in-Ok-Whole.result _
    (whole_early g.W.Sink c.args.bytes.now c.loop-left.left.now c.in-Ok-Whole.len c.print_line.new.sink c.loop-left.invariant.read whole put)

pub returns-in-Ok-Fault-clause-early : goal.returns-in-Ok-Fault-clause-early
returns-in-Ok-Fault-clause-early g c =
    let fault : IsFault c.loop-left.left.now c.in-Ok-Fault.at = (c.check_canonical.ensures.fault c.in-Ok-Fault.at).0
    (c.in-Ok-Fault.is ∙ ap Ok c.in-Ok-Fault.field-0-is) in
    fault_early g.W.Sink c.args.bytes.now c.loop-left.left.now _ c.in-Ok-Fault.at c.refuse.result _ c.loop-left.invariant.read refl fault
    c.refuse.ensures.early

pub returns-in-Err-clause-early : goal.returns-in-Err-clause-early
returns-in-Err-clause-early g c =
    stop_early g.W.Sink c.args.bytes.now c.loop-left.left.now _ c.in-Err.error c.refuse_message.result _ c.loop-left.invariant.read refl
    (search rules) c.in-Err.ensures.stops c.refuse_message.ensures.early

pub returns-in_err-print-in-Ok-Whole-clause-prints : goal.returns-in_err-print-in-Ok-Whole-clause-prints
returns-in_err-print-in-Ok-Whole-clause-prints g c =
    let p = err_from_is_err_and c.from_residual.result c.from_residual.ensures.1 in
    rw (p.1, p.2) (prints_err g.W.Sink (inl c.loop-left.invariant.lines) c.loop-left.invariant.place)

pub returns-clause-shown : goal.returns-clause-shown
returns-clause-shown g c = all_checked g.W.Sink c.args.bytes.now _ c.loop-left.invariant.read (search rules)

pub returns-clause-prints : goal.returns-clause-prints
returns-clause-prints g c = prints_ok g.W.Sink c.loop-left.invariant.lines c.loop-left.invariant.place
