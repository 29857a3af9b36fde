use Rattle.std.proofs.Common.{arith, refl, ap, subst, ◌∙◌, ◌+◌}
use Rattle.std.specs.Prelude.{Some}
use Rattle.canon_lines.specs.Shows.{TellsNext}
use Rattle.canon_lines.specs.Texts.{text_bytes}
use Rattle.canon_lines.specs.declared.show.refused.Refused.{Refused}
use Rattle.canon_lines.proofs.Early.{on_err}
use Rattle.canon_lines.proofs.Showing.{told_some, more_held, one_more, then_refused, shown_early, more_early}
use Rattle.canon_lines.proofs.show.show_messages.Goals as goal

pub returns-in_err-tell_next-clause-early : goal.returns-in_err-tell_next-clause-early
returns-in_err-tell_next-clause-early g c = on_err c.from_residual.result _
    (shown_early g.R.Source g.W.Sink c.args.form _ _ _ _ _ _ _ c.messages.invariant.shown)

pub returns-in_err-next-in-Some-Message-clause-early : goal.returns-in_err-next-in-Some-Message-clause-early
returns-in_err-next-in-Some-Message-clause-early g c = on_err c.from_residual-in_err-next-in-Some-Message.result _
    (shown_early g.R.Source g.W.Sink c.args.form _ _ _ _ _ _ _ c.messages.invariant.shown)

pub returns-in_err-print_text-in-Some-Message-clause-early : goal.returns-in_err-print_text-in-Some-Message-clause-early
returns-in_err-print_text-in-Some-Message-clause-early g c =
    let now = more_held g.R.Source g.W.Sink c.args.form _ _ _ _ _ _ _ _ _ c.messages.invariant.shown c.in_ok-tell_next.ensures.pulled in
    let told = subst (TellsNext c.args.form (g.R.Source.ahead c.messages.source) c.messages.held.items c.tell_next.new.held.items
    (text_bytes c.tell_next.new.text)) (c.in-Some-Message.is ∙ ap Some c.in-Some-Message.field-0-is) c.in_ok-tell_next.ensures.told in
    on_err c.from_residual-in_err-print_text-in-Some-Message.result _
    (more_early g.R.Source g.W.Sink c.args.form _ _ _ _ _ _ _ _ _ _ now told c.in_err-print_text-in-Some-Message.ensures.early)

pub messages-smaller : goal.messages-smaller
messages-smaller g c =
    let told = subst (TellsNext c.args.form (g.R.Source.ahead c.messages.source) c.messages.held.items c.tell_next.new.held.items
    (text_bytes c.tell_next.new.text)) (c.in-Some-Message.is ∙ ap Some c.in-Some-Message.field-0-is) c.in_ok-tell_next.ensures.told in
    let bytes = told_some c.args.form c.in-Some-Message.len c.tell_next.new.held.items (text_bytes c.tell_next.new.text) told in
    omega (arith, bytes.some, c.in_ok-next-in-Some-Message.ensures.offset, c.in_ok-next-in-Some-Message.ensures.below)

pub messages-preserved : goal.messages-preserved
messages-preserved g c =
    let now = more_held g.R.Source g.W.Sink c.args.form _ _ _ _ _ _ _ _ _ c.messages.invariant.shown c.in_ok-tell_next.ensures.pulled in
    let told = subst (TellsNext c.args.form (g.R.Source.ahead c.messages.source) c.messages.held.items c.tell_next.new.held.items
    (text_bytes c.tell_next.new.text)) (c.in-Some-Message.is ∙ ap Some c.in-Some-Message.field-0-is) c.in_ok-tell_next.ensures.told in
    record {
      shown = one_more g.R.Source g.W.Sink c.args.form _ _ _ _ _ _ _ _ _ _ _ _ _ now told c.in_ok-print_text-in-Some-Message.ensures.line
          c.remove_front.ensures.items c.in_ok-next-in-Some-Message.ensures.number c.in_ok-next-in-Some-Message.ensures.offset;
    }

pub returns-in_err-part-in-Some-Refused-clause-early : goal.returns-in_err-part-in-Some-Refused-clause-early
returns-in_err-part-in-Some-Refused-clause-early g c = on_err c.from_residual-in_err-part-in-Some-Refused.result _
    (shown_early g.R.Source g.W.Sink c.args.form _ _ _ _ _ _ _ c.messages.invariant.shown)

pub returns-in-Some-Refused-clause-shown : goal.returns-in-Some-Refused-clause-shown
returns-in-Some-Refused-clause-shown g c =
    let told = subst (TellsNext c.args.form (g.R.Source.ahead c.messages.source) c.messages.held.items c.tell_next.new.held.items
    (text_bytes c.tell_next.new.text)) (c.in-Some-Refused.is ∙ ap Some c.in-Some-Refused.field-0-is) c.in_ok-tell_next.ensures.told in
    let r : Refused = record {
      number = c.messages.place.number;
      offset = c.in_ok-part-in-Some-Refused.part.offset;
      path = c.in-Some-Refused.path;
      why = c.in-Some-Refused.why;
    } in
    then_refused g.R.Source g.W.Sink c.args.form _ _ _ _ _ _ _ _ _ r c.messages.invariant.shown c.in_ok-tell_next.ensures.pulled told refl
    (c.in_ok-part-in-Some-Refused.ensures.offset ∙ ap (λ n. c.messages.place.offset + n) c.place.ensures)
