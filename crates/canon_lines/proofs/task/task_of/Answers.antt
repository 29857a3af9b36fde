use Rattle.std.proofs.Common.{refl, sym, ap, ◌∙◌, string_bytes}
use Rattle.std.specs.Cmp.Lexicographic.{same_text}
use Rattle.canon_lines.proofs.Arguments.{two}
use Rattle.canon_lines.proofs.task.task_of.Goals as goal

pub returns-in-len2-clause-check : goal.returns-in-len2-clause-check
returns-in-len2-clause-check c =
    let text = ap (λ a. string_bytes a) (sym c.only-item.is) ∙ sym c.as_str.ensures.value ∙ same_text c.as_str.result.now _ c.if-eq.ensures in
    (λ q. two (λ a. string_bytes a) c.args.arguments.now c.only-item.result _ c.in-len2.len_at_least c.in-len2.len_below text, λ q. refl)
