use Rattle.std.proofs.Common.{sym, ap, ◌∙◌, inl, inr, string_bytes}
use Rattle.std.specs.Cmp.Lexicographic.{same_text}
use Rattle.canon_lines.proofs.Arguments.{second, third}
use Rattle.canon_lines.proofs.show.options.options_of.Goals as goal

pub returns-in-len2 : goal.returns-in-len2
returns-in-len2 c =
    let one = ap (λ a. string_bytes a) (sym c.one-item.is) ∙ sym c.as_str.ensures.value ∙ same_text c.as_str.result.now _ c.if-eq.ensures in
    record { some = second (λ a. string_bytes a) c.args.arguments.now c.one-item.result _ c.in-len2.len_at_least c.in-len2.len_below one }

pub returns-in-len2-2 : goal.returns-in-len2-2
returns-in-len2-2 c =
    let item = c.one-item-then-arguments-lt3 in
    let text = c.as_str-then-arguments-lt3 in
    let one = ap (λ a. string_bytes a) (sym item.is) ∙ sym text.ensures.value ∙ same_text text.result.now _ c.if-eq-2.ensures in
    record { some = second (λ a. string_bytes a) c.args.arguments.now item.result _ c.in-len2.len_at_least c.in-len2.len_below one }

pub returns-in-len3 : goal.returns-in-len3
returns-in-len3 c =
    let item = c.one-item-then-arguments-lt4 in
    let text = c.as_str-then-arguments-lt4 in
    let one = ap (λ a. string_bytes a) (sym item.is) ∙ sym text.ensures.value ∙ same_text text.result.now _ c.if-eq-3.ensures in
    let more = c.as_str-then-eq-3 in
    let two = ap (λ a. string_bytes a) (sym c.two-item.is) ∙ sym more.ensures.value ∙ same_text more.result.now _ c.if-eq-4.ensures in
    record {
      some = inl (third (λ a. string_bytes a) c.args.arguments.now item.result c.two-item.result _ _ c.in-len3.len_at_least c.in-len3.len_below one two);
    }

pub returns-in-len3-2 : goal.returns-in-len3-2
returns-in-len3-2 c =
    let item = c.one-item-then-arguments-lt4-2 in
    let text = c.as_str-then-arguments-lt4-2 in
    let one = ap (λ a. string_bytes a) (sym item.is) ∙ sym text.ensures.value ∙ same_text text.result.now _ c.if-eq-5.ensures in
    let other = c.two-item-then-arguments-lt4 in
    let more = c.as_str-then-eq-5 in
    let two = ap (λ a. string_bytes a) (sym other.is) ∙ sym more.ensures.value ∙ same_text more.result.now _ c.if-eq-6.ensures in
    record {
      some = inr (third (λ a. string_bytes a) c.args.arguments.now item.result other.result _ _ c.in-len3.len_at_least c.in-len3.len_below one two);
    }
