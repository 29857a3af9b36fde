use Rattle.std.proofs.Common.{rules, pos, ◌≡◌, ◌∙◌, ◌++◌, List, ℕ, ap, sym, append_assoc}
use Rattle.std.specs.Int.{w128}
use Rattle.std.proofs.lemmas.Int.{to_z-of_z}
use Rattle.hex.specs.Hex.{encode_lower}
use Rattle.rmp_wire.specs.Kinds.{content_len}
use Rattle.canon_lines.specs.Texts.{text_bytes}
use Rattle.canon_lines.proofs.Leaves.{leaf_nil, leaf_true, leaf_false, leaf_number, leaf_f32, leaf_f64, leaf_text, leaf_bytes}
use Rattle.canon_lines.proofs.leaf.push_payload.Goals as goal

-- two pieces were appended
two : (o a b mid new : List ℕ) → mid ≡ o ++ a → new ≡ mid ++ b → new ≡ o ++ (a ++ b)
two o a b mid new e f = f ∙ ap (λ z. z ++ b) e ∙ append_assoc o a b

pub returns-in_ok-push-in-Nil : goal.returns-in_ok-push-in-Nil
returns-in_ok-push-in-Nil c = record {
  told = λ _. rw c.in-Nil.is (leaf_nil c.args.payload.now _ _ (c.requires.long ∙ ap content_len c.in-Nil.is) c.in_ok-push-in-Nil.ensures.text);
}

pub returns-in_ok-push-in-Truth-true : goal.returns-in_ok-push-in-Truth-true
returns-in_ok-push-in-Truth-true c = record {
  told = λ _. rw (c.in-Truth-true.is, c.in-Truth-true.field-0-test)
      (leaf_true c.args.payload.now _ _ (c.requires.long ∙ ap content_len c.in-Truth-true.is) c.in_ok-push-in-Truth-true.ensures.text);
}

pub returns-in_ok-push-in-Truth-false : goal.returns-in_ok-push-in-Truth-false
returns-in_ok-push-in-Truth-false c = record {
  told = λ _. rw (c.in-Truth-false.is, c.in-Truth-false.field-0-test)
      (leaf_false c.args.payload.now _ _ (c.requires.long ∙ ap content_len c.in-Truth-false.is) c.in_ok-push-in-Truth-false.ensures.text);
}

pub returns-in_ok-push_printed-in-Some : goal.returns-in_ok-push_printed-in-Some
returns-in_ok-push_printed-in-Some c = record {
  told = λ _. rw (c.in-Whole.is, sym (to_z-of_z w128 c.in-Whole.number (search rules)) ∙ c.in-Some.ensures)
      (leaf_number (pos c.in-Some.number) c.args.payload.now _ _ (c.requires.long ∙ ap content_len c.in-Whole.is) c.in_ok-push_printed-in-Some.ensures.text);
}

pub returns-in_ok-push_digits-in-F32Bits : goal.returns-in_ok-push_digits-in-F32Bits
returns-in_ok-push_digits-in-F32Bits c = record {
  told = λ _. rw c.in-F32Bits.is
      (leaf_f32 c.in-F32Bits.bits c.args.payload.now _ _ (c.requires.long ∙ ap content_len c.in-F32Bits.is)
      (two _ _ _ _ _ c.in_ok-push-in-F32Bits.ensures.text
      (c.in_ok-push_digits-in-F32Bits.ensures.hex ∙ ap (λ b. text_bytes c.push-in-F32Bits.new.self ++ encode_lower b) c.to_be_bytes.ensures)));
}

pub returns-in_ok-push_digits-in-F64Bits : goal.returns-in_ok-push_digits-in-F64Bits
returns-in_ok-push_digits-in-F64Bits c = record {
  told = λ _. rw c.in-F64Bits.is
      (leaf_f64 c.in-F64Bits.bits c.args.payload.now _ _ (c.requires.long ∙ ap content_len c.in-F64Bits.is)
      (two _ _ _ _ _ c.in_ok-push-in-F64Bits.ensures.text
      (c.in_ok-push_digits-in-F64Bits.ensures.hex ∙ ap (λ b. text_bytes c.push-in-F64Bits.new.self ++ encode_lower b) c.to_be_bytes-in-F64Bits.ensures)));
}

pub returns-in_ok-push_digits-in-Text : goal.returns-in_ok-push_digits-in-Text
returns-in_ok-push_digits-in-Text c = record {
  told = λ _. rw c.in-Text.is
      (leaf_text c.in-Text.field-0 c.args.payload.now _ _ (c.requires.long ∙ ap content_len c.in-Text.is) (search rules)
      (two _ _ _ _ _ c.in_ok-push-in-Text.ensures.text c.in_ok-push_digits-in-Text.ensures.hex));
}

pub returns-in_ok-push_digits-in-Bin : goal.returns-in_ok-push_digits-in-Bin
returns-in_ok-push_digits-in-Bin c = record {
  told = λ _. rw c.in-Bin.is
      (leaf_bytes c.in-Bin.field-0 c.args.payload.now _ _ (c.requires.long ∙ ap content_len c.in-Bin.is)
      (two _ _ _ _ _ c.in_ok-push-in-Bin.ensures.text c.in_ok-push_digits-in-Bin.ensures.hex));
}

pub returns-in_ok-push_printed-in-Some-signed : goal.returns-in_ok-push_printed-in-Some-signed
returns-in_ok-push_printed-in-Some-signed c = record {
  told = λ _. rw (c.in-Whole.is, sym (to_z-of_z w128 c.in-Whole.number (search rules)) ∙ c.in-Some-signed.ensures)
      (leaf_number c.in-Some-signed.number c.args.payload.now (text_bytes c.args.text.now) (text_bytes c.push_printed-in-Some-signed.new.self)
      (c.requires.long ∙ ap content_len c.in-Whole.is) (search rules));
}
