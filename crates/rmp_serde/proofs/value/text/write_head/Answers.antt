-- What each arm writes is the text of its head and its content.
use Rattle.std.proofs.Common.{rules, ◌≡◌, ◌∙◌, ℕ, List, ◌++◌, ap, refl}
use Rattle.std.specs.Prelude.{codes}
use Rattle.std.specs.Fmt.{HasWritten}
use Rattle.std.specs.declared.fmt.Formatter.{Formatter}
use Rattle.std.proofs.Output.{has_written_append, has_written_of_eq}
use Rattle.hex.specs.Hex.{encode_lower}
use Rattle.rmp_wire.specs.Msg.{Msg}
use Rattle.rmp_wire.specs.Spelling.{head_of}
use Rattle.rmp_wire.specs.declared.head.Head.{Head}
use Rattle.rmp_wire.specs.declared.head.Head.TheVariants.{Truth}
use Rattle.rmp_serde.specs.OpenParts.{head_text}
use Rattle.rmp_serde.specs.Parts.{tree, content_of}
use Rattle.rmp_serde.proofs.value.text.write_head.Goals as goal
use Rattle.rmp_serde.proofs.value.text.write_head.Goals.{then-truth, else-truth}

module _ {W : Type 0} (took : W → List ℕ → W → Type 0) (m : Msg) {h : Head} {f new : Formatter W} where
  one_put : {a : List ℕ} → h ≡ head_of m → a ≡ head_text h (content_of m) → HasWritten took f a new
      → HasWritten took f (head_text (head_of m) (content_of m)) new
  one_put e is put = has_written_of_eq took f _ _ new (is ∙ ap (λ x. head_text x (content_of m)) e) put

  two_put : {a b : List ℕ} {mid : Formatter W} → h ≡ head_of m → a ++ b ≡ head_text h (content_of m) → HasWritten took f a mid → HasWritten took mid b new
      → HasWritten took f (head_text (head_of m) (content_of m)) new
  two_put {a} {b} {mid} e is first second = one_put e is (has_written_append took f a mid b new first second)

pub returns-in-Nil : goal.returns-in-Nil
returns-in-Nil g c = record { writes = λ plain ok. one_put _ (tree c.args.value) c.in-Nil.ensures.head refl (c.write_str.ensures.writes plain ok) }

pub returns-after-truth : goal.returns-after-truth
returns-after-truth g c =
    let shown : c.if-truth.write_str.now ≡ head_text (Truth c.in-Truth.truth) (content_of (tree c.args.value)) = elim c.if-truth.branch [
      | then-truth w ↦ search rules
      | else-truth w ↦ search rules
    ] in
    record { writes = λ plain ok. one_put _ (tree c.args.value) c.in-Truth.ensures.head shown (c.write_str-in-Truth.ensures.writes plain ok) }

pub returns-in-Unsigned : goal.returns-in-Unsigned
returns-in-Unsigned g c = record { writes = λ plain ok. one_put _ (tree c.args.value) c.in-Unsigned.ensures.head refl (c.write.ensures.writes plain ok) }

pub returns-in_ok-write_str-in-F32 : goal.returns-in_ok-write_str-in-F32
returns-in_ok-write_str-in-F32 g c = record {
  writes = λ plain ok.
      let first = c.in_ok-write_str-in-F32.ensures.writes plain refl in
      two_put _ (tree c.args.value) c.in-F32.ensures.head (ap (λ b. codes "f32:" ++ encode_lower b) c.to_be_bytes.ensures) first
      (c.write_block.ensures.writes first.plain ok);
}

pub returns-in_ok-write_str-in-F64 : goal.returns-in_ok-write_str-in-F64
returns-in_ok-write_str-in-F64 g c = record {
  writes = λ plain ok.
      let first = c.in_ok-write_str-in-F64.ensures.writes plain refl in
      two_put _ (tree c.args.value) c.in-F64.ensures.head (ap (λ b. codes "f64:" ++ encode_lower b) c.to_be_bytes-in-F64.ensures) first
      (c.write_block-in-F64.ensures.writes first.plain ok);
}

pub returns-in_ok-write_str-in-Text : goal.returns-in_ok-write_str-in-Text
returns-in_ok-write_str-in-Text g c = record {
  writes = λ plain ok.
      let first = c.in_ok-write_str-in-Text.ensures.writes plain refl in
      two_put _ (tree c.args.value) c.in-Text.ensures.head (ap (λ s. codes "t:" ++ encode_lower s) c.content.ensures.content) first
      (c.write_digits.ensures.writes first.plain ok);
}

pub returns-in_ok-write_str-in-Bytes : goal.returns-in_ok-write_str-in-Bytes
returns-in_ok-write_str-in-Bytes g c = record {
  writes = λ plain ok.
      let first = c.in_ok-write_str-in-Bytes.ensures.writes plain refl in
      two_put _ (tree c.args.value) c.in-Bytes.ensures.head (ap (λ s. codes "b:" ++ encode_lower s) c.content-in-Bytes.ensures.content) first
      (c.write_digits-in-Bytes.ensures.writes first.plain ok);
}

pub returns-in-List : goal.returns-in-List
returns-in-List g c = record { writes = λ plain ok. one_put _ (tree c.args.value) c.in-List.ensures.head refl (c.write_str-in-List.ensures.writes plain ok) }

pub returns-in-Map : goal.returns-in-Map
returns-in-Map g c = record { writes = λ plain ok. one_put _ (tree c.args.value) c.in-Map.ensures.head refl (c.write_str-in-Map.ensures.writes plain ok) }
