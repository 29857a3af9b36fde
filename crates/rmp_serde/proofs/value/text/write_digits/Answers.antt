use Rattle.std.proofs.Common.{rules, arith, ℕ, List, [], ◌++◌, sym, ap, ◌∙◌, append_assoc, append-nil}
use Rattle.std.proofs.Output.{has_written_append, has_written_of_eq}
use Rattle.std.proofs.lemmas.List.{nil_from_length}
use Rattle.std.specs.Slice.Iter.{chunks_rest}
use Rattle.hex.specs.Hex.{encode_lower}
use Rattle.rmp_serde.proofs.HexText.{digits_append, digits_none}
use Rattle.rmp_serde.proofs.value.text.write_digits.Goals as goal

pub loop-block-init : goal.loop-block-init
loop-block-init g c = (search rules, tt, search rules, λ plain. ([], search rules, search rules))

pub write_block-requires : goal.write_block-requires
write_block-requires g c = record { few = omega (arith, c.in-Some.ensures.steps.1.1, c.loop-block.invariant.2) }

pub loop-block-preserved : goal.loop-block-preserved
loop-block-preserved g c =
    let steps = c.in-Some.ensures.steps in (
      search rules,
      tt,
      steps.0 ∙ c.loop-block.invariant.2,
      λ plain.
          let so_far = c.loop-block.invariant.3 plain in (
            so_far.0 ++ encode_lower c.in-Some.block.now,
            has_written_append _ _ _ _ _ _ so_far.1 (search rules),
            append_assoc so_far.0 _ _
                ∙ ap (λ (t : List ℕ). so_far.0 ++ t) (sym (digits_append c.in-Some.block.now (chunks_rest c.next.new.self)) ∙ ap encode_lower (sym steps.1.0))
                ∙ so_far.2,
          ),
    )

pub returns : goal.returns
returns g c = record {
  writes = λ plain _.
      let so_far = c.loop-block.invariant.3 plain in
      let none = nil_from_length _ c.in-None.ensures.steps.1.0 in
      has_written_of_eq _ _ _ _ _ (rw (none, digits_none, append-nil) at so_far.2) so_far.1;
}
