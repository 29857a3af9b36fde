use Rattle.std.proofs.Common.{◌≡◌, ◌∙◌, ◌++◌, ◌∷◌, [], ℕ, List, ap, sym, append_assoc}
use Rattle.hex.specs.Hex.{encode_lower}
use Rattle.rmp_wire.specs.Spelling.{canon}
use Rattle.rmp_serde.specs.Calls.{default_settings}
use Rattle.rmp_serde.specs.TreeText.{tree_text}
use Rattle.rmp_serde.proofs.Lowering.{value_spelled}
use Rattle.canon_lines.proofs.run.Messages.tell.Goals as goal

after_none : (old new piece whole : List ℕ) → new ≡ old ++ piece → old ≡ [] → piece ≡ whole → new ≡ whole
after_none old new piece whole put none is = put ∙ ap (λ z. z ++ piece) none ∙ is

pub returns : goal.returns
returns c =
    let m = c.args.value.now in
    let canonical : c.as_slice.result.now ≡ canon m = c.as_slice.ensures.value
    ∙ after_none _ _ _ (canon m) c.in-Ok.ensures.writes.whole c.clear.ensures.items (value_spelled default_settings m _ c.in-Ok.ensures.spelled) in
    record {
      text = c.in_ok-push_hex.ensures.hex ∙ ap (λ s. s ++ 32 ∷ encode_lower c.as_slice.result.now) c.in_ok-print.ensures.text
          ∙ ap (λ b. tree_text m ++ 32 ∷ encode_lower b) canonical ∙ sym (append_assoc (tree_text m) (32 ∷ []) (encode_lower (canon m)));
    }
