use Rattle.std.proofs.Common.{◌∙◌, ◌++◌, ◌∷◌, [], ap, append_assoc}
use Rattle.hex.specs.Hex.{encode_lower}
use Rattle.canon_lines.proofs.text.Text.push_hex.Goals as goal

pub returns : goal.returns
returns c =
    let digits = encode_lower c.args.bytes.now in
    record {
      hex = c.in_ok-push_digits.ensures.hex ∙ ap (λ z. z ++ digits) c.in_ok-push.ensures.items ∙ append_assoc c.args.self.now.bytes.items (32 ∷ []) digits;
    }
