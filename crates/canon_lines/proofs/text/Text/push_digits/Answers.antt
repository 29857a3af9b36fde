use Rattle.std.proofs.Common.{◌∙◌, ◌++◌, ap}
use Rattle.hex.specs.Hex.{encode_lower}
use Rattle.canon_lines.proofs.text.Text.push_digits.Goals as goal

pub returns : goal.returns
returns c =
    let digits = encode_lower c.args.bytes.now in
    record { hex = c.with_digits.ensures.hex ∙ ap (λ v. v.items ++ digits) c.take.ensures.taken ∙ ap (λ z. z ++ digits) c.reserve.ensures.items }
