use Rattle.std.proofs.Common.{◌∙◌, ap, sym}
use Rattle.std.specs.Prelude.{not, filter}
use Rattle.hex.specs.Hex.{decode_of}
use Rattle.canon_lines.specs.Lines.{is_blank}
use Rattle.canon_lines.proofs.DigitPairs.{plain_digits}
use Rattle.canon_lines.proofs.digits.decode_line.Goals as goal

pub returns-then-branch-clause-ok : goal.returns-then-branch-clause-ok
returns-then-branch-clause-ok c =
    let decoded = c.in_ok-decode_plain.ensures.plain c.if-branch.true in
    ap (λ l. decode_of (filter (λ b. not (is_blank b)) l)) (sym c.without_return-line.ensures) ∙ ap decode_of (plain_digits _ _ decoded) ∙ decoded
