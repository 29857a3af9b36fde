use Rattle.std.proofs.Common.{◌∙◌, ◌++◌, ap}
use Rattle.canon_lines.specs.Texts.{text_bytes}
use Rattle.canon_lines.proofs.Leaves.{row_taken, some_of}
use Rattle.canon_lines.proofs.leaf.push_row.Goals as goal

pub returns : goal.returns
returns c =
    let p = some_of _ c.in-Some.after _ c.in-Some.is c.in_ok-after.ensures.told in
    record {
      told = row_taken c.args.is_map c.args.count p.0 c.args.bytes.now c.in-Some.after.now (text_bytes c.args.text.now) (text_bytes c.push.new.self)
          (text_bytes c.push_parts.new.text) (text_bytes c.push-2.new.self)
          (c.in_ok-push.ensures.text ∙ ap (λ s. text_bytes c.args.text.now ++ s) c.opening_of.ensures) p.1
          (c.in_ok-push-2.ensures.text ∙ ap (λ s. text_bytes c.push_parts.new.text ++ s) c.closing_of.ensures);
    }
