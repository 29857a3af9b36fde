use Rattle.std.proofs.Common.{rules, subst}
use Rattle.canon_lines.specs.Firsts.{TakesParts}
use Rattle.canon_lines.specs.Texts.{text_bytes}
use Rattle.canon_lines.proofs.Leaves.{parts_none, parts_more, some_of}
use Rattle.canon_lines.proofs.leaf.push_parts.Goals as goal

pub loop-part-init : goal.loop-part-init
loop-part-init c = parts_none c.args.is_map c.args.bytes.now _

pub loop-part-preserved : goal.loop-part-preserved
loop-part-preserved c = rw c.next-separator.ensures
    (parts_more c.args.is_map c.loop-part._part c.loop-part.separator c.args.bytes.now c.loop-part.left.now c.in-Some.after.now _ _ _ _
    c.loop-part.invariant c.in_ok-push.ensures.text (some_of _ c.in-Some.after _ c.in-Some.is c.in_ok-after.ensures.told))

pub returns : goal.returns
returns c = record {
  told = (
    c.loop-part.separator,
    subst (λ n. TakesParts c.args.is_map n c.loop-part.separator c.args.bytes.now c.loop-part.left.now (text_bytes c.args.text.now)
        (text_bytes c.loop-part.text)) (search rules) c.loop-part.invariant,
  );
}
