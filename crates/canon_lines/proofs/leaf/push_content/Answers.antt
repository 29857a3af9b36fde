use Rattle.std.proofs.Common.{sym}
use Rattle.std.proofs.lemmas.List.{take-append-drop}
use Rattle.canon_lines.proofs.leaf.push_content.Goals as goal

pub returns : goal.returns
returns c = record {
  told = record {
    payload = c.split_at.result.0.now;
    split = rw (c.split_at.ensures.front, c.split_at.ensures.back) (sym (take-append-drop _ _));
    leaf = c.in_ok-push_payload.ensures.told c.if-not-branch.false;
  };
}
