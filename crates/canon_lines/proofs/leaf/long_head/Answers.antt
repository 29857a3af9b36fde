use Rattle.canon_lines.proofs.Leaves.{head_read}
use Rattle.canon_lines.proofs.leaf.long_head.Goals as goal

pub returns : goal.returns
returns c =
    let t = c.in-Ok.ensures.reads.ok in
    record {
      head = head_read c.args.bytes.now c.next_head.new.source.now t.rest c.in-Ok.marker c.in-Ok.head t.is_head t.taken
          (λ f. (c.is_canonical.ensures.canonical f).0 c.if-not-is_canonical.false);
    }
