use Rattle.rmp_wire.proofs.Taken.{bytes_from}
use Rattle.canon_lines.proofs.Leaves.{content_taken, weaker}
use Rattle.canon_lines.proofs.leaf.push_leaf.Goals as goal

pub returns : goal.returns
returns c =
    let bytes = bytes_from c.args.bytes.now (λ k. (c.type_inv.bytes k).fits) in
    record {
      told = weaker c.push_content.result _ _
          (λ rest p. content_taken 0 c.args.bytes.now c.in-Some.rest.now rest.now _ _ c.in-Some.head bytes c.in-Some.ensures.head p) c.push_content.ensures.told;
    }
