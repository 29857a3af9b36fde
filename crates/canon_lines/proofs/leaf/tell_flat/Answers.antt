use Rattle.std.proofs.Common.{refl}
use Rattle.canon_lines.proofs.Leaves.{flat_first, some_of}
use Rattle.canon_lines.proofs.leaf.tell_flat.Goals as goal

pub returns : goal.returns
returns c = record {
  told = λ _. flat_first c.args.bytes.now c.in-Some.after.now _ _ _ _ c.clear.ensures.none
      (some_of _ c.in-Some.after _ c.in-Some.is c.in_ok-after.ensures.told) refl c.in_ok-push_hex.ensures.hex;
}
