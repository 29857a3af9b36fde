-- Each turn passes one leaf more.
use Rattle.std.proofs.Common.{arith, refl, get_or, ap, length, ◌∙◌}
use Rattle.std.proofs.lemmas.List.{length-drop}
use Rattle.rmp_decode.proofs.LeafTable.{passes_none, passes_more, passes_leaf, from_place_is}
use Rattle.rmp_decode.proofs.deserializer.skip.leaves.pass_leaves.Goals as goal

pub leaves-init : goal.leaves-init
leaves-init c = record { within = omega arith; fewer = omega arith; passes = passes_none c.args.strict c.args.most }

pub leaves-preserved-then-payload-len : goal.leaves-preserved-then-payload-len
leaves-preserved-then-payload-len c =
    let v = c.leaves.invariant in
    record {
      within = omega arith;
      fewer = omega arith;
      passes = passes_more c.args.strict c.args.bytes.now c.leaves.at c.args.most c.leaves.wanted (get_or c.args.bytes.now c.leaves.at 0)
          c.following-payload.result v.passes (omega arith) refl c.following-payload.ensures (omega arith) (omega arith) (λ i. omega (arith, c.type_inv.bytes i));
    }

pub leaves-preserved : goal.leaves-preserved
leaves-preserved c =
    let v = c.leaves.invariant in
    let e = c.other_leaf-size.ensures in
    let following = ap length (from_place_is c.args.bytes.now c.leaves.at) ∙ length-drop c.leaves.at c.args.bytes.now in
    record {
      within = omega (arith, e.within, following);
      fewer = omega arith;
      passes = passes_leaf c.args.strict c.args.bytes.now c.leaves.at c.args.most c.leaves.wanted c.other_leaf-size.result v.passes (omega arith) (omega arith)
          e.within (e.leaf (omega arith));
    }
