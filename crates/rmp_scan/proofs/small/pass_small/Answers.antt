-- Each turn passes one message more.
use Rattle.std.proofs.Common.{arith, refl, ◌<◌, get_or}
use Rattle.rmp_scan.proofs.Passing.{passes_more}
use Rattle.rmp_scan.proofs.FirstByte.{parts_few}
use Rattle.rmp_scan.proofs.Table.{fixed_is}
use Rattle.rmp_scan.proofs.small.pass_small.Goals as goal

pub small-init : goal.small-init
small-init c = record { within = omega arith; passes = c.pass_numbers-at.ensures.passes c.args.most (omega arith); claims = omega arith }

pub small-preserved : goal.small-preserved
small-preserved c =
    let s = c.small_of-small.result in
    let v = c.small.invariant in
    let b : get_or c.args.bytes.now c.small.at 0 < 256 = omega (arith, c.type_inv.bytes c.small.at) in
    let o = fixed_is _ s.payload s.parts c.small_of-small.ensures (omega arith) in
    let few = parts_few _ s.payload s.parts b o in
    record {
      within = omega arith;
      passes = rw c.from.ensures (passes_more c.args.bytes.now c.small.at c.args.most c.small.wanted (get_or c.args.bytes.now c.small.at 0) s.payload s.parts v.passes
          c.small-test.true refl o (omega arith) (λ i. omega (arith, c.type_inv.bytes i)));
      claims = omega (arith, few);
    }
