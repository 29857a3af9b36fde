use Rattle.std.proofs.Common.{arith}
use Rattle.rmp_wire.proofs.Taken.{bytes_from}
use Rattle.rmp_scan.proofs.Scanning.{begins_or_ends}
use Rattle.rmp_ends.proofs.laws.ends_are_inside.Goals as goal

pub returns : goal.returns
returns g c =
    let own = bytes_from c.args.input.now (λ i. omega (arith, c.type_inv.input i)) in
    record {
      begins = λ s e r end. c.always_inside.ensures s 0 c.args.input.now e own r end;
      whole = λ s n e r k end. begins_or_ends c.args.input.now n k (c.always_inside.ensures s 0 c.args.input.now e own r end);
    }
