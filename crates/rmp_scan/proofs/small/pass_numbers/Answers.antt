-- Each turn passes one number more.
use Rattle.std.proofs.Common.{arith, subst, ◌≡◌, ◌-◌, []}
use Rattle.rmp_scan.specs.Openings.{Passes}
use Rattle.rmp_scan.proofs.Passing.{passes_none}
use Rattle.rmp_scan.proofs.Table.{number_more}
use Rattle.rmp_scan.proofs.small.pass_numbers.Goals as goal

pub numbers-init : goal.numbers-init
numbers-init c = record { most = omega arith; passes = λ n l. let e : n ≡ n - 0 = omega arith in subst (λ z. Passes [] n z) e (passes_none n) }

pub numbers-preserved : goal.numbers-preserved
numbers-preserved c = record {
  most = omega arith;
  passes = λ n l.
      number_more c.args.bytes.now c.numbers.at n (c.numbers.invariant.passes n l) (omega arith) (omega arith) (omega arith)
      (λ i. omega (arith, c.type_inv.bytes i));
}
