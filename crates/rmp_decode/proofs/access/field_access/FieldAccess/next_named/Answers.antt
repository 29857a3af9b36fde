use Rattle.std.proofs.Common.{refl, arith}
use Rattle.rmp_decode.proofs.FieldAccesses.{name_taken, key_fails, pair_passed, pass_fails}
use Rattle.rmp_decode.proofs.access.field_access.FieldAccess.next_named.Goals as goal

pub returns-in-Some : goal.returns-in-Some
returns-in-Some g c =
    let r = c.loop-self.invariant in
    let some = c.loop-self-test.true in
    record {
      same_reference = r.same_reference;
      same = record { is_map = r.same.is_map; bytes = r.same.bytes; names = r.same.names; count = r.same.count; inner = r.same.inner };
      met = r.met;
      answers = λ o. name_taken g.R.Source c.args.self.now c.loop-self.self (r.passed o) r.same.names some _ _ (rw c.in-Some.is at c.in-Ok.ensures.ok);
      fewer = omega (arith, r.fewer, some);
      failed = tt;
    }

pub returns-in-Err : goal.returns-in-Err
returns-in-Err g c =
    let r = c.loop-self.invariant in
    record {
      same_reference = r.same_reference;
      same = record { is_map = r.same.is_map; bytes = r.same.bytes; names = r.same.names; count = r.same.count; inner = r.same.inner };
      met = r.met;
      answers = λ o. key_fails g.R.Source c.args.self.now c.loop-self.self (r.passed o) r.same.names c.loop-self-test.true _ _ _ _ c.in-Err.ensures.err
          c.in-Err.ensures.refused;
      fewer = tt;
      failed = refl;
    }

pub returns-in-Err-part : goal.returns-in-Err-part
returns-in-Err-part g c =
    let r = c.loop-self.invariant in
    record {
      same_reference = r.same_reference;
      same = record { is_map = r.same.is_map; bytes = r.same.bytes; names = r.same.names; count = r.same.count; inner = r.same.inner };
      met = r.met;
      answers = λ o. pass_fails g.R.Source c.args.self.now c.loop-self.self (r.passed o) r.same.names c.loop-self-test.true _
          (rw c.in_default.is at c.in-Ok.ensures.ok) _ _ _ _ _ c.in-Err-part.ensures (record {});
      fewer = tt;
      failed = refl;
    }

pub loop-self-preserved : goal.loop-self-preserved
loop-self-preserved g c =
    let r = c.loop-self.invariant in
    let some = c.loop-self-test.true in
    record {
      same = record { is_map = r.same.is_map; bytes = r.same.bytes; names = r.same.names; count = r.same.count; inner = r.same.inner };
      same_reference = r.same_reference;
      met = r.met;
      fewer = omega (arith, r.fewer);
      passed = λ o. pair_passed g.R.Source c.args.self.now c.loop-self.self (r.passed o) r.same.names some _ (rw c.in_default.is at c.in-Ok.ensures.ok) _ _
          c.in-Ok-part.ensures;
    }
