use Rattle.std.proofs.Common.{refl, arith}
use Rattle.rmp_decode.proofs.FieldAccesses.{place_taken, place_again}
use Rattle.rmp_decode.proofs.Nexts.{clash}
use Rattle.rmp_decode.proofs.access.field_access.FieldAccess.next_field.Goals as goal

pub returns-then-not-self : goal.returns-then-not-self
returns-then-not-self g c = record {
  same_reference = refl;
  same = record { is_map = refl; bytes = refl; names = refl; count = refl; inner = refl };
  none = λ _. tt;
  some = λ _. tt;
  err = λ o. clash c.args.self.now.sound o.sound c.if-not-self.true;
  fewer = tt;
  failed = c.if-not-self.true;
  before = λ _. (refl, refl);
}

pub returns-then-self-bit-ne0-clause-err : goal.returns-then-self-bit-ne0-clause-err
returns-then-self-bit-ne0-clause-err g c = λ o.
    let k = c.in-Ok-Some.ensures in
    let t = rw c.in-Ok-Some.field-0-is at (k.answers (record { sound = o.sound; marked = o.marked; clean = o.clean })) in
    place_again g.R.Source c.args.self.now c.next_named.new.self o c.if-self.true k.same k.met c.in-Ok-Some.place t _ c.bit_of-bit.ensures
    (λ z. omega (arith, c.if-self-bit-ne0.true, z)) _ _

pub returns-then-self-clause-some : goal.returns-then-self-clause-some
returns-then-self-clause-some g c = λ o.
    let k = c.in-Ok-Some.ensures in
    let t = rw c.in-Ok-Some.field-0-is at (k.answers (record { sound = o.sound; marked = o.marked; clean = o.clean })) in
    place_taken g.R.Source c.args.self.now c.next_named.new.self o c.if-self.true k.same k.met c.in-Ok-Some.place t _ c.bit_of-bit.ensures
    (omega (arith, c.if-self-bit-ne0.false))
