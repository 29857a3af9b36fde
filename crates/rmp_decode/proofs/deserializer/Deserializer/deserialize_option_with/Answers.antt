use Rattle.std.proofs.Common.{refl, inr}
use Rattle.rmp_decode.proofs.deserializer.Deserializer.deserialize_option_with.Goals as goal

pub returns-then-self : goal.returns-then-self
returns-then-self g c =
    let s = rw c.in-Ok-false.field-0-test at c.in-Ok-false.ensures in
    inr (record {
      lent = c.take_nil.new.self;
      gave = c.f.result;
      rest = c.f.new.arg2;
      fresh = s.0;
      sees = s.1;
      called = record { shown = _; shows = refl; left = _; met = c.f.ensures; leaves = refl };
      answers = rw c.in-Ok.is (rw c.if-self.true refl);
      keeps = rw c.in-Ok.is refl;
    })

pub returns-else-self : goal.returns-else-self
returns-else-self g c =
    let s = rw c.in-Ok-false.field-0-test at c.in-Ok-false.ensures in
    inr (record {
      lent = c.take_nil.new.self;
      gave = c.f.result;
      rest = c.f.new.arg2;
      fresh = s.0;
      sees = s.1;
      called = record { shown = _; shows = refl; left = _; met = c.f.ensures; leaves = refl };
      answers = rw c.in-Ok.is (rw c.if-self.false refl);
      keeps = rw c.in-Ok.is refl;
    })

pub returns-in-Err-f : goal.returns-in-Err-f
returns-in-Err-f g c =
    let s = rw c.in-Ok-false.field-0-test at c.in-Ok-false.ensures in
    inr (record {
      lent = c.take_nil.new.self;
      gave = c.f.result;
      rest = c.f.new.arg2;
      fresh = s.0;
      sees = s.1;
      called = record { shown = _; shows = refl; left = _; met = c.f.ensures; leaves = refl };
      answers = rw c.in-Err-f.is refl;
      keeps = rw c.in-Err-f.is refl;
    })
