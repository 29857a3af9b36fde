use Rattle.std.proofs.Common.{refl}
use Rattle.rmp_decode.proofs.deserializer.Deserializer.part_with.Goals as goal

pub returns-in-Err : goal.returns-in-Err
returns-in-Err g c = record {
  gave = c.f-given.result;
  rest = c.f-given.new.arg2;
  called = record { shown = _; shows = refl; left = _; met = c.f-given.ensures; leaves = refl };
  answers = rw c.in-Err.is refl;
  keeps = rw c.levels_outside-self.ensures refl;
}

pub returns-then-failed : goal.returns-then-failed
returns-then-failed g c = record {
  gave = c.f-given.result;
  rest = c.f-given.new.arg2;
  called = record { shown = _; shows = refl; left = _; met = c.f-given.ensures; leaves = refl };
  answers = rw c.in-Ok.is (rw c.if-failed.true refl);
  keeps = rw c.levels_outside-self-then-failed.ensures refl;
}

pub returns : goal.returns
returns g c = record {
  gave = c.f-given.result;
  rest = c.f-given.new.arg2;
  called = record { shown = _; shows = refl; left = _; met = c.f-given.ensures; leaves = refl };
  answers = rw c.in-Ok.is (rw c.if-failed.false refl);
  keeps = refl;
}
