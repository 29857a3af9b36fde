use Rattle.std.proofs.Common.{inr}
use Rattle.rmp_decode.proofs.access.seq.SeqAccess.element.Goals as goal

pub returns-in-Ok-Some : goal.returns-in-Ok-Some
returns-in-Ok-Some g c = record {
  same_reference = c.next_element.ensures.same_reference;
  ok = rw c.in-Ok-Some.field-0-is at c.in-Ok-Some.ensures.some;
  err = λ _. tt;
  refused = λ _. tt;
  memory = λ _. tt;
  failed = tt;
  marked = c.next_element.ensures.marked;
  before = c.in-Ok-Some.ensures.before;
}

pub returns-in-Err : goal.returns-in-Err
returns-in-Err g c = record {
  same_reference = c.next_element.ensures.same_reference;
  ok = λ _. tt;
  err = λ o. let f = c.in-Err.ensures.err o in record { stays = f.stays; err = inr (f.some, f.err) };
  refused = λ o. inr (c.in-Err.ensures.refused o);
  memory = c.in-Err.ensures.memory;
  failed = c.in-Err.ensures.failed;
  marked = c.next_element.ensures.marked;
  before = c.in-Err.ensures.before;
}
