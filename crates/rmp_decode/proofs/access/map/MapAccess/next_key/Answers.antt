use Rattle.std.proofs.Common.{refl}
use Rattle.rmp_decode.proofs.Nexts.{clash, some_left, not_memory, key_taken}
use Rattle.rmp_decode.proofs.access.map.MapAccess.next_key.Goals as goal

pub returns-then-not-self : goal.returns-then-not-self
returns-then-not-self g c = record {
  same_reference = refl;
  none = tt;
  some = tt;
  err = λ o. clash c.args.self.now.sound o c.if-not-self.true;
  refused = λ o. clash c.args.self.now.sound o c.if-not-self.true;
  memory = λ _. not_memory;
  failed = c.if-not-self.true;
  before = λ _. (refl, refl);
}

pub returns-in-Ok : goal.returns-in-Ok
returns-in-Ok g c = record {
  same_reference = refl;
  none = tt;
  some = key_taken _ _ _ _ _ _ refl (some_left c.args.self.now.left c.if-self-eq0.false) c.in-Ok.ensures;
  err = λ _. tt;
  refused = λ _. tt;
  memory = λ _. tt;
  failed = tt;
  before = λ h. clash c.args.self.now.sound c.if-not-self.false h;
}

pub returns-in-Err : goal.returns-in-Err
returns-in-Err g c = record {
  same_reference = refl;
  none = tt;
  some = tt;
  err = λ _. (some_left c.args.self.now.left c.if-self-eq0.false, c.in-Err.ensures.fails);
  refused = λ _. (some_left c.args.self.now.left c.if-self-eq0.false, c.in-Err.ensures.named);
  memory = c.in-Err.ensures.memory;
  failed = refl;
  before = λ h. clash c.args.self.now.sound c.if-not-self.false h;
}
