use Rattle.std.proofs.Common.{refl}
use Rattle.rmp_decode.proofs.Nexts.{clash, none_left, one_fewer}
use Rattle.rmp_decode.proofs.access.map.MapAccess.next_key_with.Goals as goal

pub returns-then-not-self : goal.returns-then-not-self
returns-then-not-self g c = record {
  same_reference = refl;
  before = λ _. (refl, refl);
  none = λ o _. clash c.args.self.now.sound o c.if-not-self.true;
  part = λ o _. clash c.args.self.now.sound o c.if-not-self.true;
  still = tt;
  broken = c.if-not-self.true;
}

pub returns-then-self-eq0 : goal.returns-then-self-eq0
returns-then-self-eq0 g c = record {
  same_reference = refl;
  before = λ h. clash c.args.self.now.sound c.if-not-self.false h;
  none = λ _ _. (refl, refl);
  part = λ _ some. none_left c.args.self.now.left c.if-self-eq0.true some;
  still = c.if-not-self.false;
  broken = tt;
}

pub returns-in-Ok : goal.returns-in-Ok
returns-in-Ok g c = record {
  same_reference = refl;
  before = λ h. clash c.args.self.now.sound c.if-not-self.false h;
  none = λ _ z. absurd (c.if-self-eq0.false z);
  part = λ _ some. record {
    given = c.part_with.result;
    part = c.part_with.ensures;
    answers = rw c.in-Ok.is refl;
    fewer = one_fewer c.args.self.now.left some;
    owes = refl;
    count = refl;
    inner = refl;
  };
  still = refl;
  broken = tt;
}

pub returns-in-Err : goal.returns-in-Err
returns-in-Err g c = record {
  same_reference = refl;
  before = λ h. clash c.args.self.now.sound c.if-not-self.false h;
  none = λ _ z. absurd (c.if-self-eq0.false z);
  part = λ _ _. record {
    given = c.part_with.result;
    part = c.part_with.ensures;
    answers = rw c.in-Err.is refl;
    fewer = tt;
    owes = tt;
    count = refl;
    inner = refl;
  };
  still = tt;
  broken = refl;
}
