use Rattle.std.proofs.Common.{◌∙◌, arith, refl, rules, inl, inr}
use Rattle.rmp_decode.proofs.Nexts.{clash, none_left}
use Rattle.rmp_decode.proofs.access.seq.SeqAccess.next_element_with.Goals as goal

pub returns-then-not-self : goal.returns-then-not-self
returns-then-not-self g c = record {
  same_reference = refl;
  list = record { count = refl; inner = refl; bytes = refl };
  before = λ _. (refl, refl);
  none = λ o _. clash c.args.self.now.sound o c.if-not-self.true;
  part = λ o _. clash c.args.self.now.sound o c.if-not-self.true;
  still = tt;
  broken = c.if-not-self.true;
  marked = λ h. h;
}

pub returns-then-self-eq0 : goal.returns-then-self-eq0
returns-then-self-eq0 g c = record {
  same_reference = refl;
  list = record { count = refl; inner = refl; bytes = refl };
  before = λ h. clash c.args.self.now.sound c.if-not-self.false h;
  none = λ _ _. (refl, refl);
  part = λ _ some. none_left c.args.self.now.left c.if-self-eq0.true some;
  still = c.if-not-self.false;
  broken = tt;
  marked = λ h. h;
}

pub part_with-requires : goal.part_with-requires
part_with-requires g c =
    c.requires (search rules) (omega (arith, c.if-self-eq0.false)) _ (record { from = c.offer_part.new.self; offers = c.in-Ok.ensures.ok; lent = refl })

pub returns-in-Err : goal.returns-in-Err
returns-in-Err g c = rw c.data_fault.ensures (record {
  same_reference = refl;
  list = record { count = refl; inner = refl; bytes = refl };
  before = λ h. clash c.args.self.now.sound c.if-not-self.false h;
  none = λ _ z. absurd (c.if-self-eq0.false z);
  part = λ _ _. let k = c.in-Err.ensures in inr (record { bytes = k.bytes; error = _; answers = refl; stays = k.stays; err = k.err; end = k.end });
  still = tt;
  broken = refl;
  marked = λ m. c.in-Err.ensures.failed ∙ m;
})

pub returns-in-Ok-part_with : goal.returns-in-Ok-part_with
returns-in-Ok-part_with g c = record {
  same_reference = refl;
  list = record { count = refl; inner = refl; bytes = refl };
  before = λ h. clash c.args.self.now.sound c.if-not-self.false h;
  none = λ _ z. absurd (c.if-self-eq0.false z);
  part = λ _ some. inl (record {
    from = c.offer_part.new.self;
    offers = c.in-Ok.ensures.ok;
    given = c.part_with.result;
    part = c.part_with.ensures;
    answers = rw c.in-Ok-part_with.is refl;
    fewer = omega (arith, some);
  });
  still = refl;
  broken = tt;
  marked = λ _. rw c.part_with.ensures.keeps refl;
}

pub returns-in-Err-part_with : goal.returns-in-Err-part_with
returns-in-Err-part_with g c = record {
  same_reference = refl;
  list = record { count = refl; inner = refl; bytes = refl };
  before = λ h. clash c.args.self.now.sound c.if-not-self.false h;
  none = λ _ z. absurd (c.if-self-eq0.false z);
  part = λ _ _. inl (record {
    from = c.offer_part.new.self;
    offers = c.in-Ok.ensures.ok;
    given = c.part_with.result;
    part = c.part_with.ensures;
    answers = rw c.in-Err-part_with.is refl;
    fewer = tt;
  });
  still = tt;
  broken = refl;
  marked = λ _. rw c.part_with.ensures.keeps refl;
}
