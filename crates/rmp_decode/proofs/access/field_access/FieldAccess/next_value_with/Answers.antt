use Rattle.std.proofs.Common.{refl, rules}
use Rattle.rmp_decode.proofs.FieldWiths.{field_given, field_ended}
use Rattle.rmp_decode.proofs.Nexts.{clash}
use Rattle.rmp_decode.proofs.access.field_access.FieldAccess.next_value_with.Goals as goal

pub returns-then-not-self : goal.returns-then-not-self
returns-then-not-self g c = record {
  same_reference = refl;
  same = record { is_map = refl; bytes = refl; names = refl; count = refl; inner = refl };
  before = λ _. (refl, refl);
  part = λ o. clash c.args.self.now.sound o.sound c.if-not-self.true;
  owes = tt;
  left = refl;
  still = tt;
  failed = c.if-not-self.true;
  marked = λ h. h;
}

pub returns-in-Err-clause-part : goal.returns-in-Err-clause-part
returns-in-Err-clause-part g c = λ o. rw c.data_fault.ensures (field_ended g.R.Source g.F.FnOnce c.args.f c.args.self.now _ o _ c.in-Err.ensures refl)

pub part_with-requires : goal.part_with-requires
part_with-requires g c = c.requires.part (search rules) _ (record { from = c.offer_part.new.self; offers = c.in-Ok.ensures.ok; lent = refl })

pub returns-in-Ok-part_with-clause-part : goal.returns-in-Ok-part_with-clause-part
returns-in-Ok-part_with-clause-part g c = λ o. field_given g.R.Source g.F.FnOnce c.args.f c.args.self.now _ o _ (c.requires.at_value o.sound) c.in-Ok.ensures.ok
    (record { is_map = refl; bytes = refl; names = refl; count = refl; inner = refl }) refl refl _ refl (rw c.in-Ok-part_with.is at c.part_with.ensures)

pub returns-in-Err-part_with-clause-part : goal.returns-in-Err-part_with-clause-part
returns-in-Err-part_with-clause-part g c = λ o. field_given g.R.Source g.F.FnOnce c.args.f c.args.self.now _ o _ (c.requires.at_value o.sound) c.in-Ok.ensures.ok
    (record { is_map = refl; bytes = refl; names = refl; count = refl; inner = refl }) refl refl _ tt (rw c.in-Err-part_with.is at c.part_with.ensures)

pub returns-in-Err-clause-before : goal.returns-in-Err-clause-before
returns-in-Err-clause-before g c = λ h. clash c.args.self.now.sound c.if-not-self.false h

pub returns-in-Ok-part_with-clause-before : goal.returns-in-Ok-part_with-clause-before
returns-in-Ok-part_with-clause-before g c = λ h. clash c.args.self.now.sound c.if-not-self.false h

pub returns-in-Err-part_with-clause-before : goal.returns-in-Err-part_with-clause-before
returns-in-Err-part_with-clause-before g c = λ h. clash c.args.self.now.sound c.if-not-self.false h
