use Rattle.std.proofs.Common.{refl}
use Rattle.rmp_decode.proofs.FieldAccesses.{value_taken, value_fails, value_ended}
use Rattle.rmp_decode.proofs.Nexts.{clash, not_memory}
use Rattle.rmp_decode.proofs.access.field_access.FieldAccess.next_value.Goals as goal

pub returns-then-not-self : goal.returns-then-not-self
returns-then-not-self g c = record {
  same_reference = refl;
  same = record { is_map = refl; bytes = refl; names = refl; count = refl; inner = refl };
  ok = λ _. tt;
  err = λ o. clash c.args.self.now.sound o.sound c.if-not-self.true;
  refused = λ o. clash c.args.self.now.sound o.sound c.if-not-self.true;
  memory = λ _. not_memory;
  left = refl;
  failed = c.if-not-self.true;
  before = λ _. (refl, refl);
}

pub returns-in-Err-clause-err : goal.returns-in-Err-clause-err
returns-in-Err-clause-err g c = λ o. rw c.data_fault.ensures (value_ended g.R.Source _ c.args.self.now _ o (c.requires o.sound) _ c.in-Err.ensures)

pub returns-in-Ok-part-clause-ok : goal.returns-in-Ok-part-clause-ok
returns-in-Ok-part-clause-ok g c = λ o. value_taken g.R.Source _ c.args.self.now o (c.requires o.sound) _ c.in-Ok.ensures.ok _ _ c.in-Ok-part.ensures

pub returns-in-Err-part-clause-err : goal.returns-in-Err-part-clause-err
returns-in-Err-part-clause-err g c = λ o. value_fails g.R.Source _ c.args.self.now o (c.requires o.sound) _ c.in-Ok.ensures.ok _ _ c.in-Err-part.ensures.fails

pub returns-in-Err-clause-before : goal.returns-in-Err-clause-before
returns-in-Err-clause-before g c = λ h. clash c.args.self.now.sound c.if-not-self.false h

pub returns-in-Ok-part-clause-before : goal.returns-in-Ok-part-clause-before
returns-in-Ok-part-clause-before g c = λ h. clash c.args.self.now.sound c.if-not-self.false h

pub returns-in-Err-part-clause-before : goal.returns-in-Err-part-clause-before
returns-in-Err-part-clause-before g c = λ h. clash c.args.self.now.sound c.if-not-self.false h
