-- What the read of a byte as a number promises, and that of a list's element, is what is wanted here, since the list was sound.
use Rattle.std.proofs.Common.{refl, arith, false}
use Rattle.rmp_decode.specs.With.{OffersPart}
use Rattle.rmp_decode.proofs.Nexts.{clash, some_left, not_memory}
use Rattle.rmp_decode.proofs.Offered.{element_taken, element_refused, none_kept}
use Rattle.rmp_decode.proofs.access.seq.SeqAccess.next_element.Goals as goal

pub returns-then-not-self : goal.returns-then-not-self
returns-then-not-self g c = record {
  same_reference = refl;
  none = λ _. tt;
  some = λ _. tt;
  err = λ o. clash c.args.self.now.sound o.sound c.if-not-self.true;
  refused = λ o. clash c.args.self.now.sound o.sound c.if-not-self.true;
  memory = λ _. not_memory;
  failed = c.if-not-self.true;
  marked = λ h. h;
  before = λ _. (refl, refl);
}

pub returns-in-Ok : goal.returns-in-Ok
returns-in-Ok g c = record {
  same_reference = c.numbered.ensures.same_reference;
  none = λ _. tt;
  some = c.in-Ok.ensures.answers;
  err = λ _. tt;
  refused = λ _. tt;
  memory = λ _. tt;
  failed = tt;
  marked = c.numbered.ensures.marked;
  before = λ h. clash c.args.self.now.sound c.if-not-self.false h;
}

pub returns-in-Err : goal.returns-in-Err
returns-in-Err g c = record {
  same_reference = c.numbered.ensures.same_reference;
  none = λ _. tt;
  some = λ _. tt;
  err = λ o. (c.in-Err.ensures.answers o).fails;
  refused = λ o. (some_left c.args.self.now.left c.if-self-eq0.false, (c.in-Err.ensures.answers o).named);
  memory = c.in-Err.ensures.memory;
  failed = c.in-Err.ensures.failed;
  marked = c.numbered.ensures.marked;
  before = λ h. clash c.args.self.now.sound c.if-not-self.false h;
}

pub returns-in-Ok-part : goal.returns-in-Ok-part
returns-in-Ok-part g c =
    let old = c.args.self.now in
    let offers : OffersPart g.R.Source old.bytes old.de.now old.de.now = rw c.if-self.false refl in
    record {
      same_reference = refl;
      none = λ _. tt;
      some = λ o. element_taken g.R.Source _ old _ old.de.now o offers c.in-Ok-part.v (record { count = refl; inner = refl; bytes = refl })
          (none_kept g.R.Source _ _ _ _ _ c.in-Ok-part.ensures) (let l = c.if-self-eq0.false in omega (arith, l)) refl;
      err = λ _. tt;
      refused = λ _. tt;
      memory = λ _. tt;
      failed = tt;
      marked = λ _. c.in-Ok-part.ensures.marked;
      before = λ h. clash old.sound c.if-not-self.false h;
    }

pub returns-in-Err-part : goal.returns-in-Err-part
returns-in-Err-part g c =
    let old = c.args.self.now in
    let r = c.in-Err-part.ensures in
    let some = some_left old.left c.if-self-eq0.false in
    let offers : OffersPart g.R.Source old.bytes old.de.now old.de.now = rw c.if-self.false refl in
    let new = record old { de = record old.de { now = c.part.new.self }; sound = false } in
    record {
      same_reference = refl;
      none = λ _. tt;
      some = λ _. tt;
      err = λ o. (element_refused g.R.Source _ _ _ g.T.Deserialize.refuses old new o some _ old.de.now _ offers r).fails;
      refused = λ o. (some, (element_refused g.R.Source _ _ _ g.T.Deserialize.refuses old new o some _ old.de.now _ offers r).named);
      memory = r.memory;
      failed = refl;
      marked = λ _. r.fails.failed;
      before = λ h. clash old.sound c.if-not-self.false h;
    }
