use Rattle.std.proofs.Common.{refl, arith, rules, true, ◌∙◌}
use Rattle.rmp_decode.specs.With.{OffersPart}
use Rattle.rmp_decode.proofs.Offered.{element_taken, element_refused, element_ended, none_kept}
use Rattle.rmp_decode.proofs.access.seq.SeqAccess.numbered.Goals as goal

pub returns-in-Err : goal.returns-in-Err
returns-in-Err g c = record {
  same_reference = refl;
  answers = λ o. rw c.data_fault.ensures (element_ended g.R.Source _ _ _ g.T.Deserialize.refuses c.args.self.now _ o c.requires.some true _ c.requires.bytes
      c.in-Err.ensures);
  memory = λ _. rw c.data_fault.ensures (search rules);
  failed = refl;
  marked = λ m. c.in-Err.ensures.failed ∙ m;
}

pub returns-in-Ok-part : goal.returns-in-Ok-part
returns-in-Ok-part g c =
    let t = c.in-Ok-part.ensures in
    record {
      same_reference = refl;
      answers = λ o.
          let offers : OffersPart g.R.Source c.args.self.now.bytes c.args.self.now.de.now c.offer_part.new.self = rw c.requires.bytes c.in-Ok.ensures.ok in
          element_taken g.R.Source _ c.args.self.now _ c.offer_part.new.self o offers c.in-Ok-part.v (record { count = refl; inner = refl; bytes = refl })
          (none_kept g.R.Source _ _ _ _ _ t) (omega (arith, c.requires.some)) refl;
      memory = λ _. tt;
      failed = tt;
      marked = λ _. t.marked;
    }

pub returns-in-Err-part : goal.returns-in-Err-part
returns-in-Err-part g c =
    let r = c.in-Err-part.ensures in
    record {
      same_reference = refl;
      answers = λ o.
          let offers : OffersPart g.R.Source c.args.self.now.bytes c.args.self.now.de.now c.offer_part.new.self = rw c.requires.bytes c.in-Ok.ensures.ok in
          element_refused g.R.Source _ _ _ g.T.Deserialize.refuses c.args.self.now _ o c.requires.some _ c.offer_part.new.self _ offers r;
      memory = r.memory;
      failed = refl;
      marked = λ _. r.fails.failed;
    }
