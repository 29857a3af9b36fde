use Rattle.std.proofs.Common.{◌∙◌, sym, subst, refl, arith, IsUtf8}
use Rattle.rmp_decode.specs.State.{failed_of}
use Rattle.rmp_decode.proofs.AnyReads.{text_short, text_invalid}
use Rattle.rmp_decode.proofs.Steps.{appended_is, kept_is}
use Rattle.rmp_decode.proofs.deserializer.Deserializer.append_text.Goals as goal

pub returns-in-Ok-from_utf8-clause-ok : goal.returns-in-Ok-from_utf8-clause-ok
returns-in-Ok-from_utf8-clause-ok g c =
    let o = c.in-Ok.ensures.ok in
    let place = c.append.ensures.place in
    let is = appended_is c.len-at.result c.args.bytes.now.items o.passes.bytes c.deref.result.now (c.deref.ensures.value ∙ o.whole)
    (omega (arith, c.len-at.ensures, c.args.bytes.now.ok.0)) in
    record {
      appended = record {
        content = o.passes.bytes;
        taken = record {
          long = o.passes.long;
          are_bytes = o.passes.are_bytes;
          taken = o.passes.taken;
          kept = refl;
          ready = c.requires.ready;
          sound = c.in-Ok.ensures.sound;
          stays = record { config = refl; room = refl; limit = refl; strict = refl; place = place };
        };
        whole = o.whole;
      };
      utf8 = subst IsUtf8 is c.in-Ok-from_utf8.ensures.cases.1;
    }

pub returns-in-Err-from_utf8-clause-err : goal.returns-in-Err-from_utf8-clause-err
returns-in-Err-from_utf8-clause-err g c =
    let o = c.in-Ok.ensures.ok in
    let is = appended_is c.len-at.result c.args.bytes.now.items o.passes.bytes c.deref.result.now (c.deref.ensures.value ∙ o.whole)
    (omega (arith, c.len-at.ensures, c.args.bytes.now.ok.0)) in
    text_invalid g.R.Source (failed_of c.args.self.now) _ _ c.append.ensures.place o.passes.bytes _ o.passes.long o.passes.taken c.in-Ok.ensures.sound
    (λ u. c.in-Err-from_utf8.ensures.cases.0 (subst IsUtf8 (sym is) u))

pub returns-in-Err-clause-err : goal.returns-in-Err-clause-err
returns-in-Err-clause-err g c =
    let e = c.in-Err.ensures in
    text_short g.R.Source (failed_of c.args.self.now) _ _ e.place _ e.err e.end e.fault

pub returns-in-Err-from_utf8-clause-kept : goal.returns-in-Err-from_utf8-clause-kept
returns-in-Err-from_utf8-clause-kept g c =
    let o = c.in-Ok.ensures.ok in
    c.truncate.ensures.items ∙ kept_is c.len-at.result c.args.bytes.now.items o.passes.bytes c.append.new.bytes.items o.whole
    (omega (arith, c.len-at.ensures, c.args.bytes.now.ok.0))
