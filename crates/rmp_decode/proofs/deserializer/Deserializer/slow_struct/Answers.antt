use Rattle.std.proofs.Common.{refl, subst}
use Rattle.rmp_decode.specs.Law.{TakesHead}
use Rattle.rmp_decode.specs.declared.deserializer.heads.Levels.TheVariants.{Parts}
use Rattle.rmp_decode.proofs.Fields.{deep_fields, fields_level, no_fields}
use Rattle.rmp_decode.proofs.Opening.{opening_fails}
use Rattle.rmp_decode.proofs.deserializer.Deserializer.slow_struct.Goals as goal

pub returns-in-None : goal.returns-in-None
returns-in-None g c = no_fields g.R.Source _ _ _ (c.in-Ok.field-0-0, c.in-Ok.head) c.in-Ok.ensures.begun c.in-None.ensures refl

pub returns-in-Some : goal.returns-in-Some
returns-in-Some g c =
    let h = c.in-Ok.ensures.begun in
    let k = c.in-Some in
    record {
      ok = subst (λ z. TakesHead g.R.Source z c.args.self.now c.opening.new.self) k.ensures h.ok;
      deep = λ n. c.in-Ok.ensures.deep (rw k.ensures (fields_level k.opened.0 k.opened.1 n));
      stays = h.stays;
      sound = h.sound;
      fresh = h.fresh;
      clean = h.clean;
      failed = h.failed;
      err = tt;
    }

pub returns-in-Err : goal.returns-in-Err
returns-in-Err g c = opening_fails g.R.Source _ _ _ _ _ _ _ Parts c.in-Err.ensures.err (λ m h l. rw l.1 (deep_fields m l.0.0 l.0.1))
