use Rattle.std.proofs.Common.{refl, rules}
use Rattle.rmp_decode.proofs.NamesAhead.{name_taken}
use Rattle.rmp_decode.proofs.deserializer.Deserializer.take_name.Goals as goal

pub returns-then-skip : goal.returns-then-skip
returns-then-skip g c = record {
  taken = λ inner l.
      name_taken g.R.Source c.args.names.now c.args.self.now _ c.in-Some.len c.in-Some.place c.front.result.now inner l c.requires.clean c.requires.clean
      c.requires.marked (record { config = refl; room = refl; limit = refl; strict = refl; place = c.skip.ensures.place c.if-skip.true })
      (c.skip.ensures.sound c.if-skip.true) c.front.ensures.bytes c.in-Some.ensures.inside (c.skip.ensures.bytes c.if-skip.true);
  within = c.in-Some.ensures.within;
  named = λ e. (search rules);
  kept = tt;
}
