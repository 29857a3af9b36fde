use Rattle.std.proofs.Common.{max}
use Rattle.rmp_decode.proofs.NamesAhead.{part_below, part_past}
use Rattle.rmp_decode.proofs.deserializer.Deserializer.place_part.Goals as goal

pub returns-in-Ok-Some : goal.returns-in-Ok-Some
returns-in-Ok-Some g c = record {
  ok = part_below g.R.Source c.args.names.now (max 1 c.args.inner) c.args.self.now c.name_part.new.self c.in-Ok-Some.place
      (rw c.in-Ok-Some.field-0-is at c.in-Ok-Some.ensures.ok);
  some = tt;
  none = tt;
}

pub returns-in-Ok-None : goal.returns-in-Ok-None
returns-in-Ok-None g c = record {
  ok = part_past g.R.Source c.args.names.now (max 1 c.args.inner) c.args.self.now c.name_part.new.self
      (rw c.in-Ok-None.field-0-is at c.in-Ok-None.ensures.ok);
  some = tt;
  none = tt;
}
