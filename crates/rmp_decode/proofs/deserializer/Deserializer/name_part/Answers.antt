use Rattle.std.proofs.Common.{refl, rules}
use Rattle.rmp_decode.proofs.deserializer.Deserializer.name_part.Goals as goal

pub returns-in-Err : goal.returns-in-Err
returns-in-Err g c = record {
  ok = tt;
  err = search rules;
  refused = (c.in-Err.ensures.exact refl, c.in-Err.ensures.memory);
  memory = c.in-Err.ensures.memory;
}
