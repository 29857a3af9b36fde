use Rattle.std.proofs.Common.{refl}
use Rattle.rmp_decode.proofs.Nexts.{inner_some, key_taken}
use Rattle.rmp_decode.proofs.access.map.MapAccess.next_place.Goals as goal

pub returns-in-Some : goal.returns-in-Some
returns-in-Some g c = record {
  same_reference = refl;
  ok = key_taken _ _ _ _ _ _ c.requires.still.sound c.requires.more (c.in-Some.ensures.taken _ (inner_some c.args.self.now.inner));
  some = tt;
  none = tt;
}

pub returns-in-Some-place_part : goal.returns-in-Some-place_part
returns-in-Some-place_part g c = record {
  same_reference = refl;
  ok = key_taken _ _ _ _ _ _ c.requires.still.sound c.requires.more (rw c.in-None.ensures.kept at c.in-Some-place_part.ensures.ok);
  some = tt;
  none = tt;
}

pub returns-in-None-place_part : goal.returns-in-None-place_part
returns-in-None-place_part g c = record {
  same_reference = refl;
  ok = tt;
  some = c.in-None-place_part.ensures.some;
  none = rw c.in-None.ensures.kept at c.in-None-place_part.ensures.none;
}
