use Rattle.std.proofs.Common.{refl}
use Rattle.rmp_decode.specs.declared.deserializer.heads.Levels.TheVariants.{Maps}
use Rattle.rmp_decode.proofs.Opening.{no_map, opening_fails}
use Rattle.rmp_decode.proofs.deserializer.Deserializer.slow_map.Goals as goal

pub returns-in-None : goal.returns-in-None
returns-in-None g c = no_map g.R.Source _ _ _ (c.in-Ok.field-0-0, c.in-Ok.head) c.in-Ok.ensures.begun c.in-None.ensures refl

pub returns-in-Err : goal.returns-in-Err
returns-in-Err g c = opening_fails g.R.Source _ _ _ _ _ _ _ Maps c.in-Err.ensures.err (λ m h l. rw l.1 (refl, refl))
