use Rattle.std.proofs.Common.{rules}
use Rattle.rmp_decode.proofs.access.variant.Variant.newtype_variant_with.Goals as goal

pub returns-in-Err-clause-part : goal.returns-in-Err-clause-part
returns-in-Err-clause-part g c = λ _. record { after = c.part_with.new.self; part = c.in-Err.ensures; ready = tt; failed = search rules }

pub returns-clause-part : goal.returns-clause-part
returns-clause-part g c = λ _. record { after = c.part_with.new.self; part = c.in-Ok.ensures; ready = search rules; failed = tt }
