use Rattle.std.proofs.Common.{subst}
use Rattle.rmp_decode.specs.Payloads.{ReadsMessage, a_string}
use Rattle.rmp_decode.proofs.deserializer.Deserializer.deserialize_string.Goals as goal

pub returns-in-None-clause-law : goal.returns-in-None-clause-law
returns-in-None-clause-law g c =
    (subst (λ d. ReadsMessage g.R.Source a_string d c.slow_string.new.self c.slow_string.result) c.in-None.ensures.kept c.slow_string.ensures).law
