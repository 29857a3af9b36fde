use Rattle.std.proofs.Common.{subst}
use Rattle.rmp_decode.specs.Payloads.{ReadsMessage, some_bytes}
use Rattle.rmp_decode.proofs.deserializer.Deserializer.deserialize_bytes.Goals as goal

pub returns-in-None-clause-law : goal.returns-in-None-clause-law
returns-in-None-clause-law g c =
    (subst (λ d. ReadsMessage g.R.Source (some_bytes g.R.ReadSlice.lends) d c.read_cold.new.de c.read_cold.result) c.in-None.ensures.kept c.read_cold.ensures).law
