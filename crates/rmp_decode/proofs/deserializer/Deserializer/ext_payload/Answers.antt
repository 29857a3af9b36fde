use Rattle.std.proofs.Common.{rules}
use Rattle.std.specs.Int.{w8}
use Rattle.std.proofs.lemmas.Int.{to_z-of_z}
use Rattle.rmp_decode.proofs.Payloads.{message_asked}
use Rattle.rmp_decode.proofs.deserializer.Deserializer.ext_payload.Goals as goal

pub returns : goal.returns
returns g c = rw c.is_err-self.ensures.value
    (message_asked g.R.Source _ c.args.self.now _ tt _ tt tt _ (rw (to_z-of_z w8 c.args.tag (search rules)) at c.next_ext-read.ensures))
