use Rattle.std.proofs.Common.{rules}
use Rattle.rmp_wire.proofs.Taken.{bytes_from}
use Rattle.rmp_decode.proofs.Payloads.{pull_read}
use Rattle.rmp_decode.proofs.deserializer.numbers.pulled_sixteen.Goals as goal

pub returns-in-Ok : goal.returns-in-Ok
returns-in-Ok g c =
    let small = bytes_from c.in-Ok.bytes (λ k. search rules) in
    pull_read g.S.Source _ _ _ _ _ _ (record { bytes = c.in-Ok.bytes; takes = c.in-Ok.ensures.bytes.ok; long = search rules; small = small; number = c.from_be_bytes.ensures })
    (search rules) (search rules)
