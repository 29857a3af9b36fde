use Rattle.std.proofs.Common.{rules}
use Rattle.rmp_wire.proofs.Taken.{bytes_from}
use Rattle.rmp_decode.proofs.deserializer.numbers.buffered_u128.Goals as goal

pub returns-in-Some : goal.returns-in-Some
returns-in-Some g c =
    let b = c.in-Some.ensures in
    let small = bytes_from c.in-Some.bytes (λ k. search rules) in
    record {
      some = record { bytes = c.in-Some.bytes; takes = b.some; long = search rules; small = small; number = c.from_be_bytes.ensures };
      sound = b.sound;
      place = b.place;
      kept = tt;
    }
