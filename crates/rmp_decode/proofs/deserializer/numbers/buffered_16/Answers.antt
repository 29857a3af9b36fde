use Rattle.std.proofs.Common.{refl, rules}
use Rattle.rmp_decode.proofs.BufferedHeads.{bytes_consumed}
use Rattle.rmp_decode.proofs.deserializer.numbers.buffered_16.Goals as goal
use Rattle.rmp_decode.proofs.deserializer.numbers.buffered_16.Goals.{in-Some+then-skip, in-Some+else-skip, in-None}

pub returns : goal.returns
returns g c = elim c.match-sixteen_of.branch [
  | in-Some+then-skip w ↦
      let taken = bytes_consumed 16 w.in-Some.bytes c.front.result.now (g.S.Source.ahead c.args.source.now) _ c.front.ensures.bytes w.in-Some.ensures.front
      w.in-Some.ensures.long (w.if-skip.ensures.bytes refl) in
      rw (w.result-is, w.source-is) (record { some = taken; sound = search rules; place = search rules; kept = tt })
  | in-Some+else-skip w ↦ rw (w.result-is, w.source-is) (record { some = tt; sound = tt; place = tt; kept = search rules })
  | in-None w ↦ rw (w.result-is, w.source-is) (record { some = tt; sound = tt; place = tt; kept = refl })
]
