use Rattle.std.proofs.Common.{rules}
use Rattle.rmp_decode.proofs.Characters.{char_consumed}
use Rattle.rmp_decode.proofs.content.chars.char_ahead.Goals as goal

pub returns : goal.returns
returns g c =
    let taken = char_consumed _ c.args.len _ _ _ c.in-Some.ensures c.front.ensures.bytes (c.skip.ensures.bytes (search rules)) in
    record { some = taken; sound = search rules; place = search rules; kept = tt }
