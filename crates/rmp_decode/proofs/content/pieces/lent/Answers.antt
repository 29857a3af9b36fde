use Rattle.std.proofs.Common.{rules}
use Rattle.rmp_decode.proofs.Payloads.{pull_blamed}
use Rattle.rmp_decode.proofs.content.pieces.lent.Goals as goal

pub returns-in-Err : goal.returns-in-Err
returns-in-Err g c =
    let h = rw c.in-Err.is at c.read_slice.follows.holds-at-none in
    pull_blamed g.R.Source _ _ _ _ _ c.in-Err.e _ h.0 c.error_of.ensures (λ y. c.in-Err.ensures.memory y) (search rules)
