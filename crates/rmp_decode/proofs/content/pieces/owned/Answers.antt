use Rattle.std.proofs.Common.{refl, rules}
use Rattle.rmp_decode.proofs.Payloads.{pull_blamed, clash}
use Rattle.rmp_decode.proofs.content.pieces.owned.Goals as goal

pub returns-in-Err : goal.returns-in-Err
returns-in-Err g c =
    let h = rw c.in-Err.is at c.read_slice.follows.holds-at-none in
    pull_blamed g.R.Source _ _ _ _ _ c.in-Err.e _ h.0 c.error_of.ensures (clash refl) (search rules)
