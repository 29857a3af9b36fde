use Rattle.std.proofs.Common.{◌≡◌, rules, false, length}
use Rattle.rmp_decode.proofs.ContentErrors.{raw_len, unlent}
use Rattle.rmp_decode.proofs.Payloads.{payload_blamed, payload_refused, clash}
use Rattle.rmp_decode.proofs.content.pieces.next_bytes.Goals as goal

pub returns-in-Ok-Copied : goal.returns-in-Ok-Copied
returns-in-Ok-Copied g c =
    let copied : g.R.ReadSlice.lends ≡ false = search rules in
    payload_refused g.R.Source _ _ _ _ _ (raw_len c.args.is_text c.args.len) c.in-Ok-Copied.s.now _ (search rules) (search rules) (search rules)
    (search rules) (λ r. clash copied r.1.0) (unlent _ c.args.is_text (length c.in-Ok-Copied.s.now) c.args.len _ _ copied c.not_lent.ensures) (clash copied)

pub returns-in-Err : goal.returns-in-Err
returns-in-Err g c =
    let h = rw c.in-Err.is at c.read_slice.follows.holds-at-none in
    payload_blamed g.R.Source _ _ _ _ _ (raw_len c.args.is_text c.args.len) c.in-Err.e _ h.0 c.error_of.ensures c.in-Err.ensures.memory (search rules)
