use Rattle.std.proofs.Common.{◌≡◌, rules, true, false, length}
use Rattle.rmp_decode.proofs.ContentErrors.{raw_len, unlent, str_wider, not_utf8_str}
use Rattle.rmp_decode.proofs.Payloads.{payload_blamed, payload_refused, clash, no_utf8, utf8_memory}
use Rattle.rmp_decode.proofs.content.pieces.next_str.Goals as goal

pub returns-in-Err-from_utf8 : goal.returns-in-Err-from_utf8
returns-in-Err-from_utf8 g c =
    let lent : g.R.ReadSlice.lends ≡ true = search rules in
    let invalid = c.in-Err-from_utf8.ensures.cases.0 in
    let e = c.not_utf8.ensures in
    payload_refused g.R.Source _ _ _ _ _ (raw_len c.args.is_text c.args.len) c.in-Ok-Borrowed.s.now _ (search rules) (search rules) (search rules)
    (search rules) (λ r. no_utf8 c.args.is_text c.args.len _ invalid r.1.1.1.0 _ r.1.1.1.1 r.1.1.0)
    (not_utf8_str _ c.args.is_text c.args.len _ _ lent invalid e.text e.bytes) (λ _. utf8_memory c.args.is_text _ e.text e.bytes)

pub returns-in-Ok-Copied : goal.returns-in-Ok-Copied
returns-in-Ok-Copied g c =
    let copied : g.R.ReadSlice.lends ≡ false = search rules in
    payload_refused g.R.Source _ _ _ _ _ (raw_len c.args.is_text c.args.len) c.in-Ok-Copied.s.now _ (search rules) (search rules) (search rules)
    (search rules) (λ r. clash copied r.1.0)
    (str_wider _ _ _ _ (unlent _ c.args.is_text (length c.in-Ok-Copied.s.now) c.args.len _ _ copied c.not_lent.ensures)) (clash copied)

pub returns-in-Err : goal.returns-in-Err
returns-in-Err g c =
    let h = rw c.in-Err.is at c.read_slice.follows.holds-at-none in
    payload_blamed g.R.Source _ _ _ _ _ (raw_len c.args.is_text c.args.len) c.in-Err.e _ h.0 c.error_of.ensures c.in-Err.ensures.memory (search rules)
