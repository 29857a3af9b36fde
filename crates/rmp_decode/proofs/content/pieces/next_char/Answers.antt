use Rattle.std.proofs.Common.{◌≡◌, rules, refl, encode_utf8}
use Rattle.rmp_decode.proofs.Payloads.{payload_blamed, payload_refused, char_memory}
use Rattle.rmp_decode.proofs.content.pieces.next_char.Goals as goal

pub returns-in-Err-char_of : goal.returns-in-Err-char_of
returns-in-Err-char_of g c =
    let e = c.in-Err-char_of.ensures in
    payload_refused g.R.Source _ _ _ _ _ refl c.as_bytes.result.now _ (search rules) (search rules) (search rules) (search rules)
    (λ r. e.0 r.0 r.1.1 (let is = r.1.0 in let same : c.as_bytes.result.now ≡ encode_utf8 r.0 = cc in same)) (search rules)
    (λ _. char_memory c.as_bytes.result.now _ e.1)

pub returns-in-Err : goal.returns-in-Err
returns-in-Err g c =
    let h = rw c.in-Err.is at c.read_slice.follows.holds-at-none in
    payload_blamed g.R.Source _ _ _ _ _ refl c.in-Err.e _ h.0 c.error_of.ensures (λ y. c.in-Err.ensures.memory y) (search rules)
