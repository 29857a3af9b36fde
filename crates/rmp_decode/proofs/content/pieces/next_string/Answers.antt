use Rattle.std.proofs.Common.{refl, rules}
use Rattle.std.proofs.lemmas.Str.{IsUtf8-string_bytes}
use Rattle.rmp_decode.proofs.ContentErrors.{raw_len, not_utf8_string}
use Rattle.rmp_decode.proofs.Payloads.{payload_blamed, payload_refused, payload_unkept, clash, no_utf8, utf8_memory}
use Rattle.rmp_decode.proofs.content.pieces.next_string.Goals as goal

pub returns-in-Err : goal.returns-in-Err
returns-in-Err g c =
    let h = rw c.in-Err.is at c.read_slice.follows.holds-at-none in
    payload_blamed g.R.Source _ _ _ _ _ (raw_len c.args.is_text c.args.len) c.in-Err.e _ h.0 c.error_of.ensures (clash refl) (search rules)

pub returns-in-Err-from_utf8 : goal.returns-in-Err-from_utf8
returns-in-Err-from_utf8 g c =
    let invalid = c.in-Err-from_utf8.ensures.cases.0 in
    let e = c.not_utf8.ensures in
    payload_refused g.R.Source _ _ _ _ _ (raw_len c.args.is_text c.args.len) c.as_bytes.result.now _ (search rules) (search rules) (search rules)
    (search rules) (λ r. no_utf8 c.args.is_text c.args.len _ invalid r.1.0 _ r.1.1 (IsUtf8-string_bytes r.0))
    (not_utf8_string c.args.is_text c.args.len _ _ invalid e.text e.bytes) (λ _. utf8_memory c.args.is_text _ e.text e.bytes)

pub returns-in-Err-from_str : goal.returns-in-Err-from_str
returns-in-Err-from_str g c = payload_unkept g.R.Source _ _ _ _ _ refl refl (search rules) (search rules)
