use Rattle.std.proofs.Common.{arith, ◌≡◌, ◌<◌, length, slice_index, ap, subst}
use Rattle.std.specs.Prelude.{true}
use Rattle.std.proofs.lemmas.Str.{lead_after_ascii}
use Rattle.rmp_serde.specs.Quoted.{is_escaped}
use Rattle.rmp_serde.proofs.Quoted.{escaped_ascii}
use Rattle.rmp_serde.proofs.value.text.quoted.split_plain.Goals as goal

pub range_from-requires : goal.range_from-requires
range_from-requires c =
    let n = c.plain_len-len.result in
    let text = c.args.text.now in
    let same = c.as_bytes-bytes.ensures.value in
    let some : n < length c.as_bytes-bytes.result.now = omega (arith, c.plain_len-len.ensures.within, c.if-len-bytes.false) in
    let within : n < length text = omega (arith, some, ap length same) in
    let ascii : slice_index text n < 128 = escaped_ascii (slice_index text n)
    (subst (λ s. is_escaped (slice_index s n) ≡ true) same (c.plain_len-len.ensures.escaped some)) in
    λ _. (omega (arith, within), λ less high. lead_after_ascii text n c.utf8.text ascii less high)
