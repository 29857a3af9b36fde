use Rattle.std.proofs.Common.{rules, ◌≡◌, ◌∙◌, sym, ap, arith, pos}
use Rattle.std.specs.Int.{w64}
use Rattle.std.proofs.lemmas.Int.{to_z-of_z}
use Rattle.rmp_types.specs.Payloads.{long_payload}
use Rattle.rmp_types.specs.PayloadCases.{high_seconds}
use Rattle.rmp_types.proofs.timestamp.payload.written.Goals as goal

pub returns-else-low-lt-SECONDS : goal.returns-else-low-lt-SECONDS
returns-else-low-lt-SECONDS c =
    let same : c.args.seconds ≡ pos c.in-Ok.low = search rules in
    c.long.ensures ∙ ap (λ z. long_payload z c.args.nanoseconds) (to_z-of_z w64 c.args.seconds c.ranges.seconds)
    ∙ sym (high_seconds c.args.seconds c.in-Ok.low c.args.nanoseconds same (omega (arith, c.if-low-lt-SECONDS.false)))
