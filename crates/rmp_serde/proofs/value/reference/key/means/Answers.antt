use Rattle.rmp_serde.proofs.Pointers.{nothing_meant}
use Rattle.rmp_serde.proofs.value.reference.key.means.Goals as goal

pub returns-in_default : goal.returns-in_default
returns-in_default c =
    let l = c.loop-byte in
    let more = nothing_meant c.args.token.now c.args.text.now l.rest.now l.byte-index in
    record { same = (λ f. absurd cc, λ e. absurd (more c.loop-byte-test.true c.in_default.ensures.first l.invariant e)) }
