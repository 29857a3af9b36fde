-- By what comes next.
use Rattle.std.proofs.Common.{arith, ◌<◌}
use Rattle.rmp_scan.proofs.Stepping.{payload_steps, length_steps, some_or_none}
use Rattle.rmp_scan.proofs.want.Want.step.Goals as goal

pub returns-in-Payload : goal.returns-in-Payload
returns-in-Payload c =
    let h = rw c.in-Payload.is at c.in-Payload.n-test in
    let some : 0 < c.in-Payload.n = some_or_none c.in-Payload.n h.1 in
    payload_steps c.args.self c.args.bytes.now c.in-Payload.n c.min-passed.result c.in-Payload.is some c.requires.some (omega arith)
    (λ i. omega (arith, c.type_inv.bytes i))

pub returns-in-Length : goal.returns-in-Length
returns-in-Length c =
    let s = c.read-missing in
    length_steps c.args.self _ c.args.bytes.now c.in-Length.length s.result.0 s.result.1 s.result.2 c.in-Length.is s.ensures.reads (s.ensures.some c.requires.some)
    s.ensures.within s.ensures.fewer c.after_length.ensures.same c.after_length.ensures.claims
