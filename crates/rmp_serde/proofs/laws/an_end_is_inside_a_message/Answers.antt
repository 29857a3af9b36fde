use Rattle.std.specs.Prelude.{false}
use Rattle.std.proofs.Common.{arith}
use Rattle.rmp_wire.proofs.Taken.{bytes_from}
use Rattle.rmp_scan.proofs.Scanning.{begins_or_ends}
use Rattle.rmp_ends.specs.RefusalEnds.{refusal_inside}
use Rattle.rmp_serde.specs.Read.{ItemsUtf8}
use Rattle.rmp_serde.specs.Refuse.{UnreadFor}
use Rattle.rmp_serde.specs.ValueEnds.{unread_inside}
use Rattle.rmp_serde.proofs.laws.an_end_is_inside_a_message.Goals as goal

pub returns-clause-begins : goal.returns-clause-begins
returns-clause-begins c = λ room e r end.
    let own = bytes_from c.args.input.now (λ i. omega (arith, c.type_inv.input i)) in
    refusal_inside false (UnreadFor false) ItemsUtf8 (unread_inside false) room e c.args.input.now own end r

pub returns-clause-whole : goal.returns-clause-whole
returns-clause-whole c = λ room n e r k end. begins_or_ends c.args.input.now n k (returns-clause-begins c room e r end)
