use Rattle.std.proofs.Common.{arith, ap, ◌∙◌}
use Rattle.std.specs.Int.{w64, w128, to_be_bytes}
use Rattle.rmp_wire.specs.Heads.{fits_head}
use Rattle.rmp_wire.specs.Msg.{bin}
use Rattle.rmp_wire.proofs.Writing.{puts_as}
use Rattle.rmp_encode.proofs.Leaves.{wide_piece, wire_tree, wire_marker}
use Rattle.rmp_encode.proofs.serializer.Serializer.serialize_u128.Goals as goal

pub returns-clause-writes : goal.returns-clause-writes
unfolding fits_head
returns-clause-writes g c =
    let high = c.copy_from_slice.ensures.after ∙ c.to_be_bytes.ensures ∙ ap (to_be_bytes w64) c.high_half-high.ensures in
    let low = c.copy_from_slice-2.ensures.after ∙ c.to_be_bytes-2.ensures in
    wire_tree g.W.Sink (bin (to_be_bytes w128 c.args.n)) c.put_all.result c.answer.ensures.is (grind arith)
    (puts_as (rw (high, low) (wide_piece c.args.n)) c.put_all.ensures.writes)

pub returns-clause-marker : goal.returns-clause-marker
returns-clause-marker g c = wire_marker g.W.Sink _ c.put_all.result c.answer.ensures.is c.put_all.ensures.writes
