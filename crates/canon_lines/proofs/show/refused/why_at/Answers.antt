use Rattle.rmp_wire.specs.Taking.{byte_of}
use Rattle.canon_lines.proofs.Refusing.{why_of_head}
use Rattle.canon_lines.proofs.show.refused.why_at.Goals as goal

pub returns-in-Ok : goal.returns-in-Ok
returns-in-Ok c = why_of_head c.in-Ok.field-0-0 c.in-Ok.head c.args.bytes.now c.next_head.new.source.now c.why_after.result c.in-Ok.ensures.reads.ok
    c.why_after.ensures

pub returns-in-Err-TypeMismatch : goal.returns-in-Err-TypeMismatch
unfolding byte_of
returns-in-Err-TypeMismatch c =
    let reads = rw c.in-Err-TypeMismatch.field-0-is at c.in-Err-TypeMismatch.ensures.reads in
    (c.next_head.new.source.now, reads.err.leaves.1)
