use Rattle.std.proofs.Common.{arith}
use Rattle.rmp_serde.proofs.Pushing.{cut_off}
use Rattle.rmp_serde.proofs.value.flat.Nodes.append_pair.Goals as goal

pub returns-in-Err-clause-kept : goal.returns-in-Err-clause-kept
returns-in-Err-clause-kept c =
    let old = c.args.self.now in
    cut_off old c.append.new.self c.append-2.new.self _ c.len-nodes.result c.len-bytes.result c.in_ok-append.ensures.front c.in-Err.ensures.kept
    (omega (arith, c.len-nodes.ensures, old.nodes.ok.0)) (omega (arith, c.len-bytes.ensures, old.bytes.ok.0)) c.truncate.ensures.items
    c.truncate-in-Err.ensures.items
