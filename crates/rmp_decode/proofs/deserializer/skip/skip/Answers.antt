use Rattle.rmp_decode.proofs.SkipErrors.{skip_none, skip_passed, skip_cut, skip_nested}
use Rattle.rmp_decode.proofs.SkipLaws.{parts_taken, leaf_taken}
use Rattle.rmp_decode.proofs.deserializer.skip.skip.Goals as goal

pub returns-in-Parts : goal.returns-in-Parts
returns-in-Parts g c =
    let p = parts_taken g.R.Source _ _ _ c.in-Ok.ensures c.in-Parts.is_map c.in-Parts.n c.in-Parts.is in
    skip_nested g.R.Source _ c.args.de.now _ c.in-Parts.is_map c.in-Parts.n _ _ _ p c.messages.ensures.same c.skip_parts.ensures

pub returns-in-Ok-pass_payload : goal.returns-in-Ok-pass_payload
returns-in-Ok-pass_payload g c =
    let t = leaf_taken g.R.Source _ _ _ c.in-Ok.ensures c.in-Leaf.len c.in-Leaf.is in
    skip_passed g.R.Source _ c.args.de.now c.next_part.new.de c.in-Leaf.len _ t c.in-Ok-pass_payload.ensures.passes

pub returns-in-Err-pass_payload : goal.returns-in-Err-pass_payload
returns-in-Err-pass_payload g c =
    let t = leaf_taken g.R.Source _ _ _ c.in-Ok.ensures c.in-Leaf.len c.in-Leaf.is in
    skip_cut g.R.Source _ c.args.de.now c.next_part.new.de c.in-Leaf.len _ c.in-Err-pass_payload.e t c.in-Err-pass_payload.ensures.some
    c.in-Err-pass_payload.ensures.passes

pub returns-in-Err : goal.returns-in-Err
returns-in-Err g c = skip_none _ _ _ _ _ c.in-Err.ensures
