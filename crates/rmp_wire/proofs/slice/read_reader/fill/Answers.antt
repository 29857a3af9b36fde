-- Each step goes on from what the steps before it took.
use Rattle.std.proofs.Common.{◌∙◌, ◌-◌, arith, rules}
use Rattle.std.proofs.lemmas.Result.{err_from_is_err_and}
use Rattle.rmp_wire.proofs.Copying.{room_left, held_more, grown, begun_lost, begun_whole, blames_before}
use Rattle.rmp_wire.proofs.slice.read_reader.fill.Goals as goal

pub returns-in_err-copied_front-clause-err : goal.returns-in_err-copied_front-clause-err
returns-in_err-copied_front-clause-err g c =
    let p = err_from_is_err_and c.from_residual.result c.from_residual.ensures.1 in
    rw (p.1, p.2, c.in_err-copied_front.ensures.memory.0) (c.copied_front.ensures.sound ∙ c.loop-scratch.invariant.faults)

pub returns-in_err-copied_front-clause-begun : goal.returns-in_err-copied_front-clause-begun
returns-in_err-copied_front-clause-begun g c =
    let kept = c.in_err-copied_front.ensures.memory in
    rw (kept.1, kept.2) (begun_whole _ _ _ c.args.len c.loop-scratch.invariant.taken c.loop-scratch.invariant.within)

pub loop-scratch-preserved : goal.loop-scratch-preserved
loop-scratch-preserved g c =
    let held = c.loop-scratch.scratch.items in
    let room = room_left held c.args.len _ (c.len-in-loop-scratch.ensures ∙ c.loop-scratch.scratch.ok.0) c.loop-scratch.invariant.within in
    let gains = c.in_ok-copied_front.ensures.ok (search rules) in
    let more = held_more _ _ _ held _ (c.args.len - c.len-in-loop-scratch.result) c.args.len c.loop-scratch.invariant.taken room gains in record {
      within = more.0;
      taken = more.1;
      faults = c.copied_front.ensures.sound ∙ c.loop-scratch.invariant.faults;
      place = c.copied_front.ensures.place ∙ c.loop-scratch.invariant.place;
    }

pub loop-scratch-preserved-in_ok-pull_piece : goal.loop-scratch-preserved-in_ok-pull_piece
loop-scratch-preserved-in_ok-pull_piece g c =
    let kept = c.in_ok-copied_front.ensures.none c.if-not-branch.true in
    let held = c.loop-scratch.scratch.items in
    let room = room_left held c.args.len _ (c.len-in-loop-scratch.ensures ∙ c.loop-scratch.scratch.ok.0) c.loop-scratch.invariant.within in
    let gains = rw (kept.0, kept.1) at c.in_ok-pull_piece.ensures.ok in
    let more = held_more _ _ _ held _ (c.args.len - c.len-in-loop-scratch.result) c.args.len c.loop-scratch.invariant.taken room gains in record {
      within = more.0;
      taken = more.1;
      faults = c.in_ok-pull_piece.ensures.sound ∙ c.copied_front.ensures.sound ∙ c.loop-scratch.invariant.faults;
      place = c.pull_piece.ensures.place ∙ c.copied_front.ensures.place ∙ c.loop-scratch.invariant.place;
    }

pub returns-in_err-pull_piece-clause-err : goal.returns-in_err-pull_piece-clause-err
returns-in_err-pull_piece-clause-err g c =
    let p = err_from_is_err_and c.from_residual-in_err-pull_piece.result c.from_residual-in_err-pull_piece.ensures.1 in
    let kept = c.in_ok-copied_front.ensures.none c.if-not-branch.true in
    let cause = rw kept.0 at c.in_err-pull_piece.ensures.err in
    let held = c.loop-scratch.scratch.items in
    let room = room_left held c.args.len _ (c.len-in-loop-scratch.ensures ∙ c.loop-scratch.scratch.ok.0) c.loop-scratch.invariant.within in
    let at = c.loop-scratch.invariant in
    rw (p.1, p.2) (blames_before _ _ _ held _ _ _ (c.args.len - c.len-in-loop-scratch.result) c.args.len at.taken room at.faults cause)

pub returns-in_err-pull_piece-clause-begun : goal.returns-in_err-pull_piece-clause-begun
returns-in_err-pull_piece-clause-begun g c =
    let kept = c.in_ok-copied_front.ensures.none c.if-not-branch.true in
    let lost = rw kept.0 at c.in_err-pull_piece.ensures.lost in
    let held = c.loop-scratch.scratch.items in
    let room = room_left held c.args.len _ (c.len-in-loop-scratch.ensures ∙ c.loop-scratch.scratch.ok.0) c.loop-scratch.invariant.within in
    let at = c.loop-scratch.invariant in
    rw (c.in_err-pull_piece.ensures.kept, kept.1)
    (begun_lost _ _ _ held lost.0 (c.args.len - c.len-in-loop-scratch.result) c.args.len at.taken room lost.1 lost.2)

pub returns-clause-begun : goal.returns-clause-begun
returns-clause-begun g c = begun_whole _ _ _ c.args.len c.loop-scratch.invariant.taken c.loop-scratch.invariant.within

pub loop-scratch-smaller : goal.loop-scratch-smaller
loop-scratch-smaller g c =
    omega (arith, grown _ _ c.loop-scratch.scratch.items _ (c.args.len - c.len-in-loop-scratch.result) (c.in_ok-copied_front.ensures.ok (search rules)))

pub loop-scratch-smaller-in_ok-pull_piece : goal.loop-scratch-smaller-in_ok-pull_piece
loop-scratch-smaller-in_ok-pull_piece g c =
    let kept = c.in_ok-copied_front.ensures.none c.if-not-branch.true in
    let gains = rw kept.1 at c.in_ok-pull_piece.ensures.ok in
    omega (arith, grown _ _ c.loop-scratch.scratch.items _ (c.args.len - c.len-in-loop-scratch.result) gains)
