use Rattle.std.proofs.Common.{length-take, length-drop, arith, ap, ◌∙◌}
use Rattle.rmp_wire.specs.Sinks.{next_fault}
use Rattle.rmp_wire.proofs.Told.{take_further, take_same, part_of_take, puts_part, puts_fault}
use Rattle.std.proofs.KnownBytes.{Appends-kept}
use Rattle.rmp_wire.proofs.sink.Sink.put_all.Goals as goal

pub returns-in-Ok-eq0-clause-writes : goal.returns-in-Ok-eq0-clause-writes
returns-in-Ok-eq0-clause-writes g c =
    puts_fault _ c.args.piece.now _ _ _ _ c.loop-at.at _ _ c.loop-at.invariant.within
    (take_same _ _ _ _ _ _ c.in-Ok-eq0.field-0-test c.loop-at.invariant.bytes c.in-Ok-eq0.ensures.bytes)
    (c.in-Ok-eq0.ensures.counts.0 c.in-Ok-eq0.field-0-test (simp (length-take, length-drop) (omega arith)) ∙ ap next_fault c.loop-at.invariant.faults)
    c.stopped.ensures

pub loop-at-preserved : goal.loop-at-preserved
loop-at-preserved g c = record {
  within = omega (arith, simp (length-take, length-drop) at c.in-Ok.ensures.count);
  bytes = take_further _ _ _ _ _ _ c.loop-at.invariant.bytes c.in-Ok.ensures.bytes;
  faults = c.in-Ok.ensures.counts.1 (omega arith) ∙ c.loop-at.invariant.faults;
  place = c.put.ensures.place ∙ c.loop-at.invariant.place;
}

pub returns-in-Err-Io-clause-writes : goal.returns-in-Err-Io-clause-writes
returns-in-Err-Io-clause-writes g c =
    puts_fault _ c.args.piece.now _ _ _ _ c.loop-at.at _ _ c.loop-at.invariant.within (Appends-kept _ _ _ _ c.loop-at.invariant.bytes c.in-Err-Io.ensures.bytes)
    ((rw c.in-Err-Io.field-0-is at c.in-Err-Io.ensures.counts) ∙ ap next_fault c.loop-at.invariant.faults) c.stopped-in-Err-Io.ensures

pub returns-in-Err-Memory-clause-writes : goal.returns-in-Err-Memory-clause-writes
returns-in-Err-Memory-clause-writes g c =
    let counts = rw c.in-Err-Memory.field-0-is at c.in-Err-Memory.ensures.counts in
    puts_part (part_of_take _ c.args.piece.now _ _ _ _ c.loop-at.at _ (Appends-kept _ _ _ _ c.loop-at.invariant.bytes c.in-Err-Memory.ensures.bytes)
    (counts.0 ∙ c.loop-at.invariant.faults, counts.1))
