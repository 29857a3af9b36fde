use Rattle.std.proofs.Common.{length-take, length-drop, arith, ◌∙◌}
use Rattle.rmp_wire.proofs.Told.{take_further}
use Rattle.canon_lines.proofs.buffer.write_out.Goals as goal

pub loop-written-preserved : goal.loop-written-preserved
loop-written-preserved g c = record {
  within = omega (arith, simp (length-take, length-drop) at c.in-Ok.ensures.count);
  bytes = take_further _ _ _ _ _ _ c.loop-written.invariant.bytes c.in-Ok.ensures.bytes;
  faults = c.in-Ok.ensures.counts.1 (omega arith) ∙ c.loop-written.invariant.faults;
  place = c.put.ensures.place ∙ c.loop-written.invariant.place;
}
