-- No line ended so far.
use Rattle.std.proofs.Common.{◌-◌, ◌≤◌, length, take}
use Rattle.canon_lines.specs.Lines.{NoEnd}
use Rattle.canon_lines.proofs.lines.first_line.Given as goal

abbrev pub invariant-loop-at : goal.invariant-loop-at
invariant-loop-at l = record {
  within : l.at ≤ length l.fn.text;
  none : NoEnd (take l.at l.fn.text);
}

abbrev pub decreases-loop-at : goal.decreases-loop-at
decreases-loop-at l = length l.text - l.at

abbrev pub invariant-loop-at-2 : goal.invariant-loop-at-2
invariant-loop-at-2 l = record {
  within : l.at ≤ length l.fn.text;
  none : NoEnd (take l.at l.fn.text);
}

abbrev pub decreases-loop-at-2 : goal.decreases-loop-at-2
decreases-loop-at-2 l = length l.text - l.at
