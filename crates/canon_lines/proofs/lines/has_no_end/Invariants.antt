-- Where no end was found so far, there is none.
use Rattle.std.proofs.Common.{◌≡◌, false, take}
use Rattle.canon_lines.specs.Lines.{NoEnd}
use Rattle.canon_lines.proofs.lines.has_no_end.Given as goal

abbrev pub invariant-loop-i : goal.invariant-loop-i
invariant-loop-i l = record { none : l.found ≡ false → NoEnd (take l.i l.block) }
