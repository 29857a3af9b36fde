use Rattle.rmp_decode.proofs.Seqs.{Values}
use Rattle.rmp_recursive.proofs.Parts.{steps_at}
use Rattle.test_recursive.specs.NestedLevels.{IsNested}
use Rattle.test_recursive.proofs.recursive.+read_nested.Given as goal

abbrev pub decreases-read_nested : goal.decreases-read_nested
decreases-read_nested g l = steps_at l.de.now

abbrev pub invariant-loop-sub : goal.invariant-loop-sub
invariant-loop-sub g l = Values g.R.Source IsNested l.initial.seq l.seq l.sub.items

abbrev pub decreases-loop-sub : goal.decreases-loop-sub
decreases-loop-sub g l = l.seq.left
