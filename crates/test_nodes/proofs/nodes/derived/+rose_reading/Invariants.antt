use Rattle.std.proofs.Common.{◌+◌, ◌*◌}
use Rattle.rmp_decode.proofs.Seqs.{Values}
use Rattle.rmp_decode.proofs.StructRuns.{StructRun}
use Rattle.test_nodes.specs.RoseLevels.{IsRose, rose_names}
use Rattle.test_nodes.proofs.RoseLevels.{RoseHeld0}
use Rattle.rmp_recursive.proofs.Parts.{steps_at}
use Rattle.test_nodes.proofs.nodes.derived.+rose_reading.Given as goal

-- Fields nest below their struct, and so does an element of a list, unless it is a number out of bytes.
abbrev pub decreases-read_rose : goal.decreases-read_rose
decreases-read_rose g l = 6 * steps_at l.de.now

abbrev pub decreases-read_rose-next_value_with : goal.decreases-read_rose-next_value_with
decreases-read_rose-next_value_with g l = 6 * steps_at l.de.now + 5

abbrev pub decreases-read_rose_list : goal.decreases-read_rose_list
decreases-read_rose_list g l = 6 * steps_at l.de.now + 2

abbrev pub decreases-read_rose_list-next_element_with : goal.decreases-read_rose_list-next_element_with
decreases-read_rose_list-next_element_with g l = 6 * steps_at l.de.now + 1

abbrev pub invariant-read_rose-loop-fields : goal.invariant-read_rose-loop-fields
invariant-read_rose-loop-fields g l = StructRun g.R.Source rose_names RoseHeld0 l.initial.fields l.fields (l.slot0, tt)

abbrev pub decreases-read_rose-loop-fields : goal.decreases-read_rose-loop-fields
decreases-read_rose-loop-fields g l = l.fields.left

abbrev pub invariant-read_rose_list-loop-items : goal.invariant-read_rose_list-loop-items
invariant-read_rose_list-loop-items g l = Values g.R.Source IsRose l.initial.seq l.seq l.items.items

abbrev pub decreases-read_rose_list-loop-items : goal.decreases-read_rose_list-loop-items
decreases-read_rose_list-loop-items g l = l.seq.left
