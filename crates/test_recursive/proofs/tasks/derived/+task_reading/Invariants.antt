use Rattle.std.proofs.Common.{◌+◌, ◌*◌, max}
use Rattle.rmp_decode.proofs.Seqs.{Values}
use Rattle.rmp_decode.proofs.StructRuns.{StructRun}
use Rattle.test_recursive.specs.TaskLevels.{IsTask, task_run_names}
use Rattle.test_recursive.proofs.TaskLevels.{TaskRunHeld0}
use Rattle.test_recursive.proofs.tasks.derived.+task_reading.Given as goal

-- The content of a variant nests below it, and an element no deeper than its list.
abbrev pub decreases-read_task : goal.decreases-read_task
decreases-read_task g l = 8 * max 1 l.de.now.room

abbrev pub decreases-read_task-newtype_variant_with+2 : goal.decreases-read_task-newtype_variant_with+2
decreases-read_task-newtype_variant_with+2 g l = 8 * max 1 l.de.now.room + 7

abbrev pub decreases-read_task-newtype_variant_with+4 : goal.decreases-read_task-newtype_variant_with+4
decreases-read_task-newtype_variant_with+4 g l = 8 * max 1 l.de.now.room + 7

abbrev pub decreases-read_task_after_values : goal.decreases-read_task_after_values
decreases-read_task_after_values g l = 8 * max 1 l.de.now.room + 6

abbrev pub decreases-read_task_after_values-next_element_with+2 : goal.decreases-read_task_after_values-next_element_with+2
decreases-read_task_after_values-next_element_with+2 g l = 8 * max 1 l.de.now.room + 5

abbrev pub decreases-read_task_box : goal.decreases-read_task_box
decreases-read_task_box g l = 8 * max 1 l.de.now.room + 2

abbrev pub decreases-read_task_run_fields : goal.decreases-read_task_run_fields
decreases-read_task_run_fields g l = 8 * max 1 l.de.now.room + 6

abbrev pub decreases-read_task_run_fields-next_value_with+3 : goal.decreases-read_task_run_fields-next_value_with+3
decreases-read_task_run_fields-next_value_with+3 g l = 8 * max 1 l.de.now.room + 5

abbrev pub decreases-read_task_run_fields-next_value_with+4 : goal.decreases-read_task_run_fields-next_value_with+4
decreases-read_task_run_fields-next_value_with+4 g l = 8 * max 1 l.de.now.room + 5

abbrev pub decreases-read_task_list : goal.decreases-read_task_list
decreases-read_task_list g l = 8 * max 1 l.de.now.room + 2

abbrev pub decreases-read_task_list-next_element_with : goal.decreases-read_task_list-next_element_with
decreases-read_task_list-next_element_with g l = 8 * max 1 l.de.now.room + 1

abbrev pub decreases-read_task_option : goal.decreases-read_task_option
decreases-read_task_option g l = 8 * max 1 l.de.now.room + 4

abbrev pub decreases-read_task_option-deserialize_option_with : goal.decreases-read_task_option-deserialize_option_with
decreases-read_task_option-deserialize_option_with g l = 8 * max 1 l.de.now.room + 3

abbrev pub invariant-read_task_run_fields-loop-fields : goal.invariant-read_task_run_fields-loop-fields
invariant-read_task_run_fields-loop-fields g l = StructRun g.R.Source task_run_names TaskRunHeld0 l.initial.fields l.fields
    (l.slot0, (l.slot1, (l.slot2, (l.slot3, (l.slot4, tt)))))

abbrev pub decreases-read_task_run_fields-loop-fields : goal.decreases-read_task_run_fields-loop-fields
decreases-read_task_run_fields-loop-fields g l = l.fields.left

abbrev pub invariant-read_task_list-loop-items : goal.invariant-read_task_list-loop-items
invariant-read_task_list-loop-items g l = Values g.R.Source IsTask l.initial.seq l.seq l.items.items

abbrev pub decreases-read_task_list-loop-items : goal.decreases-read_task_list-loop-items
decreases-read_task_list-loop-items g l = l.seq.left
