use Rattle.std.proofs.Common.{◌+◌, ◌*◌, Option, Box}
use Rattle.std.specs.declared.alloc.Global.{Global}
use Rattle.rmp_wire.specs.Msg.{Msg}
use Rattle.rmp_decode.specs.Options.{IsOption}
use Rattle.test_nodes.specs.declared.lists.List.{List as OwnList}
use Rattle.rmp_decode.proofs.Seqs.{Values}
use Rattle.rmp_decode.proofs.StructRuns.{StructRun}
use Rattle.test_nodes.specs.OwnListLevels.{IsOwnList, own_list_names}
use Rattle.test_nodes.proofs.OwnListLevels.{OwnListHeld0}
use Rattle.rmp_recursive.proofs.Parts.{steps_at}
use Rattle.rmp_recursive.specs.Parts.{Boxed}
use Rattle.test_nodes.proofs.lists.derived.+own_list_reading.Given as goal

-- Fields nest below their struct, and so does an element of a list, unless it is a number out of bytes.
abbrev pub decreases-read_own_list : goal.decreases-read_own_list
decreases-read_own_list g l = 8 * steps_at l.de.now

abbrev pub decreases-read_own_list-next_value_with : goal.decreases-read_own_list-next_value_with
decreases-read_own_list-next_value_with g l = 8 * steps_at l.de.now + 7

abbrev pub decreases-read_own_list-next_value_with+2 : goal.decreases-read_own_list-next_value_with+2
decreases-read_own_list-next_value_with+2 g l = 8 * steps_at l.de.now + 7

abbrev pub decreases-read_own_list-next_value_with+3 : goal.decreases-read_own_list-next_value_with+3
decreases-read_own_list-next_value_with+3 g l = 8 * steps_at l.de.now + 7

abbrev pub decreases-read_own_list_option : goal.decreases-read_own_list_option
decreases-read_own_list_option g l = 8 * steps_at l.de.now + 4

abbrev pub decreases-read_own_list_option-deserialize_option_with : goal.decreases-read_own_list_option-deserialize_option_with
decreases-read_own_list_option-deserialize_option_with g l = 8 * steps_at l.de.now + 3

abbrev pub decreases-read_own_list_list_option : goal.decreases-read_own_list_list_option
decreases-read_own_list_list_option g l = 8 * steps_at l.de.now + 4

abbrev pub decreases-read_own_list_list_option-deserialize_option_with : goal.decreases-read_own_list_list_option-deserialize_option_with
decreases-read_own_list_list_option-deserialize_option_with g l = 8 * steps_at l.de.now + 3

abbrev pub decreases-read_own_list_list : goal.decreases-read_own_list_list
decreases-read_own_list_list g l = 8 * steps_at l.de.now + 2

abbrev pub decreases-read_own_list_list-next_element_with : goal.decreases-read_own_list_list-next_element_with
decreases-read_own_list_list-next_element_with g l = 8 * steps_at l.de.now + 1

abbrev pub decreases-read_own_list_option_list : goal.decreases-read_own_list_option_list
decreases-read_own_list_option_list g l = 8 * steps_at l.de.now + 6

abbrev pub decreases-read_own_list_option_list-next_element_with : goal.decreases-read_own_list_option_list-next_element_with
decreases-read_own_list_option_list-next_element_with g l = 8 * steps_at l.de.now + 5

abbrev pub decreases-read_own_list_box : goal.decreases-read_own_list_box
decreases-read_own_list_box g l = 8 * steps_at l.de.now + 2

abbrev pub invariant-read_own_list-loop-fields : goal.invariant-read_own_list-loop-fields
invariant-read_own_list-loop-fields g l = StructRun g.R.Source own_list_names OwnListHeld0 l.initial.fields l.fields
    (l.slot0, (l.slot1, (l.slot2, (l.slot3, tt))))

abbrev pub decreases-read_own_list-loop-fields : goal.decreases-read_own_list-loop-fields
decreases-read_own_list-loop-fields g l = l.fields.left

abbrev pub invariant-read_own_list_list-loop-items : goal.invariant-read_own_list_list-loop-items
invariant-read_own_list_list-loop-items g l = Values g.R.Source IsOwnList l.initial.seq l.seq l.items.items

abbrev pub decreases-read_own_list_list-loop-items : goal.decreases-read_own_list_list-loop-items
decreases-read_own_list_list-loop-items g l = l.seq.left

abbrev pub invariant-read_own_list_option_list-loop-items : goal.invariant-read_own_list_option_list-loop-items
invariant-read_own_list_option_list-loop-items g l = Values g.R.Source (λ (j : Msg) (q : Option (Box OwnList Global)). IsOption (Boxed IsOwnList) j q)
    l.initial.seq l.seq l.items.items

abbrev pub decreases-read_own_list_option_list-loop-items : goal.decreases-read_own_list_option_list-loop-items
decreases-read_own_list_option_list-loop-items g l = l.seq.left
