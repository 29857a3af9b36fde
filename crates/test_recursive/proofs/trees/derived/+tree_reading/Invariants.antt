use Rattle.std.proofs.Common.{◌+◌, ◌*◌, max}
use Rattle.rmp_decode.proofs.Seqs.{Values}
use Rattle.test_recursive.specs.TreeLevels.{IsTree}
use Rattle.test_recursive.proofs.trees.derived.+tree_reading.Given as goal

-- The content of a variant nests below it, and an element no deeper than its list.
abbrev pub decreases-read_tree : goal.decreases-read_tree
decreases-read_tree g l = 6 * max 1 l.de.now.room

abbrev pub decreases-read_tree-newtype_variant_with : goal.decreases-read_tree-newtype_variant_with
decreases-read_tree-newtype_variant_with g l = 6 * max 1 l.de.now.room + 5

abbrev pub decreases-read_tree_list : goal.decreases-read_tree_list
decreases-read_tree_list g l = 6 * max 1 l.de.now.room + 2

abbrev pub decreases-read_tree_list-next_element_with : goal.decreases-read_tree_list-next_element_with
decreases-read_tree_list-next_element_with g l = 6 * max 1 l.de.now.room + 1

abbrev pub invariant-read_tree_list-loop-items : goal.invariant-read_tree_list-loop-items
invariant-read_tree_list-loop-items g l = Values g.R.Source IsTree l.initial.seq l.seq l.items.items

abbrev pub decreases-read_tree_list-loop-items : goal.decreases-read_tree_list-loop-items
decreases-read_tree_list-loop-items g l = l.seq.left
