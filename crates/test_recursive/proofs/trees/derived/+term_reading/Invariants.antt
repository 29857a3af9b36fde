use Rattle.std.proofs.Common.{◌+◌, ◌*◌, max}
use Rattle.rmp_decode.proofs.Seqs.{Values}
use Rattle.test_recursive.specs.TermLevels.{IsTerm}
use Rattle.test_recursive.proofs.trees.derived.+term_reading.Given as goal

-- The content of a variant nests below it, and an element no deeper than its list.
abbrev pub decreases-read_term : goal.decreases-read_term
decreases-read_term g l = 6 * max 1 l.de.now.room

abbrev pub decreases-read_term-newtype_variant_with+8 : goal.decreases-read_term-newtype_variant_with+8
decreases-read_term-newtype_variant_with+8 g l = 6 * max 1 l.de.now.room + 5

abbrev pub decreases-read_term-newtype_variant_with+9 : goal.decreases-read_term-newtype_variant_with+9
decreases-read_term-newtype_variant_with+9 g l = 6 * max 1 l.de.now.room + 5

abbrev pub decreases-read_term-newtype_variant_with+10 : goal.decreases-read_term-newtype_variant_with+10
decreases-read_term-newtype_variant_with+10 g l = 6 * max 1 l.de.now.room + 5

abbrev pub decreases-read_term_box : goal.decreases-read_term_box
decreases-read_term_box g l = 6 * max 1 l.de.now.room + 2

abbrev pub decreases-read_term_option : goal.decreases-read_term_option
decreases-read_term_option g l = 6 * max 1 l.de.now.room + 4

abbrev pub decreases-read_term_option-deserialize_option_with : goal.decreases-read_term_option-deserialize_option_with
decreases-read_term_option-deserialize_option_with g l = 6 * max 1 l.de.now.room + 3

abbrev pub decreases-read_term_list : goal.decreases-read_term_list
decreases-read_term_list g l = 6 * max 1 l.de.now.room + 2

abbrev pub decreases-read_term_list-next_element_with : goal.decreases-read_term_list-next_element_with
decreases-read_term_list-next_element_with g l = 6 * max 1 l.de.now.room + 1

abbrev pub invariant-read_term_list-loop-items : goal.invariant-read_term_list-loop-items
invariant-read_term_list-loop-items g l = Values g.R.Source IsTerm l.initial.seq l.seq l.items.items

abbrev pub decreases-read_term_list-loop-items : goal.decreases-read_term_list-loop-items
decreases-read_term_list-loop-items g l = l.seq.left
