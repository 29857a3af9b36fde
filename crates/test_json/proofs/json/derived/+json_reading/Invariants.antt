use Rattle.std.proofs.Common.{◌+◌, ◌*◌, max, String}
use Rattle.std.specs.String.{string_cmp}
use Rattle.std.specs.Prelude.{string_bytes}
use Rattle.std.specs.declared.alloc.Global.{Global}
use Rattle.rmp_decode.specs.Read.{IsRaw}
use Rattle.rmp_decode.proofs.Maps.{Gathers}
use Rattle.rmp_decode.proofs.Seqs.{Values}
use Rattle.test_json.specs.JsonLevels.{IsJson}
use Rattle.test_json.proofs.json.derived.+json_reading.Given as goal

-- The content of a variant nests below it, and an element no deeper than its list.
abbrev pub decreases-read_json : goal.decreases-read_json
decreases-read_json g l = 6 * max 1 l.de.now.room

abbrev pub decreases-read_json-newtype_variant_with+2 : goal.decreases-read_json-newtype_variant_with+2
decreases-read_json-newtype_variant_with+2 g l = 6 * max 1 l.de.now.room + 5

abbrev pub decreases-read_json-newtype_variant_with+3 : goal.decreases-read_json-newtype_variant_with+3
decreases-read_json-newtype_variant_with+3 g l = 6 * max 1 l.de.now.room + 5

abbrev pub decreases-read_json_list : goal.decreases-read_json_list
decreases-read_json_list g l = 6 * max 1 l.de.now.room + 2

abbrev pub decreases-read_json_list-next_element_with : goal.decreases-read_json_list-next_element_with
decreases-read_json_list-next_element_with g l = 6 * max 1 l.de.now.room + 1

abbrev pub decreases-read_json_string_map : goal.decreases-read_json_string_map
decreases-read_json_string_map g l = 6 * max 1 l.de.now.room + 2

abbrev pub decreases-read_json_string_map-next_value_with : goal.decreases-read_json_string_map-next_value_with
decreases-read_json_string_map-next_value_with g l = 6 * max 1 l.de.now.room + 1

abbrev pub invariant-read_json_list-loop-items : goal.invariant-read_json_list-loop-items
invariant-read_json_list-loop-items g l = Values g.R.Source IsJson l.initial.seq l.seq l.items.items

abbrev pub decreases-read_json_list-loop-items : goal.decreases-read_json_list-loop-items
decreases-read_json_list-loop-items g l = l.seq.left

abbrev pub invariant-read_json_string_map-loop-entries : goal.invariant-read_json_string_map-loop-entries
invariant-read_json_string_map-loop-entries g l = Gathers g.R.Source string_cmp (λ j (q : String Global). IsRaw j (string_bytes q)) IsJson l.initial.pairs
    l.pairs l.entries.entries

abbrev pub decreases-read_json_string_map-loop-entries : goal.decreases-read_json_string_map-loop-entries
decreases-read_json_string_map-loop-entries g l = l.pairs.left
