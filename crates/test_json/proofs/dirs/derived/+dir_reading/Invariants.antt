use Rattle.std.proofs.Common.{◌+◌, ◌*◌, ℕ}
use Rattle.std.specs.Ordering.{nat_cmp}
use Rattle.rmp_decode.specs.Read.{IsChar}
use Rattle.rmp_decode.proofs.Maps.{Gathers}
use Rattle.rmp_decode.proofs.StructRuns.{StructRun}
use Rattle.test_json.specs.DirLevels.{IsDir, dir_names}
use Rattle.test_json.proofs.DirLevels.{DirHeld0}
use Rattle.rmp_recursive.proofs.Parts.{steps_at}
use Rattle.test_json.proofs.dirs.derived.+dir_reading.Given as goal

-- Fields nest below their struct, and so does an element of a list, unless it is a number out of bytes.
abbrev pub decreases-read_dir : goal.decreases-read_dir
decreases-read_dir g l = 6 * steps_at l.de.now

abbrev pub decreases-read_dir-next_value_with : goal.decreases-read_dir-next_value_with
decreases-read_dir-next_value_with g l = 6 * steps_at l.de.now + 5

abbrev pub decreases-read_dir_char_map : goal.decreases-read_dir_char_map
decreases-read_dir_char_map g l = 6 * steps_at l.de.now + 2

abbrev pub decreases-read_dir_char_map-next_value_with : goal.decreases-read_dir_char_map-next_value_with
decreases-read_dir_char_map-next_value_with g l = 6 * steps_at l.de.now + 1

abbrev pub invariant-read_dir-loop-fields : goal.invariant-read_dir-loop-fields
invariant-read_dir-loop-fields g l = StructRun g.R.Source dir_names DirHeld0 l.initial.fields l.fields (l.slot0, (l.slot1, tt))

abbrev pub decreases-read_dir-loop-fields : goal.decreases-read_dir-loop-fields
decreases-read_dir-loop-fields g l = l.fields.left

abbrev pub invariant-read_dir_char_map-loop-entries : goal.invariant-read_dir_char_map-loop-entries
invariant-read_dir_char_map-loop-entries g l = Gathers g.R.Source nat_cmp (λ j (q : ℕ). IsChar j q) IsDir l.initial.pairs l.pairs l.entries.entries

abbrev pub decreases-read_dir_char_map-loop-entries : goal.decreases-read_dir_char_map-loop-entries
decreases-read_dir_char_map-loop-entries g l = l.pairs.left
