use Rattle.std.proofs.Common.{◌+◌, ◌*◌}
use Rattle.rmp_decode.proofs.Seqs.{Values}
use Rattle.rmp_decode.proofs.StructRuns.{StructRun}
use Rattle.test_nodes.specs.FrameLevels.{IsFrame, frame_names}
use Rattle.test_nodes.proofs.FrameLevels.{FrameHeld0}
use Rattle.rmp_recursive.proofs.Parts.{steps_at}
use Rattle.test_nodes.proofs.parts.derived.+frame_reading.Given as goal

-- Fields nest below their struct, and so does an element of a list, unless it is a number out of bytes.
abbrev pub decreases-read_frame : goal.decreases-read_frame
decreases-read_frame g l = 6 * steps_at l.de.now

abbrev pub decreases-read_frame-next_value_with+6 : goal.decreases-read_frame-next_value_with+6
decreases-read_frame-next_value_with+6 g l = 6 * steps_at l.de.now + 5

abbrev pub decreases-read_frame_queue : goal.decreases-read_frame_queue
decreases-read_frame_queue g l = 6 * steps_at l.de.now + 2

abbrev pub decreases-read_frame_queue-next_element_with : goal.decreases-read_frame_queue-next_element_with
decreases-read_frame_queue-next_element_with g l = 6 * steps_at l.de.now + 1

abbrev pub invariant-read_frame-loop-fields : goal.invariant-read_frame-loop-fields
invariant-read_frame-loop-fields g l = StructRun g.R.Source (frame_names (g.P.FrameParts.reads_of g.C.SerializerConfig.human))
    (FrameHeld0 (g.P.FrameParts.reads_of g.C.SerializerConfig.human)) l.initial.fields l.fields
    (l.slot0, (l.slot1, (l.slot2, (l.slot3, (l.slot4, (l.slot5, tt))))))

abbrev pub decreases-read_frame-loop-fields : goal.decreases-read_frame-loop-fields
decreases-read_frame-loop-fields g l = l.fields.left

abbrev pub invariant-read_frame_queue-loop-items : goal.invariant-read_frame_queue-loop-items
invariant-read_frame_queue-loop-items g l = Values g.R.Source (IsFrame (g.P.FrameParts.reads_of g.C.SerializerConfig.human)) l.initial.seq l.seq l.items.items

abbrev pub decreases-read_frame_queue-loop-items : goal.decreases-read_frame_queue-loop-items
decreases-read_frame_queue-loop-items g l = l.seq.left
