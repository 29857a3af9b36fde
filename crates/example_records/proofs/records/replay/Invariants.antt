-- Of records and a cut one, those that were read are the first, and the others are left.
use Rattle.std.proofs.Common.{◌≡◌, ℕ, List, length}
use Rattle.std.specs.Prelude.{All, ◌++◌}
use Rattle.rmp_wire.specs.Msg.{Msg}
use Rattle.example_records.specs.Held.{written, IsRecord, IsCut}
use Rattle.example_records.proofs.Log.{Replayed}
use Rattle.example_records.proofs.records.replay.Given as goal

abbrev pub invariant-loop-record : goal.invariant-loop-record
invariant-loop-record l = (ms : List Msg) (cut : List ℕ) → All IsRecord ms → IsCut cut → l.initial.log ≡ written ms ++ cut
    → Replayed ms cut l.records.items l.rest

abbrev pub decreases-loop-record : goal.decreases-loop-record
decreases-loop-record l = length l.rest
