-- What was consumed is canonical, and leaves this many messages.
use Rattle.std.proofs.Common.{length}
use Rattle.rmp_serde.proofs.Checking.{Wants}
use Rattle.rmp_serde.proofs.check.check_canonical.Given as goal

abbrev pub invariant-loop-wanted : goal.invariant-loop-wanted
invariant-loop-wanted l = Wants l.fn.input l.wanted l.left

abbrev pub decreases-loop-wanted : goal.decreases-loop-wanted
decreases-loop-wanted l = length l.left
