-- The steps so far are those of the turns so far.
use Rattle.std.proofs.Common.{take}
use Rattle.rmp_serde.specs.Paths.{AreSteps}
use Rattle.rmp_serde.proofs.path.path_of.Given as goal

abbrev pub invariant-loop-turn : goal.invariant-loop-turn
invariant-loop-turn l = AreSteps l.input (take l.turn-index l.turn-items) l.steps.items
