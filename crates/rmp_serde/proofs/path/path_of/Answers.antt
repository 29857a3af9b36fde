use Rattle.std.proofs.Common.{refl, arith, subst, ◌∙◌}
use Rattle.std.proofs.lemmas.List.{take_all}
use Rattle.rmp_serde.specs.Paths.{AreSteps}
use Rattle.rmp_serde.proofs.PathSteps.{steps_next}
use Rattle.rmp_serde.proofs.path.path_of.Goals as goal

pub loop-turn-init : goal.loop-turn-init
loop-turn-init c = rw c.new-steps.ensures.items tt

pub loop-turn-preserved : goal.loop-turn-preserved
loop-turn-preserved c = rw c.in_ok-push.ensures.items
    (steps_next c.args.input.now c.deref-turn-items.result.now c.loop-turn.turn-index _ _ _ (omega (arith, c.loop-turn-test.true)) c.loop-turn.invariant
    c.in_ok-step_of.ensures)

pub returns : goal.returns
returns c = record {
  message = refl;
  place = refl;
  steps = subst (λ z. AreSteps c.args.input.now z c.loop-turn.steps.items)
      (take_all c.loop-turn.turn-index c.deref-turn-items.result.now (omega (arith, c.loop-turn-test.false)) ∙ c.deref-turn-items.ensures.value)
      c.loop-turn.invariant;
}
