use Rattle.std.proofs.Common.{◌∙◌, refl, sym, ap, rules}
use Rattle.rmp_recursive.specs.Parts.{all_by}
use Rattle.test_recursive.specs.declared.tasks.Task.{out-Task}
use Rattle.test_recursive.specs.declared.tasks.Task.TheOpen.{Task-F}
use Rattle.test_recursive.specs.declared.tasks.Task.TheViews.{out-roll-Task}
use Rattle.test_recursive.specs.TaskLevels.{task_at_Run, task_fits_in, task_is_at}
use Rattle.std.proofs.lemmas.Result.{err_from_is_err_and}
use Rattle.rmp_encode.proofs.Going.{unopened}
use Rattle.rmp_encode.proofs.Parts.{rests_at, part_takes}
use Rattle.test_recursive.specs.declared.tasks.Task.TheVariants.{rolls-Idle, rolls-Move, rolls-After, rolls-Wait, rolls-Run}
use Rattle.rmp_recursive.proofs.Parts.{ok_holds}
use Rattle.test_recursive.proofs.tasks.derived.TaskSerialize.+task_writing.Goals as goal

pub returns-in-Idle-clause-value : goal.returns-in-Idle-clause-value
returns-in-Idle-clause-value g t c =
    let is = ap out-Task (c.in-Idle.is ∙ sym rolls-Idle) ∙ out-roll-Task Task-F.Idle in
    ok_holds c.serialize_unit_variant.result _ (task_fits_in c.args.self.now Task-F.Idle is tt)

pub returns-in_err-parts-in-Move-clause-writes : goal.returns-in_err-parts-in-Move-clause-writes
returns-in_err-parts-in-Move-clause-writes g t c =
    let p = err_from_is_err_and c.from_residual.result c.from_residual.ensures.1 in
    rw (
      p.1,
      p.2,
      task_is_at c.args.self.now (Task-F.Move c.in-Move.first c.in-Move.second)
          (ap out-Task (c.in-Move.is ∙ sym (rolls-Move c.in-Move.first c.in-Move.second)) ∙ out-roll-Task (Task-F.Move c.in-Move.first c.in-Move.second)),
    )
    (part_takes g.W.Sink _ (λ h. grind rules) (unopened g.W.Sink _ _ _ _ c.args.se.now _ _ _ _ c.in_err-parts-in-Move.was
    c.serialize_tuple_variant.follows.holds-at-none refl))

pub returns-in_err-serialize_element-in-Move-clause-writes : goal.returns-in_err-serialize_element-in-Move-clause-writes
returns-in_err-serialize_element-in-Move-clause-writes g t c =
    let p = err_from_is_err_and c.from_residual-in_err-serialize_element-in-Move.result c.from_residual-in_err-serialize_element-in-Move.ensures.1 in
    rw (
      p.1,
      p.2,
      task_is_at c.args.self.now (Task-F.Move c.in-Move.first c.in-Move.second)
          (ap out-Task (c.in-Move.is ∙ sym (rolls-Move c.in-Move.first c.in-Move.second)) ∙ out-roll-Task (Task-F.Move c.in-Move.first c.in-Move.second)),
    )
    (part_takes g.W.Sink _ (λ h. grind rules) (rests_at g.W.Sink (search rules)
    (c.in_err-serialize_element-in-Move.ensures.writes c.args.se.now _ _ (c.in_ok-parts-in-Move.ensures.opened _ refl))))

pub returns-in_err-serialize_element-in-Move-2-clause-writes : goal.returns-in_err-serialize_element-in-Move-2-clause-writes
returns-in_err-serialize_element-in-Move-2-clause-writes g t c =
    let p = err_from_is_err_and c.from_residual-in_err-serialize_element-in-Move-2.result c.from_residual-in_err-serialize_element-in-Move-2.ensures.1 in
    rw (
      p.1,
      p.2,
      task_is_at c.args.self.now (Task-F.Move c.in-Move.first c.in-Move.second)
          (ap out-Task (c.in-Move.is ∙ sym (rolls-Move c.in-Move.first c.in-Move.second)) ∙ out-roll-Task (Task-F.Move c.in-Move.first c.in-Move.second)),
    )
    (part_takes g.W.Sink _ (λ h. grind rules) (rests_at g.W.Sink (search rules)
    (c.in_err-serialize_element-in-Move-2.ensures.writes c.args.se.now _ _
    (c.in_ok-serialize_element-in-Move.ensures.writes c.args.se.now _ _ (c.in_ok-parts-in-Move.ensures.opened _ refl)))))

pub returns-in_ok-serialize_element-in-Move-2-clause-writes : goal.returns-in_ok-serialize_element-in-Move-2-clause-writes
returns-in_ok-serialize_element-in-Move-2-clause-writes g t c =
    rw (task_is_at c.args.self.now (Task-F.Move c.in-Move.first c.in-Move.second)
    (ap out-Task (c.in-Move.is ∙ sym (rolls-Move c.in-Move.first c.in-Move.second)) ∙ out-roll-Task (Task-F.Move c.in-Move.first c.in-Move.second)))
    (part_takes g.W.Sink _ (λ h. grind rules) (rests_at g.W.Sink (search rules) (c.end.ensures.writes c.args.se.now _
    (c.in_ok-serialize_element-in-Move-2.ensures.writes c.args.se.now _ _
    (c.in_ok-serialize_element-in-Move.ensures.writes c.args.se.now _ _ (c.in_ok-parts-in-Move.ensures.opened _ refl))))))

pub returns-in_ok-serialize_element-in-Move-2-clause-value : goal.returns-in_ok-serialize_element-in-Move-2-clause-value
returns-in_ok-serialize_element-in-Move-2-clause-value g t c =
    ok_holds c.end.result _ (task_fits_in c.args.self.now (Task-F.Move c.in-Move.first c.in-Move.second)
    (ap out-Task (c.in-Move.is ∙ sym (rolls-Move c.in-Move.first c.in-Move.second)) ∙ out-roll-Task (Task-F.Move c.in-Move.first c.in-Move.second))
    (c.in_ok-serialize_element-in-Move.ensures.value, c.in_ok-serialize_element-in-Move-2.ensures.value))

pub returns-in_err-parts-in-After-clause-writes : goal.returns-in_err-parts-in-After-clause-writes
returns-in_err-parts-in-After-clause-writes g t c =
    let p = err_from_is_err_and c.from_residual-in_err-parts-in-After.result c.from_residual-in_err-parts-in-After.ensures.1 in
    rw (
      p.1,
      p.2,
      task_is_at c.args.self.now (Task-F.After c.in-After.first c.in-After.second)
          (ap out-Task (c.in-After.is ∙ sym (rolls-After c.in-After.first c.in-After.second))
          ∙ out-roll-Task (Task-F.After c.in-After.first c.in-After.second)),
    )
    (part_takes g.W.Sink _ (λ h. grind rules) (unopened g.W.Sink _ _ _ _ c.args.se.now _ _ _ _ c.in_err-parts-in-After.was
    c.serialize_tuple_variant-in-After.follows.holds-at-none refl))

pub returns-in_err-serialize_element-in-After-clause-writes : goal.returns-in_err-serialize_element-in-After-clause-writes
returns-in_err-serialize_element-in-After-clause-writes g t c =
    let p = err_from_is_err_and c.from_residual-in_err-serialize_element-in-After.result c.from_residual-in_err-serialize_element-in-After.ensures.1 in
    rw (
      p.1,
      p.2,
      task_is_at c.args.self.now (Task-F.After c.in-After.first c.in-After.second)
          (ap out-Task (c.in-After.is ∙ sym (rolls-After c.in-After.first c.in-After.second))
          ∙ out-roll-Task (Task-F.After c.in-After.first c.in-After.second)),
    ) (part_takes g.W.Sink _ (λ h. grind rules) (rests_at g.W.Sink (search rules)
    (c.in_err-serialize_element-in-After.ensures.writes c.args.se.now _ _ (c.in_ok-parts-in-After.ensures.opened _ refl))))

pub returns-in_err-serialize_element-in-After-2-clause-writes : goal.returns-in_err-serialize_element-in-After-2-clause-writes
returns-in_err-serialize_element-in-After-2-clause-writes g t c =
    let p = err_from_is_err_and c.from_residual-in_err-serialize_element-in-After-2.result c.from_residual-in_err-serialize_element-in-After-2.ensures.1 in
    rw (
      p.1,
      p.2,
      task_is_at c.args.self.now (Task-F.After c.in-After.first c.in-After.second)
          (ap out-Task (c.in-After.is ∙ sym (rolls-After c.in-After.first c.in-After.second))
          ∙ out-roll-Task (Task-F.After c.in-After.first c.in-After.second)),
    ) (part_takes g.W.Sink _ (λ h. grind rules) (rests_at g.W.Sink (search rules)
    (c.in_err-serialize_element-in-After-2.ensures.writes c.args.se.now _ _
    (c.in_ok-serialize_element-in-After.ensures.writes c.args.se.now _ _ (c.in_ok-parts-in-After.ensures.opened _ refl)))))

pub returns-in_ok-serialize_element-in-After-2-clause-writes : goal.returns-in_ok-serialize_element-in-After-2-clause-writes
returns-in_ok-serialize_element-in-After-2-clause-writes g t c =
    rw (task_is_at c.args.self.now (Task-F.After c.in-After.first c.in-After.second)
    (ap out-Task (c.in-After.is ∙ sym (rolls-After c.in-After.first c.in-After.second))
    ∙ out-roll-Task (Task-F.After c.in-After.first c.in-After.second)))
    (part_takes g.W.Sink _ (λ h. grind rules) (rests_at g.W.Sink (search rules) (c.end-in-After.ensures.writes c.args.se.now _
    (c.in_ok-serialize_element-in-After-2.ensures.writes c.args.se.now _ _
    (c.in_ok-serialize_element-in-After.ensures.writes c.args.se.now _ _ (c.in_ok-parts-in-After.ensures.opened _ refl))))))

pub returns-in_ok-serialize_element-in-After-2-clause-value : goal.returns-in_ok-serialize_element-in-After-2-clause-value
returns-in_ok-serialize_element-in-After-2-clause-value g t c =
    ok_holds c.end-in-After.result _ (task_fits_in c.args.self.now (Task-F.After c.in-After.first c.in-After.second)
    (ap out-Task (c.in-After.is ∙ sym (rolls-After c.in-After.first c.in-After.second))
    ∙ out-roll-Task (Task-F.After c.in-After.first c.in-After.second))
    (c.in_ok-serialize_element-in-After.ensures.value, c.in_ok-serialize_element-in-After-2.ensures.value))

pub returns-in_err-fields-in-Wait-clause-writes : goal.returns-in_err-fields-in-Wait-clause-writes
returns-in_err-fields-in-Wait-clause-writes g t c =
    let p = err_from_is_err_and c.from_residual-in_err-fields-in-Wait.result c.from_residual-in_err-fields-in-Wait.ensures.1 in
    rw (
      p.1,
      p.2,
      task_is_at c.args.self.now (Task-F.Wait c.in-Wait.at_least c.in-Wait.then_call)
          (ap out-Task (c.in-Wait.is ∙ sym (rolls-Wait c.in-Wait.at_least c.in-Wait.then_call))
          ∙ out-roll-Task (Task-F.Wait c.in-Wait.at_least c.in-Wait.then_call)),
    )
    (part_takes g.W.Sink _ (λ h. grind rules) (unopened g.W.Sink _ _ _ _ c.args.se.now _ _ _ _ c.in_err-fields-in-Wait.was
    c.serialize_struct_variant.follows.holds-at-none refl))

pub returns-in_err-serialize_field-in-Wait-clause-writes : goal.returns-in_err-serialize_field-in-Wait-clause-writes
returns-in_err-serialize_field-in-Wait-clause-writes g t c =
    let p = err_from_is_err_and c.from_residual-in_err-serialize_field-in-Wait.result c.from_residual-in_err-serialize_field-in-Wait.ensures.1 in
    rw (
      p.1,
      p.2,
      task_is_at c.args.self.now (Task-F.Wait c.in-Wait.at_least c.in-Wait.then_call)
          (ap out-Task (c.in-Wait.is ∙ sym (rolls-Wait c.in-Wait.at_least c.in-Wait.then_call))
          ∙ out-roll-Task (Task-F.Wait c.in-Wait.at_least c.in-Wait.then_call)),
    ) (part_takes g.W.Sink _ (λ h. grind rules) (rests_at g.W.Sink (search rules)
    (c.in_err-serialize_field-in-Wait.ensures.writes c.args.se.now _ _ (c.in_ok-fields-in-Wait.ensures.opened _ refl))))

pub returns-in_err-serialize_field-in-Wait-2-clause-writes : goal.returns-in_err-serialize_field-in-Wait-2-clause-writes
returns-in_err-serialize_field-in-Wait-2-clause-writes g t c =
    let p = err_from_is_err_and c.from_residual-in_err-serialize_field-in-Wait-2.result c.from_residual-in_err-serialize_field-in-Wait-2.ensures.1 in
    rw (
      p.1,
      p.2,
      task_is_at c.args.self.now (Task-F.Wait c.in-Wait.at_least c.in-Wait.then_call)
          (ap out-Task (c.in-Wait.is ∙ sym (rolls-Wait c.in-Wait.at_least c.in-Wait.then_call))
          ∙ out-roll-Task (Task-F.Wait c.in-Wait.at_least c.in-Wait.then_call)),
    ) (part_takes g.W.Sink _ (λ h. grind rules) (rests_at g.W.Sink (search rules)
    (c.in_err-serialize_field-in-Wait-2.ensures.writes c.args.se.now _ _
    (c.in_ok-serialize_field-in-Wait.ensures.writes c.args.se.now _ _ (c.in_ok-fields-in-Wait.ensures.opened _ refl)))))

pub returns-in_ok-serialize_field-in-Wait-2-clause-writes : goal.returns-in_ok-serialize_field-in-Wait-2-clause-writes
returns-in_ok-serialize_field-in-Wait-2-clause-writes g t c =
    rw (task_is_at c.args.self.now (Task-F.Wait c.in-Wait.at_least c.in-Wait.then_call)
    (ap out-Task (c.in-Wait.is ∙ sym (rolls-Wait c.in-Wait.at_least c.in-Wait.then_call))
    ∙ out-roll-Task (Task-F.Wait c.in-Wait.at_least c.in-Wait.then_call)))
    (part_takes g.W.Sink _ (λ h. grind rules) (rests_at g.W.Sink (search rules) (c.end-in-Wait.ensures.writes c.args.se.now _
    (c.in_ok-serialize_field-in-Wait-2.ensures.writes c.args.se.now _ _
    (c.in_ok-serialize_field-in-Wait.ensures.writes c.args.se.now _ _ (c.in_ok-fields-in-Wait.ensures.opened _ refl))))))

pub returns-in_ok-serialize_field-in-Wait-2-clause-value : goal.returns-in_ok-serialize_field-in-Wait-2-clause-value
returns-in_ok-serialize_field-in-Wait-2-clause-value g t c =
    ok_holds c.end-in-Wait.result _ (task_fits_in c.args.self.now (Task-F.Wait c.in-Wait.at_least c.in-Wait.then_call)
    (ap out-Task (c.in-Wait.is ∙ sym (rolls-Wait c.in-Wait.at_least c.in-Wait.then_call))
    ∙ out-roll-Task (Task-F.Wait c.in-Wait.at_least c.in-Wait.then_call))
    (c.in_ok-serialize_field-in-Wait.ensures.value, c.in_ok-serialize_field-in-Wait-2.ensures.value))

pub returns-in_err-fields-in-Run-clause-writes : goal.returns-in_err-fields-in-Run-clause-writes
returns-in_err-fields-in-Run-clause-writes g t c =
    let p = err_from_is_err_and c.from_residual-in_err-fields-in-Run.result c.from_residual-in_err-fields-in-Run.ensures.1 in
    rw (
      p.1,
      p.2,
      task_is_at c.args.self.now (Task-F.Run c.in-Run.order c.in-Run.span c.in-Run.least c.in-Run.steps c.in-Run.otherwise)
          (ap out-Task (c.in-Run.is ∙ sym (rolls-Run c.in-Run.order c.in-Run.span c.in-Run.least c.in-Run.steps c.in-Run.otherwise))
          ∙ out-roll-Task (Task-F.Run c.in-Run.order c.in-Run.span c.in-Run.least c.in-Run.steps c.in-Run.otherwise))
          ∙ task_at_Run c.in-Run.order c.in-Run.span c.in-Run.least c.in-Run.steps c.in-Run.otherwise,
    )
    (part_takes g.W.Sink _ (λ h. grind rules) (unopened g.W.Sink _ _ _ _ c.args.se.now _ _ _ _ c.in_err-fields-in-Run.was
    c.serialize_struct_variant-in-Run.follows.holds-at-none refl))

pub returns-in_err-serialize_field-in-Run-clause-writes : goal.returns-in_err-serialize_field-in-Run-clause-writes
returns-in_err-serialize_field-in-Run-clause-writes g t c =
    let p = err_from_is_err_and c.from_residual-in_err-serialize_field-in-Run.result c.from_residual-in_err-serialize_field-in-Run.ensures.1 in
    rw (
      p.1,
      p.2,
      task_is_at c.args.self.now (Task-F.Run c.in-Run.order c.in-Run.span c.in-Run.least c.in-Run.steps c.in-Run.otherwise)
          (ap out-Task (c.in-Run.is ∙ sym (rolls-Run c.in-Run.order c.in-Run.span c.in-Run.least c.in-Run.steps c.in-Run.otherwise))
          ∙ out-roll-Task (Task-F.Run c.in-Run.order c.in-Run.span c.in-Run.least c.in-Run.steps c.in-Run.otherwise))
          ∙ task_at_Run c.in-Run.order c.in-Run.span c.in-Run.least c.in-Run.steps c.in-Run.otherwise,
    )
    (part_takes g.W.Sink _ (λ h. grind rules) (rests_at g.W.Sink (search rules)
    (c.in_err-serialize_field-in-Run.ensures.writes c.args.se.now _ _ (c.in_ok-fields-in-Run.ensures.opened _ refl))))

pub returns-in_err-serialize_field-in-Run-2-clause-writes : goal.returns-in_err-serialize_field-in-Run-2-clause-writes
returns-in_err-serialize_field-in-Run-2-clause-writes g t c =
    let p = err_from_is_err_and c.from_residual-in_err-serialize_field-in-Run-2.result c.from_residual-in_err-serialize_field-in-Run-2.ensures.1 in
    rw (
      p.1,
      p.2,
      task_is_at c.args.self.now (Task-F.Run c.in-Run.order c.in-Run.span c.in-Run.least c.in-Run.steps c.in-Run.otherwise)
          (ap out-Task (c.in-Run.is ∙ sym (rolls-Run c.in-Run.order c.in-Run.span c.in-Run.least c.in-Run.steps c.in-Run.otherwise))
          ∙ out-roll-Task (Task-F.Run c.in-Run.order c.in-Run.span c.in-Run.least c.in-Run.steps c.in-Run.otherwise))
          ∙ task_at_Run c.in-Run.order c.in-Run.span c.in-Run.least c.in-Run.steps c.in-Run.otherwise,
    )
    (part_takes g.W.Sink _ (λ h. grind rules) (rests_at g.W.Sink (search rules)
    (c.in_err-serialize_field-in-Run-2.ensures.writes c.args.se.now _ _
    (c.in_ok-serialize_field-in-Run.ensures.writes c.args.se.now _ _ (c.in_ok-fields-in-Run.ensures.opened _ refl)))))

pub returns-in_err-serialize_field-in-Run-3-clause-writes : goal.returns-in_err-serialize_field-in-Run-3-clause-writes
returns-in_err-serialize_field-in-Run-3-clause-writes g t c =
    let p = err_from_is_err_and c.from_residual-in_err-serialize_field-in-Run-3.result c.from_residual-in_err-serialize_field-in-Run-3.ensures.1 in
    rw (
      p.1,
      p.2,
      task_is_at c.args.self.now (Task-F.Run c.in-Run.order c.in-Run.span c.in-Run.least c.in-Run.steps c.in-Run.otherwise)
          (ap out-Task (c.in-Run.is ∙ sym (rolls-Run c.in-Run.order c.in-Run.span c.in-Run.least c.in-Run.steps c.in-Run.otherwise))
          ∙ out-roll-Task (Task-F.Run c.in-Run.order c.in-Run.span c.in-Run.least c.in-Run.steps c.in-Run.otherwise))
          ∙ task_at_Run c.in-Run.order c.in-Run.span c.in-Run.least c.in-Run.steps c.in-Run.otherwise,
    )
    (part_takes g.W.Sink _ (λ h. grind rules) (rests_at g.W.Sink (search rules)
    (c.in_err-serialize_field-in-Run-3.ensures.writes c.args.se.now _ _
    (c.in_ok-serialize_field-in-Run-2.ensures.writes c.args.se.now _ _
    (c.in_ok-serialize_field-in-Run.ensures.writes c.args.se.now _ _ (c.in_ok-fields-in-Run.ensures.opened _ refl))))))

pub returns-in_err-serialize_field-in-Run-4-clause-writes : goal.returns-in_err-serialize_field-in-Run-4-clause-writes
returns-in_err-serialize_field-in-Run-4-clause-writes g t c =
    let p = err_from_is_err_and c.from_residual-in_err-serialize_field-in-Run-4.result c.from_residual-in_err-serialize_field-in-Run-4.ensures.1 in
    rw (
      p.1,
      p.2,
      task_is_at c.args.self.now (Task-F.Run c.in-Run.order c.in-Run.span c.in-Run.least c.in-Run.steps c.in-Run.otherwise)
          (ap out-Task (c.in-Run.is ∙ sym (rolls-Run c.in-Run.order c.in-Run.span c.in-Run.least c.in-Run.steps c.in-Run.otherwise))
          ∙ out-roll-Task (Task-F.Run c.in-Run.order c.in-Run.span c.in-Run.least c.in-Run.steps c.in-Run.otherwise))
          ∙ task_at_Run c.in-Run.order c.in-Run.span c.in-Run.least c.in-Run.steps c.in-Run.otherwise,
    )
    (part_takes g.W.Sink _ (λ h. grind rules) (rests_at g.W.Sink (search rules)
    (c.in_err-serialize_field-in-Run-4.ensures.writes c.args.se.now _ _
    (c.in_ok-serialize_field-in-Run-3.ensures.writes c.args.se.now _ _
    (c.in_ok-serialize_field-in-Run-2.ensures.writes c.args.se.now _ _
    (c.in_ok-serialize_field-in-Run.ensures.writes c.args.se.now _ _ (c.in_ok-fields-in-Run.ensures.opened _ refl)))))))

pub returns-in_err-serialize_field-in-Run-5-clause-writes : goal.returns-in_err-serialize_field-in-Run-5-clause-writes
returns-in_err-serialize_field-in-Run-5-clause-writes g t c =
    let p = err_from_is_err_and c.from_residual-in_err-serialize_field-in-Run-5.result c.from_residual-in_err-serialize_field-in-Run-5.ensures.1 in
    rw (
      p.1,
      p.2,
      task_is_at c.args.self.now (Task-F.Run c.in-Run.order c.in-Run.span c.in-Run.least c.in-Run.steps c.in-Run.otherwise)
          (ap out-Task (c.in-Run.is ∙ sym (rolls-Run c.in-Run.order c.in-Run.span c.in-Run.least c.in-Run.steps c.in-Run.otherwise))
          ∙ out-roll-Task (Task-F.Run c.in-Run.order c.in-Run.span c.in-Run.least c.in-Run.steps c.in-Run.otherwise))
          ∙ task_at_Run c.in-Run.order c.in-Run.span c.in-Run.least c.in-Run.steps c.in-Run.otherwise,
    )
    (part_takes g.W.Sink _ (λ h. grind rules) (rests_at g.W.Sink (search rules)
    (c.in_err-serialize_field-in-Run-5.ensures.writes c.args.se.now _ _
    (c.in_ok-serialize_field-in-Run-4.ensures.writes c.args.se.now _ _
    (c.in_ok-serialize_field-in-Run-3.ensures.writes c.args.se.now _ _
    (c.in_ok-serialize_field-in-Run-2.ensures.writes c.args.se.now _ _
    (c.in_ok-serialize_field-in-Run.ensures.writes c.args.se.now _ _ (c.in_ok-fields-in-Run.ensures.opened _ refl))))))))

pub returns-in_ok-serialize_field-in-Run-5-clause-writes : goal.returns-in_ok-serialize_field-in-Run-5-clause-writes
returns-in_ok-serialize_field-in-Run-5-clause-writes g t c =
    rw (task_is_at c.args.self.now (Task-F.Run c.in-Run.order c.in-Run.span c.in-Run.least c.in-Run.steps c.in-Run.otherwise)
    (ap out-Task (c.in-Run.is ∙ sym (rolls-Run c.in-Run.order c.in-Run.span c.in-Run.least c.in-Run.steps c.in-Run.otherwise))
    ∙ out-roll-Task (Task-F.Run c.in-Run.order c.in-Run.span c.in-Run.least c.in-Run.steps c.in-Run.otherwise))
    ∙ task_at_Run c.in-Run.order c.in-Run.span c.in-Run.least c.in-Run.steps c.in-Run.otherwise)
    (part_takes g.W.Sink _ (λ h. grind rules) (rests_at g.W.Sink (search rules) (c.end-in-Run.ensures.writes c.args.se.now _
    (c.in_ok-serialize_field-in-Run-5.ensures.writes c.args.se.now _ _
    (c.in_ok-serialize_field-in-Run-4.ensures.writes c.args.se.now _ _
    (c.in_ok-serialize_field-in-Run-3.ensures.writes c.args.se.now _ _
    (c.in_ok-serialize_field-in-Run-2.ensures.writes c.args.se.now _ _
    (c.in_ok-serialize_field-in-Run.ensures.writes c.args.se.now _ _ (c.in_ok-fields-in-Run.ensures.opened _ refl)))))))))

pub returns-in_ok-serialize_field-in-Run-5-clause-value : goal.returns-in_ok-serialize_field-in-Run-5-clause-value
returns-in_ok-serialize_field-in-Run-5-clause-value g t c =
    ok_holds c.end-in-Run.result _ (task_fits_in c.args.self.now (Task-F.Run c.in-Run.order c.in-Run.span c.in-Run.least c.in-Run.steps c.in-Run.otherwise)
    (ap out-Task (c.in-Run.is ∙ sym (rolls-Run c.in-Run.order c.in-Run.span c.in-Run.least c.in-Run.steps c.in-Run.otherwise))
    ∙ out-roll-Task (Task-F.Run c.in-Run.order c.in-Run.span c.in-Run.least c.in-Run.steps c.in-Run.otherwise)) (
      c.in_ok-serialize_field-in-Run.ensures.value,
      c.in_ok-serialize_field-in-Run-2.ensures.value,
      c.in_ok-serialize_field-in-Run-3.ensures.value,
      all_by _
          c.in-Run.steps.items c.in_ok-serialize_field-in-Run-4.ensures.value,
      c.in_ok-serialize_field-in-Run-5.ensures.value,
    ))
