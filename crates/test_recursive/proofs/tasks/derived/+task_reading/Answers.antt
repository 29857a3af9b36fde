use Rattle.std.proofs.Common.{◌≡◌, ◌∙◌, refl, sym, ap, subst, ℕ, Option, None, Some, String, Box, max, rules, arith, false, length}
use Rattle.std.specs.Int.{w16, w32}
use Rattle.std.specs.Prelude.{◌<◌, Vec, ℤ}
use Rattle.std.specs.declared.alloc.Global.{Global}
use Rattle.rmp_wire.specs.Msg.{no_items, item}
use Rattle.rmp_decode.specs.Options.{IsOption}
use Rattle.rmp_decode.specs.Read.{IsUnsigned}
use Rattle.rmp_decode.specs.Rows.{AndThen, NoMore}
use Rattle.rmp_decode.specs.Seq.{OfRow, IsOpen}
use Rattle.rmp_decode.specs.Variants.{OfVariant, Bare, Content}
use Rattle.rmp_recursive.specs.Parts.{Row, Boxed}
use Rattle.test_recursive.specs.declared.tasks.Task.{Task, out-Task}
use Rattle.test_recursive.specs.declared.tasks.Task.TheViews.{out-roll-Task}
use Rattle.test_recursive.specs.TaskLevels.{
  TaskCase,
  IsTask,
  TaskWaitRead,
  TaskRunFields,
  TaskRunRead,
  task_run_names,
  TaskRowMove,
  TaskRowAfter,
  task_names,
  task_made,
  task_variant,
}
use Rattle.test_recursive.specs.declared.tasks.Order.{Order}
use Rattle.test_recursive.specs.declared.tasks.Span.{Span}
use Rattle.std.proofs.lemmas.Result.{err_from_is_err_and}
use Rattle.std.proofs.lemmas.Int.{to_z-of_z}
use Rattle.rmp_decode.proofs.Laws.{lawful_err}
use Rattle.rmp_decode.proofs.Seqs.{
  values_start,
  values_step,
  via,
  run_start,
  run_step,
  seq_unopened,
  seq_take,
  seq_over,
  seq_done,
  and_then_count,
  no_more_count,
}
use Rattle.rmp_decode.proofs.Variants.{variant_err, variant_unopened, readable, given_read, given_refused}
use Rattle.test_recursive.specs.declared.tasks.Task.TheVariants.{rolls-Idle, rolls-Move, rolls-After, rolls-Wait, rolls-Run}
use Rattle.rmp_decode.specs.FieldAccess.{IsStructOpen, TakesPlace}
use Rattle.rmp_decode.specs.Names.{bytes_of}
use Rattle.rmp_decode.proofs.FieldWiths.{field_taken, field_refused}
use Rattle.rmp_decode.proofs.StructRuns.{struct_start, struct_step, struct_place, struct_value, struct_met, struct_missing, struct_over, struct_done}
use Rattle.rmp_decode.proofs.Structs.{fields_unopened}
use Rattle.rmp_recursive.proofs.Fields.{same_then, field_steps, run_reference, not_missing}
use Rattle.test_recursive.proofs.TaskLevels.{
  TaskRunHeld0,
  task_run_whole,
  TaskRunSlot0,
  task_run_tree0,
  task_run_step0,
  task_run_gap0,
  task_run_lacks0,
  TaskRunSlot1,
  task_run_tree1,
  task_run_step1,
  task_run_gap1,
  task_run_lacks1,
  TaskRunSlot2,
  task_run_tree2,
  task_run_step2,
  task_run_gap2,
  TaskRunSlot3,
  task_run_tree3,
  task_run_step3,
  task_run_gap3,
  task_run_lacks3,
  TaskRunSlot4,
  task_run_tree4,
  task_run_step4,
  task_run_gap4,
}
use Rattle.rmp_recursive.proofs.Parts.{
  at_most,
  variant_done,
  vec_row,
  vec_done,
  row_unopened,
  row_refused,
  row_unkept,
  part_room,
  content_room_falls,
  row_short,
  lawful_at,
  lent_law,
  item_taken,
  item_refused,
  option_law,
  some_if,
  some_if_err,
  none_left,
  never_none,
}
use Rattle.test_recursive.proofs.tasks.derived.+task_reading.Goals as goal

pub read_task-returns-in-Ok-unit_variant : goal.read_task-returns-in-Ok-unit_variant
read_task-returns-in-Ok-unit_variant g t c =
    let k = c.in-Ok-eq0-default in
    (record {
      law = variant_done g.R.Source task_names (TaskCase IsTask) IsTask _ _ _ (λ (u : Unit {0}) c. Bare c) 0 _ _ (task_made _)
          (λ k h. (ap out-Task (sym rolls-Idle) ∙ out-roll-Task _, h))
          (c.in-Ok-unit_variant.ensures.ok _ 0 _ (rw k.field-0-0-test at k.ensures.opened)) (grind (arith, sym k.ensures.same_reference));
    })

pub read_task-returns-in-Err-unit_variant : goal.read_task-returns-in-Err-unit_variant
read_task-returns-in-Err-unit_variant g t c =
    let k = c.in-Ok-eq0-default in
    record {
      law = lawful_err _ (λ m v. OfVariant task_names (TaskCase IsTask v) m) _ _ _ _ task_variant
          (variant_err _ _ (TaskCase IsTask) _ _ _ (grind (arith, sym k.ensures.same_reference)) _ 0 _ (λ v k h. h.1)
          (c.in-Err-unit_variant.ensures.err _ 0 _ (rw k.field-0-0-test at k.ensures.opened)));
    }

pub read_task-returns-in-Ok-newtype_variant_with : goal.read_task-returns-in-Ok-newtype_variant_with
read_task-returns-in-Ok-newtype_variant_with g t c =
    let k = c.in-Ok-eq1-default in
    rw (to_z-of_z w32 c.in-Ok-newtype_variant_with.first (search rules)) rw (to_z-of_z w32 c.in-Ok-newtype_variant_with.second (search rules)) (record {
      law = variant_done g.R.Source task_names (TaskCase IsTask) IsTask _ _ _ (λ (a : ℤ × ℤ) c. Content (λ k. TaskRowMove k a) c) 1 _ _ (task_made _)
          (λ k h. (_, ap out-Task (sym (rolls-Move _ _)) ∙ out-roll-Task _, h))
          (given_read g.R.Source _ _ (λ k (a : ℤ × ℤ). TaskRowMove k a) task_names 1 _ _ (rw k.field-0-0-test at k.ensures.opened) _ _
          (λ rest gave s. lent_law g.R.Source _ _ (λ k (a : ℤ × ℤ). TaskRowMove k a) (λ p q r h. h) _ rest gave s) _
          c.in-Ok-newtype_variant_with.ensures.bare c.in-Ok-newtype_variant_with.ensures.part refl) (grind (arith, sym k.ensures.same_reference));
    })

pub read_task-returns-in-Err-newtype_variant_with : goal.read_task-returns-in-Err-newtype_variant_with
read_task-returns-in-Err-newtype_variant_with g t c =
    let k = c.in-Ok-eq1-default in
    record {
      law = lawful_err _ (λ m v. OfVariant task_names (TaskCase IsTask v) m) _ _ _ _ task_variant
          (variant_err _ _ (TaskCase IsTask) _ _ _ (grind (arith, sym k.ensures.same_reference)) _ 1 _ (λ v k h. readable _ k h.0 h.2)
          (given_refused g.R.Source _ _ (λ k (a : ℤ × ℤ). TaskRowMove k a) task_names 1 _ _ (rw k.field-0-0-test at k.ensures.opened) _ _
          (λ rest gave s. lent_law g.R.Source _ _ (λ k (a : ℤ × ℤ). TaskRowMove k a) (λ p q r h. h) _ rest gave s) _
          c.in-Err-newtype_variant_with.ensures.bare c.in-Err-newtype_variant_with.ensures.part refl));
    }

pub read_task-newtype_variant_with-requires-in-Ok-eq2-default : goal.read_task-newtype_variant_with-requires-in-Ok-eq2-default
read_task-newtype_variant_with-requires-in-Ok-eq2-default g t c = λ b p q.
    let h = content_room_falls g.R.Source _ _ c.args.de.now _ c.in-Ok-eq2-default.ensures.opened b in
    let e = ap (λ (z : _). max 1 z.room) q in
    (omega (arith, h, e, c.decreases), ((λ a m. m), ((λ a m. m), (λ a m. m))))

pub read_task-returns-in-Ok-newtype_variant_with-2 : goal.read_task-returns-in-Ok-newtype_variant_with-2
read_task-returns-in-Ok-newtype_variant_with-2 g t c =
    let k = c.in-Ok-eq2-default in
    (record {
      law = variant_done g.R.Source task_names (TaskCase IsTask) IsTask _ _ _
          (λ (a : Option (ℕ × ℕ) × Box Task Global) c. Content (λ k. TaskRowAfter IsTask k a) c) 2 _ _ (task_made _)
          (λ k h. (_, ap out-Task (sym (rolls-After _ _)) ∙ out-roll-Task _, h))
          (given_read g.R.Source _ _ (λ k (a : Option (ℕ × ℕ) × Box Task Global). TaskRowAfter IsTask k a) task_names 2 _ _
          (rw k.field-0-0-test at k.ensures.opened) _ _
          (λ rest gave s. lent_law g.R.Source _ _ (λ k (a : Option (ℕ × ℕ) × Box Task Global). TaskRowAfter IsTask k a) (λ p q r h. h) _ rest gave s) _
          c.in-Ok-newtype_variant_with-2.ensures.bare c.in-Ok-newtype_variant_with-2.ensures.part refl) (grind (arith, sym k.ensures.same_reference));
    })

pub read_task-returns-in-Err-newtype_variant_with-2 : goal.read_task-returns-in-Err-newtype_variant_with-2
read_task-returns-in-Err-newtype_variant_with-2 g t c =
    let k = c.in-Ok-eq2-default in
    record {
      law = lawful_err _ (λ m v. OfVariant task_names (TaskCase IsTask v) m) _ _ _ _ task_variant
          (variant_err _ _ (TaskCase IsTask) _ _ _ (grind (arith, sym k.ensures.same_reference)) _ 2 _ (λ v k h. readable _ k h.0 h.2)
          (given_refused g.R.Source _ _ (λ k (a : Option (ℕ × ℕ) × Box Task Global). TaskRowAfter IsTask k a) task_names 2 _ _
          (rw k.field-0-0-test at k.ensures.opened) _ _
          (λ rest gave s. lent_law g.R.Source _ _ (λ k (a : Option (ℕ × ℕ) × Box Task Global). TaskRowAfter IsTask k a) (λ p q r h. h) _ rest gave s) _
          c.in-Err-newtype_variant_with-2.ensures.bare c.in-Err-newtype_variant_with-2.ensures.part refl));
    }

pub read_task-returns-in-Ok-newtype_variant_with-3 : goal.read_task-returns-in-Ok-newtype_variant_with-3
read_task-returns-in-Ok-newtype_variant_with-3 g t c =
    let k = c.in-Ok-eq3-default in
    (record {
      law = variant_done g.R.Source task_names (TaskCase IsTask) IsTask _ _ _ (λ (a : ℕ × Vec (String Global) Global) c. Content (λ k. TaskWaitRead k a) c)
          3 _ _ (task_made _)
          (λ k h. (_, ap out-Task (sym (rolls-Wait _ _)) ∙ out-roll-Task _, h))
          (given_read g.R.Source _ _ (λ k (a : ℕ × Vec (String Global) Global). TaskWaitRead k a) task_names 3 _ _ (rw k.field-0-0-test at k.ensures.opened) _ _
          (λ rest gave s. lent_law g.R.Source _ _ (λ k (a : ℕ × Vec (String Global) Global). TaskWaitRead k a) (λ p q r h. h) _ rest gave s) _
          c.in-Ok-newtype_variant_with-3.ensures.bare c.in-Ok-newtype_variant_with-3.ensures.part refl) (grind (arith, sym k.ensures.same_reference));
    })

pub read_task-returns-in-Err-newtype_variant_with-3 : goal.read_task-returns-in-Err-newtype_variant_with-3
read_task-returns-in-Err-newtype_variant_with-3 g t c =
    let k = c.in-Ok-eq3-default in
    record {
      law = lawful_err _ (λ m v. OfVariant task_names (TaskCase IsTask v) m) _ _ _ _ task_variant
          (variant_err _ _ (TaskCase IsTask) _ _ _ (grind (arith, sym k.ensures.same_reference)) _ 3 _ (λ v k h. readable _ k h.0 h.2)
          (given_refused g.R.Source _ _ (λ k (a : ℕ × Vec (String Global) Global). TaskWaitRead k a) task_names 3 _ _
          (rw k.field-0-0-test at k.ensures.opened) _ _
          (λ rest gave s. lent_law g.R.Source _ _ (λ k (a : ℕ × Vec (String Global) Global). TaskWaitRead k a) (λ p q r h. h) _ rest gave s) _
          c.in-Err-newtype_variant_with-3.ensures.bare c.in-Err-newtype_variant_with-3.ensures.part refl));
    }

pub read_task-newtype_variant_with-requires-in-Ok : goal.read_task-newtype_variant_with-requires-in-Ok
read_task-newtype_variant_with-requires-in-Ok g t c = λ b p q.
    let h = content_room_falls g.R.Source _ _ c.args.de.now _ c.in-Ok.ensures.opened b in
    let e = ap (λ (z : _). max 1 z.room) q in
    (omega (arith, h, e, c.decreases), ((λ a m. m), ((λ a m. m), (λ a m. m))))

pub read_task-returns-in-Ok-newtype_variant_with-4 : goal.read_task-returns-in-Ok-newtype_variant_with-4
read_task-returns-in-Ok-newtype_variant_with-4 g t c =
    let k = c.in-Ok in
    let at : k.field-0-0 ≡ 4 = omega (arith, k.field-0-0-test, k.ensures.below) in
    rw (to_z-of_z w16 c.in-Ok-newtype_variant_with-4.least (search rules)) (record {
      law = variant_done g.R.Source task_names (TaskCase IsTask) IsTask _ _ _
          (λ (a : Order × Span × ℤ × Vec Task Global × Option (Box Task Global)) c. Content (λ k. TaskRunRead IsTask k a) c) 4 _ _ (task_made _)
          (λ k h. (_, ap out-Task (sym (rolls-Run _ _ _ _ _)) ∙ out-roll-Task _, h))
          (given_read g.R.Source _ _ (λ k (a : Order × Span × ℤ × Vec Task Global × Option (Box Task Global)). TaskRunRead IsTask k a) task_names 4 _ _
          (rw at at k.ensures.opened) _ _
          (λ rest gave s. lent_law g.R.Source _ _ (λ k (a : Order × Span × ℤ × Vec Task Global × Option (Box Task Global)). TaskRunRead IsTask k a)
          (λ p q r h. h) _ rest gave s) _ c.in-Ok-newtype_variant_with-4.ensures.bare c.in-Ok-newtype_variant_with-4.ensures.part refl)
          (grind (arith, sym k.ensures.same_reference));
    })

pub read_task-returns-in-Err-newtype_variant_with-4 : goal.read_task-returns-in-Err-newtype_variant_with-4
read_task-returns-in-Err-newtype_variant_with-4 g t c =
    let k = c.in-Ok in
    let at : k.field-0-0 ≡ 4 = omega (arith, k.field-0-0-test, k.ensures.below) in
    record {
      law = lawful_err _ (λ m v. OfVariant task_names (TaskCase IsTask v) m) _ _ _ _ task_variant
          (variant_err _ _ (TaskCase IsTask) _ _ _ (grind (arith, sym k.ensures.same_reference)) _ 4 _ (λ v k h. readable _ k h.0 h.2)
          (given_refused g.R.Source _ _ (λ k (a : Order × Span × ℤ × Vec Task Global × Option (Box Task Global)). TaskRunRead IsTask k a) task_names 4 _ _
          (rw at at k.ensures.opened) _ _
          (λ rest gave s. lent_law g.R.Source _ _ (λ k (a : Order × Span × ℤ × Vec Task Global × Option (Box Task Global)). TaskRunRead IsTask k a)
          (λ p q r h. h) _ rest gave s) _ c.in-Err-newtype_variant_with-4.ensures.bare c.in-Err-newtype_variant_with-4.ensures.part refl));
    }

pub read_task-returns-in-Err : goal.read_task-returns-in-Err
read_task-returns-in-Err g t c = record {
  law = lawful_err _ (λ m v. OfVariant task_names (TaskCase IsTask v) m) _ _ _ _ task_variant
      (variant_unopened _ _ (TaskCase IsTask) _ _ _ (search rules) _ (rw c.in-Err.is at c.deserialize_enum_by.follows.holds-at-none));
}

pub read_task_after_values-returns-in-Err : goal.read_task_after_values-returns-in-Err
read_task_after_values-returns-in-Err g t c = record {
  law = seq_unopened g.R.Source (λ (v : Option (ℕ × ℕ) × Box Task Global) ms. AndThen
      (λ j. IsOption (λ j q. OfRow (AndThen (λ k. IsUnsigned 4294967295 k q.0) (AndThen (λ k. IsUnsigned 4294967295 k q.1) NoMore)) j) j v.0)
      (AndThen (λ j. IsTask j v.1.value) NoMore) ms) _ _ _ (rw c.in-Err.is at c.deserialize_seq.follows.holds-at-none);
}

pub read_task_after_values-returns-in-Err-next_element_with : goal.read_task_after_values-returns-in-Err-next_element_with
read_task_after_values-returns-in-Err-next_element_with g t c = (record {
  law = lawful_at g.R.Source _ _ _ c.next_element_with.new.self.de.now _
      (let same = c.in-Err-next_element_with.ensures.same_reference ∙ c.in-Ok.ensures.same_reference in search rules) (
      let o = c.in-Ok.ensures.opened in
      let r0 = run_start g.R.Source c.in-Ok.seq o.opened in
      let e = c.in-Err-next_element_with.ensures in
      let some = some_if_err c.in-Ok.seq.left _ (e.none r0.still.sound) in
      let f = item_refused g.R.Source (λ k (a : Option (ℕ × ℕ)). IsOption
      (λ j q. OfRow (AndThen (λ k. IsUnsigned 4294967295 k q.0) (AndThen (λ k. IsUnsigned 4294967295 k q.1) NoMore)) j) k a) c.in-Ok.seq
      c.next_element_with.new.self r0.still e.list (λ p q r h. h) _ some (e.part r0.still.sound some) in
      seq_take g.R.Source (λ (v : Option (ℕ × ℕ) × Box Task Global) ms. AndThen
      (λ j. IsOption (λ j q. OfRow (AndThen (λ k. IsUnsigned 4294967295 k q.0) (AndThen (λ k. IsUnsigned 4294967295 k q.1) NoMore)) j) j v.0)
      (AndThen (λ j. IsTask j v.1.value) NoMore) ms) _ c.in-Ok.seq c.in-Ok.seq no_items o r0 _
      (λ k (a : Option (ℕ × ℕ)). IsOption (λ j q. OfRow (AndThen (λ k. IsUnsigned 4294967295 k q.0) (AndThen (λ k. IsUnsigned 4294967295 k q.1) NoMore))
      j) k a) c.next_element_with.new.self _ f (e.marked r0.still.marked) refl
      (λ m ks v h. (v.0, h.0)));
})

pub read_task_after_values-returns-in-Ok-None : goal.read_task_after_values-returns-in-Ok-None
read_task_after_values-returns-in-Ok-None g t c = (record {
  law = lawful_at g.R.Source _ _ _ c.next_element_with.new.self.de.now _ (let same = c.in-Ok-None.ensures.same_reference ∙ c.in-Ok.ensures.same_reference
      in search rules) (
      let o = c.in-Ok.ensures.opened in
      let r0 = run_start g.R.Source c.in-Ok.seq o.opened in
      let e = c.in-Ok-None.ensures in
      let z = none_left c.in-Ok.seq.left (λ l. never_none g.R.Source c.in-Ok.seq c.next_element_with.new.self
      (rw c.in-Ok-None.field-0-is at (e.part r0.still.sound l))) in
      row_short g.R.Source (λ (v : Option (ℕ × ℕ) × Box Task Global) ms. AndThen
      (λ j. IsOption (λ j q. OfRow (AndThen (λ k. IsUnsigned 4294967295 k q.0) (AndThen (λ k. IsUnsigned 4294967295 k q.1) NoMore)) j) j v.0)
      (AndThen (λ j. IsTask j v.1.value) NoMore) ms) _ c.in-Ok.seq c.in-Ok.seq no_items o r0 _
      (λ k (a : Option (ℕ × ℕ)). IsOption (λ j q. OfRow (AndThen (λ k. IsUnsigned 4294967295 k q.0) (AndThen (λ k. IsUnsigned 4294967295 k q.1) NoMore))
      j) k a) _ z (ap (λ s. s.de.now) (e.none r0.still.sound z).1)
      (λ m ks v h. (v.0, h.0)) (λ v h. h));
})

pub read_task_after_values-next_element_with-requires-2 : goal.read_task_after_values-next_element_with-requires-2
read_task_after_values-next_element_with-requires-2 g t c = λ s some d l p q.
    let o = c.in-Ok.ensures.opened in
    let r0 = run_start g.R.Source c.in-Ok.seq o.opened in
    let e0 = c.in-Ok-Some.ensures in
    let some0 = some_if c.in-Ok.seq.left c.in-Ok-Some.value _ c.in-Ok-Some.field-0-is (e0.none r0.still.sound) in
    let k0 = item_taken g.R.Source (λ k (a : Option (ℕ × ℕ)). IsOption
    (λ j q. OfRow (AndThen (λ k. IsUnsigned 4294967295 k q.0) (AndThen (λ k. IsUnsigned 4294967295 k q.1) NoMore)) j) k a) c.in-Ok.seq
    c.next_element_with.new.self r0.still e0.list (λ p q r h. h) c.in-Ok-Some.value
    (rw c.in-Ok-Some.field-0-is at (e0.part r0.still.sound some0)) e0.still in
    let r1 = run_step g.R.Source _ c.in-Ok.seq c.in-Ok.seq c.next_element_with.new.self no_items c.in-Ok-Some.value r0 k0 e0.same_reference in
    let h = part_room g.R.Source c.args.de.now c.in-Ok.seq c.next_element_with.new.self _ o r1 d l in
    let e = ap (λ (z : _). max 1 z.room) q in
    (omega (arith, h, e, c.decreases), ((λ a m. m), ((λ a m. m), (λ a m. m))))

pub read_task_after_values-returns-in-Err-next_element_with-2 : goal.read_task_after_values-returns-in-Err-next_element_with-2
read_task_after_values-returns-in-Err-next_element_with-2 g t c = (record {
  law = lawful_at g.R.Source _ _ _ c.next_element_with-2.new.self.de.now _
      (let same = c.in-Err-next_element_with-2.ensures.same_reference ∙ c.in-Ok-Some.ensures.same_reference ∙ c.in-Ok.ensures.same_reference
      in search rules) (
      let o = c.in-Ok.ensures.opened in
      let r0 = run_start g.R.Source c.in-Ok.seq o.opened in
      let e0 = c.in-Ok-Some.ensures in
      let some0 = some_if c.in-Ok.seq.left c.in-Ok-Some.value _ c.in-Ok-Some.field-0-is (e0.none r0.still.sound) in
      let k0 = item_taken g.R.Source (λ k (a : Option (ℕ × ℕ)). IsOption
      (λ j q. OfRow (AndThen (λ k. IsUnsigned 4294967295 k q.0) (AndThen (λ k. IsUnsigned 4294967295 k q.1) NoMore)) j) k a) c.in-Ok.seq
      c.next_element_with.new.self r0.still e0.list (λ p q r h. h) c.in-Ok-Some.value
      (rw c.in-Ok-Some.field-0-is at (e0.part r0.still.sound some0)) e0.still in
      let r1 = run_step g.R.Source _ c.in-Ok.seq c.in-Ok.seq c.next_element_with.new.self no_items c.in-Ok-Some.value r0 k0 e0.same_reference in
      let e = c.in-Err-next_element_with-2.ensures in
      let some = some_if_err c.next_element_with.new.self.left _ (e.none r1.still.sound) in
      let f = item_refused g.R.Source (λ k (a : Box Task Global). IsTask k a.value) c.next_element_with.new.self c.next_element_with-2.new.self r1.still
      e.list (λ p q r h. h) _ some (e.part r1.still.sound some) in
      seq_take g.R.Source (λ (v : Option (ℕ × ℕ) × Box Task Global) ms. AndThen
      (λ j. IsOption (λ j q. OfRow (AndThen (λ k. IsUnsigned 4294967295 k q.0) (AndThen (λ k. IsUnsigned 4294967295 k q.1) NoMore)) j) j v.0)
      (AndThen (λ j. IsTask j v.1.value) NoMore) ms) _ c.in-Ok.seq c.next_element_with.new.self (item k0.tree no_items) o r1 _
      (λ k (a : Box Task Global). IsTask k a.value) c.next_element_with-2.new.self _ f (e.marked r1.still.marked) refl
      (λ m ks v h. (v.1, h.1.0)));
})

pub read_task_after_values-returns-in-Ok-None-next_element_with : goal.read_task_after_values-returns-in-Ok-None-next_element_with
read_task_after_values-returns-in-Ok-None-next_element_with g t c = (record {
  law = lawful_at g.R.Source _ _ _ c.next_element_with-2.new.self.de.now _
      (let same = c.in-Ok-None-next_element_with.ensures.same_reference ∙ c.in-Ok-Some.ensures.same_reference ∙ c.in-Ok.ensures.same_reference
      in search rules) (
      let o = c.in-Ok.ensures.opened in
      let r0 = run_start g.R.Source c.in-Ok.seq o.opened in
      let e0 = c.in-Ok-Some.ensures in
      let some0 = some_if c.in-Ok.seq.left c.in-Ok-Some.value _ c.in-Ok-Some.field-0-is (e0.none r0.still.sound) in
      let k0 = item_taken g.R.Source (λ k (a : Option (ℕ × ℕ)). IsOption
      (λ j q. OfRow (AndThen (λ k. IsUnsigned 4294967295 k q.0) (AndThen (λ k. IsUnsigned 4294967295 k q.1) NoMore)) j) k a) c.in-Ok.seq
      c.next_element_with.new.self r0.still e0.list (λ p q r h. h) c.in-Ok-Some.value
      (rw c.in-Ok-Some.field-0-is at (e0.part r0.still.sound some0)) e0.still in
      let r1 = run_step g.R.Source _ c.in-Ok.seq c.in-Ok.seq c.next_element_with.new.self no_items c.in-Ok-Some.value r0 k0 e0.same_reference in
      let e = c.in-Ok-None-next_element_with.ensures in
      let z = none_left c.next_element_with.new.self.left
      (λ l. never_none g.R.Source c.next_element_with.new.self c.next_element_with-2.new.self
      (rw c.in-Ok-None-next_element_with.field-0-is at (e.part r1.still.sound l))) in
      row_short g.R.Source (λ (v : Option (ℕ × ℕ) × Box Task Global) ms. AndThen
      (λ j. IsOption (λ j q. OfRow (AndThen (λ k. IsUnsigned 4294967295 k q.0) (AndThen (λ k. IsUnsigned 4294967295 k q.1) NoMore)) j) j v.0)
      (AndThen (λ j. IsTask j v.1.value) NoMore) ms) _ c.in-Ok.seq c.next_element_with.new.self (item k0.tree no_items) o r1 _
      (λ k (a : Box Task Global). IsTask k a.value) _ z (ap (λ s. s.de.now) (e.none r1.still.sound z).1)
      (λ m ks v h. (v.1, h.1.0)) (λ v h. h.1));
})

pub read_task_after_values-returns-in-Ok-end : goal.read_task_after_values-returns-in-Ok-end
read_task_after_values-returns-in-Ok-end g t c = (record {
  law = lawful_at g.R.Source _ _ _ c.end.new.self.0 _
      (let same = c.in-Ok-Some-next_element_with.ensures.same_reference ∙ c.in-Ok-Some.ensures.same_reference ∙ c.in-Ok.ensures.same_reference
      in search rules) (
      let o = c.in-Ok.ensures.opened in
      let r0 = run_start g.R.Source c.in-Ok.seq o.opened in
      let e0 = c.in-Ok-Some.ensures in
      let some0 = some_if c.in-Ok.seq.left c.in-Ok-Some.value _ c.in-Ok-Some.field-0-is (e0.none r0.still.sound) in
      let k0 = item_taken g.R.Source (λ k (a : Option (ℕ × ℕ)). IsOption
      (λ j q. OfRow (AndThen (λ k. IsUnsigned 4294967295 k q.0) (AndThen (λ k. IsUnsigned 4294967295 k q.1) NoMore)) j) k a) c.in-Ok.seq
      c.next_element_with.new.self r0.still e0.list (λ p q r h. h) c.in-Ok-Some.value
      (rw c.in-Ok-Some.field-0-is at (e0.part r0.still.sound some0)) e0.still in
      let r1 = run_step g.R.Source _ c.in-Ok.seq c.in-Ok.seq c.next_element_with.new.self no_items c.in-Ok-Some.value r0 k0 e0.same_reference in
      let e1 = c.in-Ok-Some-next_element_with.ensures in
      let some1 = some_if c.next_element_with.new.self.left c.in-Ok-Some-next_element_with.value _ c.in-Ok-Some-next_element_with.field-0-is
      (e1.none r1.still.sound) in
      let k1 = item_taken g.R.Source (λ k (a : Box Task Global). IsTask k a.value) c.next_element_with.new.self c.next_element_with-2.new.self r1.still
      e1.list (λ p q r h. h) c.in-Ok-Some-next_element_with.value
      (rw c.in-Ok-Some-next_element_with.field-0-is at (e1.part r1.still.sound some1)) e1.still in
      let r2 = run_step g.R.Source _ c.in-Ok.seq c.next_element_with.new.self c.next_element_with-2.new.self (item k0.tree no_items)
      c.in-Ok-Some-next_element_with.value r1 k1 e1.same_reference in
      let e = c.in-Ok-end.ensures.ok r2.still in
      seq_done g.R.Source (λ (v : Option (ℕ × ℕ) × Box Task Global) ms. AndThen
      (λ j. IsOption (λ j q. OfRow (AndThen (λ k. IsUnsigned 4294967295 k q.0) (AndThen (λ k. IsUnsigned 4294967295 k q.1) NoMore)) j) j v.0)
      (AndThen (λ j. IsTask j v.1.value) NoMore) ms) _ c.in-Ok.seq c.next_element_with-2.new.self (item k0.tree (item k1.tree no_items)) o r2 _ _
      (k0.value, (k1.value, tt)) e.0 e.1);
})

pub read_task_after_values-returns-in-Err-end : goal.read_task_after_values-returns-in-Err-end
read_task_after_values-returns-in-Err-end g t c = (record {
  law = lawful_at g.R.Source _ _ _ c.end.new.self.0 _
      (let same = c.in-Ok-Some-next_element_with.ensures.same_reference ∙ c.in-Ok-Some.ensures.same_reference ∙ c.in-Ok.ensures.same_reference
      in search rules) (
      let o = c.in-Ok.ensures.opened in
      let r0 = run_start g.R.Source c.in-Ok.seq o.opened in
      let e0 = c.in-Ok-Some.ensures in
      let some0 = some_if c.in-Ok.seq.left c.in-Ok-Some.value _ c.in-Ok-Some.field-0-is (e0.none r0.still.sound) in
      let k0 = item_taken g.R.Source (λ k (a : Option (ℕ × ℕ)). IsOption
      (λ j q. OfRow (AndThen (λ k. IsUnsigned 4294967295 k q.0) (AndThen (λ k. IsUnsigned 4294967295 k q.1) NoMore)) j) k a) c.in-Ok.seq
      c.next_element_with.new.self r0.still e0.list (λ p q r h. h) c.in-Ok-Some.value
      (rw c.in-Ok-Some.field-0-is at (e0.part r0.still.sound some0)) e0.still in
      let r1 = run_step g.R.Source _ c.in-Ok.seq c.in-Ok.seq c.next_element_with.new.self no_items c.in-Ok-Some.value r0 k0 e0.same_reference in
      let e1 = c.in-Ok-Some-next_element_with.ensures in
      let some1 = some_if c.next_element_with.new.self.left c.in-Ok-Some-next_element_with.value _ c.in-Ok-Some-next_element_with.field-0-is
      (e1.none r1.still.sound) in
      let k1 = item_taken g.R.Source (λ k (a : Box Task Global). IsTask k a.value) c.next_element_with.new.self c.next_element_with-2.new.self r1.still
      e1.list (λ p q r h. h) c.in-Ok-Some-next_element_with.value
      (rw c.in-Ok-Some-next_element_with.field-0-is at (e1.part r1.still.sound some1)) e1.still in
      let r2 = run_step g.R.Source _ c.in-Ok.seq c.next_element_with.new.self c.next_element_with-2.new.self (item k0.tree no_items)
      c.in-Ok-Some-next_element_with.value r1 k1 e1.same_reference in
      let e = c.in-Err-end.ensures.err r2.still in
      seq_over g.R.Source (λ (v : Option (ℕ × ℕ) × Box Task Global) ms. AndThen
      (λ j. IsOption (λ j q. OfRow (AndThen (λ k. IsUnsigned 4294967295 k q.0) (AndThen (λ k. IsUnsigned 4294967295 k q.1) NoMore)) j) j v.0)
      (AndThen (λ j. IsTask j v.1.value) NoMore) ms) _ c.in-Ok.seq c.next_element_with-2.new.self (item k0.tree (item k1.tree no_items)) o r2 _ _ e.0 e.1
      2 (λ v. and_then_count _ _ _ (and_then_count _ _ _ no_more_count)) (c.in-Ok-Some.value, c.in-Ok-Some-next_element_with.value)
      (k0.value, (k1.value, tt)));
})

pub read_task_box-returns-in-Err : goal.read_task_box-returns-in-Err
read_task_box-returns-in-Err g t c = record {
  law = lawful_err _ _ _ _ _ _ (λ m r. (r.0.value, r.1)) c.in-Err.ensures.law;
}

pub read_task_list-returns-in_err-seq : goal.read_task_list-returns-in_err-seq
read_task_list-returns-in_err-seq g t c =
    let p = err_from_is_err_and c.from_residual.result c.from_residual.ensures.1 in
    rw (p.1, p.2) (record {
      law = lawful_err _ (Row IsTask) _ _ _ _ (vec_row IsTask)
          (row_unopened g.R.Source IsTask _ _ _ (rw c.in_err-seq.was at c.deserialize_seq.follows.holds-at-none));
    })

pub read_task_list-loop-items-init : goal.read_task_list-loop-items-init
read_task_list-loop-items-init g t c =
    rw c.new-items.ensures.items (values_start g.R.Source IsTask c.in_ok-seq.seq c.in_ok-seq.ensures.opened.opened)

pub read_task_list-next_element_with-requires : goal.read_task_list-next_element_with-requires
read_task_list-next_element_with-requires g t c =
    λ s some d l p q.
    let h = part_room g.R.Source c.args.de.now c.in_ok-seq.seq c.loop-items.seq _ c.in_ok-seq.ensures.opened c.loop-items.invariant.run d l in
    let e = ap (λ (z : _). max 1 z.room) q in
    (omega (arith, h, e, c.decreases), ((λ a m. m), ((λ a m. m), (λ a m. m))))

pub read_task_list-returns-in_err-item : goal.read_task_list-returns-in_err-item
read_task_list-returns-in_err-item g t c =
    let p = err_from_is_err_and c.from_residual-in_err-item.result c.from_residual-in_err-item.ensures.1 in
    let r = c.loop-items.invariant in
    let e = c.in_err-item.ensures in
    let some = some_if_err c.loop-items.seq.left _ (e.none r.run.still.sound) in
    let f = item_refused g.R.Source IsTask c.loop-items.seq c.next_element_with.new.self r.run.still e.list (λ p q r h. h) _ some
    (e.part r.run.still.sound some) in
    rw (p.1, p.2) (record {
      law = lawful_err _ (Row IsTask) _ _ _ _ (vec_row IsTask)
          (row_refused g.R.Source IsTask _ c.in_ok-seq.seq c.loop-items.seq c.loop-items.items.items c.in_ok-seq.ensures.opened r _
          c.next_element_with.new.self _ f (e.marked r.run.still.marked) (search rules));
    })

pub read_task_list-loop-items-preserved : goal.read_task_list-loop-items-preserved
read_task_list-loop-items-preserved g t c =
    let r = c.loop-items.invariant in
    let e = c.in_ok-item.ensures in
    let is = c.in-Some.is in
    let some = some_if c.loop-items.seq.left c.in-Some.item _ is (e.none r.run.still.sound) in
    let k = item_taken g.R.Source IsTask c.loop-items.seq c.next_element_with.new.self r.run.still e.list (λ p q r h. h) c.in-Some.item
    (rw is at (e.part r.run.still.sound some)) e.still in
    rw c.in_ok-push.ensures.items (values_step g.R.Source IsTask c.in_ok-seq.seq c.loop-items.seq c.next_element_with.new.self c.loop-items.items.items
    c.in-Some.item r k e.same_reference)

pub read_task_list-returns : goal.read_task_list-returns
read_task_list-returns g t c =
    let r = c.loop-items.invariant in
    let e = c.in_ok-item.ensures in
    let z = none_left c.loop-items.seq.left (λ l. never_none g.R.Source c.loop-items.seq c.next_element_with.new.self
    (rw c.in_default.is at (e.part r.run.still.sound l))) in
    let n = (e.none r.run.still.sound z).1 in
    let d = (c.in_ok-end.ensures.ok (subst IsOpen (sym n) r.run.still)).1 in
    record {
      law = vec_done g.R.Source IsTask _ c.in_ok-seq.seq c.loop-items.seq c.loop-items.items c.in_ok-seq.ensures.opened r _ z
          (via c.end.new.self.0 (search rules) (d ∙ ap (λ s. record s.de.now { failed = false }) n));
    }

pub read_task_list-returns-in_err-push : goal.read_task_list-returns-in_err-push
read_task_list-returns-in_err-push g t c =
    let p = err_from_is_err_and c.from_residual-in_err-push.result c.from_residual-in_err-push.ensures.1 in
    rw (p.1, p.2) (record {
      law = lawful_at g.R.Source _ _ _ c.next_element_with.new.self.de.now _
          (let same = sym c.in_ok-seq.ensures.same_reference ∙ sym c.loop-items.invariant.run.same_reference ∙ sym c.in_ok-item.ensures.same_reference
          in search rules) (
          let r = c.loop-items.invariant in
          let e = c.in_ok-item.ensures in
          let is = c.in-Some.is in
          let some = some_if c.loop-items.seq.left c.in-Some.item _ is (e.none r.run.still.sound) in
          let k = item_taken g.R.Source IsTask c.loop-items.seq c.next_element_with.new.self r.run.still e.list (λ p q r h. h) c.in-Some.item
          (rw is at (e.part r.run.still.sound some)) e.still in
          let v = values_step g.R.Source IsTask c.in_ok-seq.seq c.loop-items.seq c.next_element_with.new.self c.loop-items.items.items c.in-Some.item r k
          e.same_reference in
          lawful_err _ (Row IsTask) _ _ _ _ (vec_row IsTask)
          (row_unkept g.R.Source IsTask _ c.in_ok-seq.seq c.next_element_with.new.self _ c.in_ok-seq.ensures.opened v _ refl));
    })

pub read_task_list-returns-in_err-end : goal.read_task_list-returns-in_err-end
read_task_list-returns-in_err-end g t c =
    let r = c.loop-items.invariant in
    let e = c.in_ok-item.ensures in
    let z = none_left c.loop-items.seq.left (λ l. never_none g.R.Source c.loop-items.seq c.next_element_with.new.self
    (rw c.in_default.is at (e.part r.run.still.sound l))) in
    let n = (e.none r.run.still.sound z).1 in
    let d = (c.in_err-end.ensures.err (subst IsOpen (sym n) r.run.still)).0 in
    absurd (omega (arith, z, d, ap (λ s. s.left) n))

pub read_task_option-returns : goal.read_task_option-returns
read_task_option-returns g t c = record {
  law = option_law g.R.Source (Boxed IsTask) _ _ _ _ (λ p q r h. h) _ c.deserialize_option_with.ensures;
}

pub read_task_option-deserialize_option_with-requires : goal.read_task_option-deserialize_option_with-requires
read_task_option-deserialize_option_with-requires g t c = λ f d s p q.
    let h = s.stays.room in
    let e = ap (λ (z : _). max 1 z.room) q in
    (omega (arith, h, e, c.decreases), ((λ a m. m), ((λ a m. m), (λ a m. m))))

pub read_task_run_fields-returns-in-Err : goal.read_task_run_fields-returns-in-Err
read_task_run_fields-returns-in-Err g t c = record {
  law = fields_unopened g.R.Source task_run_names (TaskRunFields IsTask) _ _ _ (rw c.in-Err.is at c.deserialize_struct.follows.holds-at-none);
}

pub read_task_run_fields-loop-fields-init : goal.read_task_run_fields-loop-fields-init
read_task_run_fields-loop-fields-init g t c = struct_start g.R.Source task_run_names TaskRunHeld0 _ c.in-Ok.fields
    (None, (None, (None, (None, (None, tt))))) c.in-Ok.ensures.opened (refl, (refl, (refl, (refl, (refl, tt)))))

pub read_task_run_fields-loop-fields-preserved-in-Ok-next_value_with : goal.read_task_run_fields-loop-fields-preserved-in-Ok-next_value_with
read_task_run_fields-loop-fields-preserved-in-Ok-next_value_with g t c =
    let r = c.loop-fields.invariant in
    let k = c.in-Ok-Some-eq0.ensures in
    let x = rw c.in-Ok-Some-eq0.field-0-is at (k.some r.still) in
    let p = subst (TakesPlace g.R.Source c.loop-fields.fields c.next_field_by.new.self) c.in-Ok-Some-eq0.field-0-0-test x in
    let q = c.in-Ok-next_value_with.ensures in
    let took = field_taken g.R.Source _ _ c.next_field_by.new.self c.next_value_with.new.self p.still TaskRunSlot0 q.same
    (λ d rest gave l y. lent_law g.R.Source _ _ TaskRunSlot0 (λ a b n h. h) d rest gave y) c.in-Ok-next_value_with.value (q.part p.still) q.owes q.still in
    (struct_step g.R.Source task_run_names TaskRunHeld0 c.in-Ok.fields c.loop-fields.fields c.next_field_by.new.self c.next_value_with.new.self
    (c.loop-fields.slot0, (c.loop-fields.slot1, (c.loop-fields.slot2, (c.loop-fields.slot3, (c.loop-fields.slot4, tt)))))
    ((Some c.in-Ok-next_value_with.value), (c.loop-fields.slot1, (c.loop-fields.slot2, (c.loop-fields.slot3, (c.loop-fields.slot4, tt))))) 0 TaskRunSlot0
    c.in-Ok-next_value_with.value r p k.same k.same_reference took q.same q.same_reference
    (task_run_step0 (c.loop-fields.slot0, (c.loop-fields.slot1, (c.loop-fields.slot2, (c.loop-fields.slot3, (c.loop-fields.slot4, tt)))))
    c.in-Ok-next_value_with.value))

pub read_task_run_fields-returns-in-Err-next_value_with : goal.read_task_run_fields-returns-in-Err-next_value_with
read_task_run_fields-returns-in-Err-next_value_with g t c =
    let r = c.loop-fields.invariant in
    let k = c.in-Ok-Some-eq0.ensures in
    let x = rw c.in-Ok-Some-eq0.field-0-is at (k.some r.still) in
    let p = subst (TakesPlace g.R.Source c.loop-fields.fields c.next_field_by.new.self) c.in-Ok-Some-eq0.field-0-0-test x in
    let q = c.in-Err-next_value_with.ensures in
    let failed = field_refused g.R.Source _ _ c.next_field_by.new.self c.next_value_with.new.self p.still TaskRunSlot0 q.same
    (λ d rest gave l y. lent_law g.R.Source _ _ TaskRunSlot0 (λ a b n h. h) d rest gave y) _ (q.part p.still) p.owes (q.marked p.still.marked) in
    record {
      law = struct_value g.R.Source task_run_names TaskRunHeld0 (TaskRunFields IsTask) _ c.in-Ok.fields c.in-Ok.ensures.opened _ _ c.loop-fields.fields r
          c.next_field_by.new.self
          c.next_value_with.new.self 0 TaskRunSlot0 _ p k.same k.same_reference failed
          (grind (
            arith,
            sym (q.same_reference ∙ k.same_reference ∙ run_reference g.R.Source task_run_names TaskRunHeld0 _ _ _ r
                ∙ c.in-Ok.ensures.same_reference),
          ))
          (λ fs v m h e. (v.0, task_run_tree0 fs v m h e));
    }

pub read_task_run_fields-loop-fields-preserved-in-Ok-next_value_with-2 : goal.read_task_run_fields-loop-fields-preserved-in-Ok-next_value_with-2
read_task_run_fields-loop-fields-preserved-in-Ok-next_value_with-2 g t c =
    let r = c.loop-fields.invariant in
    let k = c.in-Ok-Some-eq1.ensures in
    let x = rw c.in-Ok-Some-eq1.field-0-is at (k.some r.still) in
    let p = subst (TakesPlace g.R.Source c.loop-fields.fields c.next_field_by.new.self) c.in-Ok-Some-eq1.field-0-0-test x in
    let q = c.in-Ok-next_value_with-2.ensures in
    let took = field_taken g.R.Source _ _ c.next_field_by.new.self c.next_value_with-in-Ok-Some-eq1.new.self p.still TaskRunSlot1 q.same
    (λ d rest gave l y. lent_law g.R.Source _ _ TaskRunSlot1 (λ a b n h. h) d rest gave y) c.in-Ok-next_value_with-2.value (q.part p.still) q.owes q.still in
    (struct_step g.R.Source task_run_names TaskRunHeld0 c.in-Ok.fields c.loop-fields.fields c.next_field_by.new.self
    c.next_value_with-in-Ok-Some-eq1.new.self (
      c.loop-fields.slot0,
      (c.loop-fields.slot1, (c.loop-fields.slot2, (c.loop-fields.slot3, (c.loop-fields.slot4, tt)))),
    )
    (c.loop-fields.slot0, ((Some c.in-Ok-next_value_with-2.value), (c.loop-fields.slot2, (c.loop-fields.slot3, (c.loop-fields.slot4, tt))))) 1 TaskRunSlot1
    c.in-Ok-next_value_with-2.value r p k.same k.same_reference took q.same q.same_reference
    (task_run_step1 (c.loop-fields.slot0, (c.loop-fields.slot1, (c.loop-fields.slot2, (c.loop-fields.slot3, (c.loop-fields.slot4, tt)))))
    c.in-Ok-next_value_with-2.value))

pub read_task_run_fields-returns-in-Err-next_value_with-2 : goal.read_task_run_fields-returns-in-Err-next_value_with-2
read_task_run_fields-returns-in-Err-next_value_with-2 g t c =
    let r = c.loop-fields.invariant in
    let k = c.in-Ok-Some-eq1.ensures in
    let x = rw c.in-Ok-Some-eq1.field-0-is at (k.some r.still) in
    let p = subst (TakesPlace g.R.Source c.loop-fields.fields c.next_field_by.new.self) c.in-Ok-Some-eq1.field-0-0-test x in
    let q = c.in-Err-next_value_with-2.ensures in
    let failed = field_refused g.R.Source _ _ c.next_field_by.new.self c.next_value_with-in-Ok-Some-eq1.new.self p.still TaskRunSlot1 q.same
    (λ d rest gave l y. lent_law g.R.Source _ _ TaskRunSlot1 (λ a b n h. h) d rest gave y) _ (q.part p.still) p.owes (q.marked p.still.marked) in
    record {
      law = struct_value g.R.Source task_run_names TaskRunHeld0 (TaskRunFields IsTask) _ c.in-Ok.fields c.in-Ok.ensures.opened _ _ c.loop-fields.fields r
          c.next_field_by.new.self
          c.next_value_with-in-Ok-Some-eq1.new.self 1 TaskRunSlot1 _ p k.same k.same_reference failed
          (grind (
            arith,
            sym (q.same_reference ∙ k.same_reference ∙ run_reference g.R.Source task_run_names TaskRunHeld0 _ _ _ r
                ∙ c.in-Ok.ensures.same_reference),
          ))
          (λ fs v m h e. (v.1, task_run_tree1 fs v m h e));
    }

pub read_task_run_fields-loop-fields-preserved-in-Ok-next_value_with-3 : goal.read_task_run_fields-loop-fields-preserved-in-Ok-next_value_with-3
read_task_run_fields-loop-fields-preserved-in-Ok-next_value_with-3 g t c =
    let r = c.loop-fields.invariant in
    let k = c.in-Ok-Some-eq2.ensures in
    let x = rw c.in-Ok-Some-eq2.field-0-is at (k.some r.still) in
    let p = subst (TakesPlace g.R.Source c.loop-fields.fields c.next_field_by.new.self) c.in-Ok-Some-eq2.field-0-0-test x in
    let q = c.in-Ok-next_value_with-3.ensures in
    let took = field_taken g.R.Source _ _ c.next_field_by.new.self c.next_value_with-in-Ok-Some-eq2.new.self p.still TaskRunSlot2 q.same
    (λ d rest gave l y. lent_law g.R.Source _ _ TaskRunSlot2 (λ a b n h. h) d rest gave y) c.in-Ok-next_value_with-3.value (q.part p.still) q.owes q.still in
    rw (to_z-of_z w16 c.in-Ok-next_value_with-3.value (search rules))
    (struct_step g.R.Source task_run_names TaskRunHeld0 c.in-Ok.fields c.loop-fields.fields c.next_field_by.new.self
    c.next_value_with-in-Ok-Some-eq2.new.self (
      c.loop-fields.slot0,
      (c.loop-fields.slot1, (c.loop-fields.slot2, (c.loop-fields.slot3, (c.loop-fields.slot4, tt)))),
    )
    (c.loop-fields.slot0, (c.loop-fields.slot1, ((Some c.in-Ok-next_value_with-3.value), (c.loop-fields.slot3, (c.loop-fields.slot4, tt))))) 2 TaskRunSlot2
    c.in-Ok-next_value_with-3.value r p k.same k.same_reference took q.same q.same_reference
    (task_run_step2 (c.loop-fields.slot0, (c.loop-fields.slot1, (c.loop-fields.slot2, (c.loop-fields.slot3, (c.loop-fields.slot4, tt)))))
    c.in-Ok-next_value_with-3.value))

pub read_task_run_fields-returns-in-Err-next_value_with-3 : goal.read_task_run_fields-returns-in-Err-next_value_with-3
read_task_run_fields-returns-in-Err-next_value_with-3 g t c =
    let r = c.loop-fields.invariant in
    let k = c.in-Ok-Some-eq2.ensures in
    let x = rw c.in-Ok-Some-eq2.field-0-is at (k.some r.still) in
    let p = subst (TakesPlace g.R.Source c.loop-fields.fields c.next_field_by.new.self) c.in-Ok-Some-eq2.field-0-0-test x in
    let q = c.in-Err-next_value_with-3.ensures in
    let failed = field_refused g.R.Source _ _ c.next_field_by.new.self c.next_value_with-in-Ok-Some-eq2.new.self p.still TaskRunSlot2 q.same
    (λ d rest gave l y. lent_law g.R.Source _ _ TaskRunSlot2 (λ a b n h. h) d rest gave y) _ (q.part p.still) p.owes (q.marked p.still.marked) in
    record {
      law = struct_value g.R.Source task_run_names TaskRunHeld0 (TaskRunFields IsTask) _ c.in-Ok.fields c.in-Ok.ensures.opened _ _ c.loop-fields.fields r
          c.next_field_by.new.self
          c.next_value_with-in-Ok-Some-eq2.new.self 2 TaskRunSlot2 _ p k.same k.same_reference failed
          (grind (
            arith,
            sym (q.same_reference ∙ k.same_reference ∙ run_reference g.R.Source task_run_names TaskRunHeld0 _ _ _ r
                ∙ c.in-Ok.ensures.same_reference),
          ))
          (λ fs v m h e. (v.2, task_run_tree2 fs v m h e));
    }

pub read_task_run_fields-loop-fields-preserved-in-Ok-next_value_with-4 : goal.read_task_run_fields-loop-fields-preserved-in-Ok-next_value_with-4
read_task_run_fields-loop-fields-preserved-in-Ok-next_value_with-4 g t c =
    let r = c.loop-fields.invariant in
    let k = c.in-Ok-Some-eq3.ensures in
    let x = rw c.in-Ok-Some-eq3.field-0-is at (k.some r.still) in
    let p = subst (TakesPlace g.R.Source c.loop-fields.fields c.next_field_by.new.self) c.in-Ok-Some-eq3.field-0-0-test x in
    let q = c.in-Ok-next_value_with-4.ensures in
    let took = field_taken g.R.Source _ _ c.next_field_by.new.self c.next_value_with-in-Ok-Some-eq3.new.self p.still TaskRunSlot3 q.same
    (λ d rest gave l y. lent_law g.R.Source _ _ TaskRunSlot3 (λ a b n h. h) d rest gave y) c.in-Ok-next_value_with-4.value (q.part p.still) q.owes q.still in
    (struct_step g.R.Source task_run_names TaskRunHeld0 c.in-Ok.fields c.loop-fields.fields c.next_field_by.new.self
    c.next_value_with-in-Ok-Some-eq3.new.self (
      c.loop-fields.slot0,
      (c.loop-fields.slot1, (c.loop-fields.slot2, (c.loop-fields.slot3, (c.loop-fields.slot4, tt)))),
    )
    (c.loop-fields.slot0, (c.loop-fields.slot1, (c.loop-fields.slot2, ((Some c.in-Ok-next_value_with-4.value), (c.loop-fields.slot4, tt))))) 3 TaskRunSlot3
    c.in-Ok-next_value_with-4.value r p k.same k.same_reference took q.same q.same_reference
    (task_run_step3 (c.loop-fields.slot0, (c.loop-fields.slot1, (c.loop-fields.slot2, (c.loop-fields.slot3, (c.loop-fields.slot4, tt)))))
    c.in-Ok-next_value_with-4.value))

pub read_task_run_fields-returns-in-Err-next_value_with-4 : goal.read_task_run_fields-returns-in-Err-next_value_with-4
read_task_run_fields-returns-in-Err-next_value_with-4 g t c =
    let r = c.loop-fields.invariant in
    let k = c.in-Ok-Some-eq3.ensures in
    let x = rw c.in-Ok-Some-eq3.field-0-is at (k.some r.still) in
    let p = subst (TakesPlace g.R.Source c.loop-fields.fields c.next_field_by.new.self) c.in-Ok-Some-eq3.field-0-0-test x in
    let q = c.in-Err-next_value_with-4.ensures in
    let failed = field_refused g.R.Source _ _ c.next_field_by.new.self c.next_value_with-in-Ok-Some-eq3.new.self p.still TaskRunSlot3 q.same
    (λ d rest gave l y. lent_law g.R.Source _ _ TaskRunSlot3 (λ a b n h. h) d rest gave y) _ (q.part p.still) p.owes (q.marked p.still.marked) in
    record {
      law = struct_value g.R.Source task_run_names TaskRunHeld0 (TaskRunFields IsTask) _ c.in-Ok.fields c.in-Ok.ensures.opened _ _ c.loop-fields.fields r
          c.next_field_by.new.self
          c.next_value_with-in-Ok-Some-eq3.new.self 3 TaskRunSlot3 _ p k.same k.same_reference failed
          (grind (
            arith,
            sym (q.same_reference ∙ k.same_reference ∙ run_reference g.R.Source task_run_names TaskRunHeld0 _ _ _ r
                ∙ c.in-Ok.ensures.same_reference),
          ))
          (λ fs v m h e. (v.3, task_run_tree3 fs v m h e));
    }

pub read_task_run_fields-next_value_with-requires-in-Ok-Some-eq3-clause-part : goal.read_task_run_fields-next_value_with-requires-in-Ok-Some-eq3-clause-part
read_task_run_fields-next_value_with-requires-in-Ok-Some-eq3-clause-part g t c = λ s d l p q.
    let same = same_then c.in-Ok.fields c.loop-fields.fields c.next_field_by.new.self c.loop-fields.invariant.same c.in-Ok-Some-eq3.ensures.same in
    let h = field_steps g.R.Source task_run_names c.args.de.now c.in-Ok.fields c.next_field_by.new.self c.in-Ok.ensures.opened same d l in
    let e = ap (λ (z : _). max 1 z.room) q in
    (omega (arith, h, at_most c.args.de.now.kept, e, c.decreases), ((λ a m. m), ((λ a m. m), (λ a m. m))))

pub read_task_run_fields-loop-fields-preserved : goal.read_task_run_fields-loop-fields-preserved
read_task_run_fields-loop-fields-preserved g t c =
    let r = c.loop-fields.invariant in
    let k = c.in-Ok-Some.ensures in
    let x = rw c.in-Ok-Some.field-0-is at (k.some r.still) in
    let below : c.in-Ok-Some.field-0-0 < 5 = subst (λ z. c.in-Ok-Some.field-0-0 < length z) (ap (λ z. bytes_of z.now) r.same.names ∙ r.names_same) x.below in
    let p = subst (TakesPlace g.R.Source c.loop-fields.fields c.next_field_by.new.self) (omega (arith, c.in-Ok-Some.field-0-0-test, below)) x in
    let q = c.in-Ok-next_value_with-5.ensures in
    let took = field_taken g.R.Source _ _ c.next_field_by.new.self c.next_value_with-in-Ok-Some.new.self p.still TaskRunSlot4 q.same
    (λ d rest gave l y. lent_law g.R.Source _ _ TaskRunSlot4 (λ a b n h. h) d rest gave y) c.in-Ok-next_value_with-5.value (q.part p.still) q.owes q.still in
    (struct_step g.R.Source task_run_names TaskRunHeld0 c.in-Ok.fields c.loop-fields.fields c.next_field_by.new.self c.next_value_with-in-Ok-Some.new.self
    (c.loop-fields.slot0, (c.loop-fields.slot1, (c.loop-fields.slot2, (c.loop-fields.slot3, (c.loop-fields.slot4, tt)))))
    (c.loop-fields.slot0, (c.loop-fields.slot1, (c.loop-fields.slot2, (c.loop-fields.slot3, ((Some c.in-Ok-next_value_with-5.value), tt))))) 4 TaskRunSlot4
    c.in-Ok-next_value_with-5.value r p k.same k.same_reference took q.same q.same_reference
    (task_run_step4 (c.loop-fields.slot0, (c.loop-fields.slot1, (c.loop-fields.slot2, (c.loop-fields.slot3, (c.loop-fields.slot4, tt)))))
    c.in-Ok-next_value_with-5.value))

pub read_task_run_fields-returns-in-Err-next_value_with-5 : goal.read_task_run_fields-returns-in-Err-next_value_with-5
read_task_run_fields-returns-in-Err-next_value_with-5 g t c =
    let r = c.loop-fields.invariant in
    let k = c.in-Ok-Some.ensures in
    let x = rw c.in-Ok-Some.field-0-is at (k.some r.still) in
    let below : c.in-Ok-Some.field-0-0 < 5 = subst (λ z. c.in-Ok-Some.field-0-0 < length z) (ap (λ z. bytes_of z.now) r.same.names ∙ r.names_same) x.below in
    let p = subst (TakesPlace g.R.Source c.loop-fields.fields c.next_field_by.new.self) (omega (arith, c.in-Ok-Some.field-0-0-test, below)) x in
    let q = c.in-Err-next_value_with-5.ensures in
    let failed = field_refused g.R.Source _ _ c.next_field_by.new.self c.next_value_with-in-Ok-Some.new.self p.still TaskRunSlot4 q.same
    (λ d rest gave l y. lent_law g.R.Source _ _ TaskRunSlot4 (λ a b n h. h) d rest gave y) _ (q.part p.still) p.owes (q.marked p.still.marked) in
    record {
      law = struct_value g.R.Source task_run_names TaskRunHeld0 (TaskRunFields IsTask) _ c.in-Ok.fields c.in-Ok.ensures.opened _ _ c.loop-fields.fields r
          c.next_field_by.new.self
          c.next_value_with-in-Ok-Some.new.self 4 TaskRunSlot4 _ p k.same k.same_reference failed
          (grind (
            arith,
            sym (q.same_reference ∙ k.same_reference ∙ run_reference g.R.Source task_run_names TaskRunHeld0 _ _ _ r
                ∙ c.in-Ok.ensures.same_reference),
          ))
          (λ fs v m h e. (v.4, task_run_tree4 fs v m h e));
    }

pub read_task_run_fields-next_value_with-requires-in-Ok-Some-clause-part : goal.read_task_run_fields-next_value_with-requires-in-Ok-Some-clause-part
read_task_run_fields-next_value_with-requires-in-Ok-Some-clause-part g t c = λ s d l p q.
    let same = same_then c.in-Ok.fields c.loop-fields.fields c.next_field_by.new.self c.loop-fields.invariant.same c.in-Ok-Some.ensures.same in
    let h = field_steps g.R.Source task_run_names c.args.de.now c.in-Ok.fields c.next_field_by.new.self c.in-Ok.ensures.opened same d l in
    let e = ap (λ (z : _). max 1 z.room) q in
    (omega (arith, h, at_most c.args.de.now.kept, e, c.decreases), ((λ a m. m), ((λ a m. m), (λ a m. m))))

pub read_task_run_fields-returns-in-Err-next_field_by : goal.read_task_run_fields-returns-in-Err-next_field_by
read_task_run_fields-returns-in-Err-next_field_by g t c =
    let r = c.loop-fields.invariant in
    record {
      law = struct_place g.R.Source task_run_names TaskRunHeld0 (TaskRunFields IsTask) _ c.in-Ok.fields c.in-Ok.ensures.opened _ _ c.loop-fields.fields r _
          _ c.next_field_by.new.self _
          (c.in-Err-next_field_by.ensures.err r.still) (grind (
            arith,
            sym (c.in-Err-next_field_by.ensures.same_reference ∙ run_reference g.R.Source task_run_names TaskRunHeld0 _ _ _ r
                ∙ c.in-Ok.ensures.same_reference),
          ));
    }

pub read_task_run_fields-returns-in-Err-given_or : goal.read_task_run_fields-returns-in-Err-given_or
read_task_run_fields-returns-in-Err-given_or g t c =
    let r = c.loop-fields.invariant in
    let k = c.in-Ok-None.ensures in
    let d = struct_met g.R.Source task_run_names TaskRunHeld0 c.in-Ok.fields c.loop-fields.fields c.next_field_by.new.self
    (c.loop-fields.slot0, (c.loop-fields.slot1, (c.loop-fields.slot2, (c.loop-fields.slot3, (c.loop-fields.slot4, tt))))) r
    (rw c.in-Ok-None.field-0-is at (k.none r.still)) k.same k.same_reference in
    let same : c.next_field_by.new.self ≡ c.next_field_by.new.self = refl in
    let e = c.in-Err-given_or.ensures.err (ap (λ a. a.sound) same ∙ d.run.still.sound) in
    record {
      law = struct_missing g.R.Source task_run_names TaskRunHeld0 (TaskRunFields IsTask) _ c.in-Ok.fields c.in-Ok.ensures.opened _ _
          c.next_field_by.new.self d _
          (via c.given_or.new.self.de.now (grind (
            arith,
            sym
                (c.in-Err-given_or.ensures.same_reference ∙ ap (λ a. a.de.ghost_name) same ∙ k.same_reference
                ∙ run_reference g.R.Source task_run_names TaskRunHeld0 _ _ _ r ∙ c.in-Ok.ensures.same_reference),
          ))
          (ap (λ a. a.de.now) e.3 ∙ ap (λ a. a.de.now) same))
          (task_run_gap0 (c.loop-fields.slot0, (c.loop-fields.slot1, (c.loop-fields.slot2, (c.loop-fields.slot3, (c.loop-fields.slot4, tt))))) e.0)
          (λ m fs v h q. task_run_lacks0 (
            c.loop-fields.slot0,
            (c.loop-fields.slot1, (c.loop-fields.slot2, (c.loop-fields.slot3, (c.loop-fields.slot4, tt)))),
          ) e.0 fs v h q);
    }

pub read_task_run_fields-returns-in-Err-given_or-2 : goal.read_task_run_fields-returns-in-Err-given_or-2
read_task_run_fields-returns-in-Err-given_or-2 g t c =
    let r = c.loop-fields.invariant in
    let k = c.in-Ok-None.ensures in
    let d = struct_met g.R.Source task_run_names TaskRunHeld0 c.in-Ok.fields c.loop-fields.fields c.next_field_by.new.self
    (c.loop-fields.slot0, (c.loop-fields.slot1, (c.loop-fields.slot2, (c.loop-fields.slot3, (c.loop-fields.slot4, tt))))) r
    (rw c.in-Ok-None.field-0-is at (k.none r.still)) k.same k.same_reference in
    let same : c.given_or.new.self ≡ c.next_field_by.new.self = c.in-Ok-given_or.ensures.ok.1 in
    let e = c.in-Err-given_or-2.ensures.err (ap (λ a. a.sound) same ∙ d.run.still.sound) in
    record {
      law = struct_missing g.R.Source task_run_names TaskRunHeld0 (TaskRunFields IsTask) _ c.in-Ok.fields c.in-Ok.ensures.opened _ _
          c.next_field_by.new.self d _
          (via c.given_or-2.new.self.de.now (grind (
            arith,
            sym
                (c.in-Err-given_or-2.ensures.same_reference ∙ ap (λ a. a.de.ghost_name) same ∙ k.same_reference
                ∙ run_reference g.R.Source task_run_names TaskRunHeld0 _ _ _ r ∙ c.in-Ok.ensures.same_reference),
          ))
          (ap (λ a. a.de.now) e.3 ∙ ap (λ a. a.de.now) same))
          (task_run_gap1 (c.loop-fields.slot0, (c.loop-fields.slot1, (c.loop-fields.slot2, (c.loop-fields.slot3, (c.loop-fields.slot4, tt))))) e.0)
          (λ m fs v h q. task_run_lacks1 (
            c.loop-fields.slot0,
            (c.loop-fields.slot1, (c.loop-fields.slot2, (c.loop-fields.slot3, (c.loop-fields.slot4, tt)))),
          ) e.0 fs v h q);
    }

pub read_task_run_fields-returns-in-Err-given_or-3 : goal.read_task_run_fields-returns-in-Err-given_or-3
read_task_run_fields-returns-in-Err-given_or-3 g t c =
    let r = c.loop-fields.invariant in
    let k = c.in-Ok-None.ensures in
    let d = struct_met g.R.Source task_run_names TaskRunHeld0 c.in-Ok.fields c.loop-fields.fields c.next_field_by.new.self
    (c.loop-fields.slot0, (c.loop-fields.slot1, (c.loop-fields.slot2, (c.loop-fields.slot3, (c.loop-fields.slot4, tt))))) r
    (rw c.in-Ok-None.field-0-is at (k.none r.still)) k.same k.same_reference in
    let same : c.given_or-2.new.self ≡ c.next_field_by.new.self = c.in-Ok-given_or-2.ensures.ok.1 ∙ c.in-Ok-given_or.ensures.ok.1 in
    let e = c.in-Err-given_or-3.ensures.err (ap (λ a. a.sound) same ∙ d.run.still.sound) in
    record {
      law = struct_missing g.R.Source task_run_names TaskRunHeld0 (TaskRunFields IsTask) _ c.in-Ok.fields c.in-Ok.ensures.opened _ _
          c.next_field_by.new.self d _
          (via c.given_or-3.new.self.de.now (grind (
            arith,
            sym
                (c.in-Err-given_or-3.ensures.same_reference ∙ ap (λ a. a.de.ghost_name) same ∙ k.same_reference
                ∙ run_reference g.R.Source task_run_names TaskRunHeld0 _ _ _ r ∙ c.in-Ok.ensures.same_reference),
          ))
          (ap (λ a. a.de.now) e.3 ∙ ap (λ a. a.de.now) same))
          (task_run_gap2 (c.loop-fields.slot0, (c.loop-fields.slot1, (c.loop-fields.slot2, (c.loop-fields.slot3, (c.loop-fields.slot4, tt))))) e.0)
          (λ m fs v h q. not_missing (e.2 (ap (λ a. a.is_map) same ∙ d.run.same.is_map ∙ m)));
    }

pub read_task_run_fields-returns-in-Err-given_or-4 : goal.read_task_run_fields-returns-in-Err-given_or-4
read_task_run_fields-returns-in-Err-given_or-4 g t c =
    let r = c.loop-fields.invariant in
    let k = c.in-Ok-None.ensures in
    let d = struct_met g.R.Source task_run_names TaskRunHeld0 c.in-Ok.fields c.loop-fields.fields c.next_field_by.new.self
    (c.loop-fields.slot0, (c.loop-fields.slot1, (c.loop-fields.slot2, (c.loop-fields.slot3, (c.loop-fields.slot4, tt))))) r
    (rw c.in-Ok-None.field-0-is at (k.none r.still)) k.same k.same_reference in
    let same : c.given_or-3.new.self ≡ c.next_field_by.new.self = c.in-Ok-given_or-3.ensures.ok.1 ∙ c.in-Ok-given_or-2.ensures.ok.1
    ∙ c.in-Ok-given_or.ensures.ok.1 in
    let e = c.in-Err-given_or-4.ensures.err (ap (λ a. a.sound) same ∙ d.run.still.sound) in
    record {
      law = struct_missing g.R.Source task_run_names TaskRunHeld0 (TaskRunFields IsTask) _ c.in-Ok.fields c.in-Ok.ensures.opened _ _
          c.next_field_by.new.self d _
          (via c.given_or-4.new.self.de.now (grind (
            arith,
            sym
                (c.in-Err-given_or-4.ensures.same_reference ∙ ap (λ a. a.de.ghost_name) same ∙ k.same_reference
                ∙ run_reference g.R.Source task_run_names TaskRunHeld0 _ _ _ r ∙ c.in-Ok.ensures.same_reference),
          ))
          (ap (λ a. a.de.now) e.3 ∙ ap (λ a. a.de.now) same))
          (task_run_gap3 (c.loop-fields.slot0, (c.loop-fields.slot1, (c.loop-fields.slot2, (c.loop-fields.slot3, (c.loop-fields.slot4, tt))))) e.0)
          (λ m fs v h q. task_run_lacks3 (
            c.loop-fields.slot0,
            (c.loop-fields.slot1, (c.loop-fields.slot2, (c.loop-fields.slot3, (c.loop-fields.slot4, tt)))),
          ) e.0 fs v h q);
    }

pub read_task_run_fields-returns-in-Err-given_or-5 : goal.read_task_run_fields-returns-in-Err-given_or-5
read_task_run_fields-returns-in-Err-given_or-5 g t c =
    let r = c.loop-fields.invariant in
    let k = c.in-Ok-None.ensures in
    let d = struct_met g.R.Source task_run_names TaskRunHeld0 c.in-Ok.fields c.loop-fields.fields c.next_field_by.new.self
    (c.loop-fields.slot0, (c.loop-fields.slot1, (c.loop-fields.slot2, (c.loop-fields.slot3, (c.loop-fields.slot4, tt))))) r
    (rw c.in-Ok-None.field-0-is at (k.none r.still)) k.same k.same_reference in
    let same : c.given_or-4.new.self ≡ c.next_field_by.new.self = c.in-Ok-given_or-4.ensures.ok.1 ∙ c.in-Ok-given_or-3.ensures.ok.1
    ∙ c.in-Ok-given_or-2.ensures.ok.1 ∙ c.in-Ok-given_or.ensures.ok.1 in
    let e = c.in-Err-given_or-5.ensures.err (ap (λ a. a.sound) same ∙ d.run.still.sound) in
    record {
      law = struct_missing g.R.Source task_run_names TaskRunHeld0 (TaskRunFields IsTask) _ c.in-Ok.fields c.in-Ok.ensures.opened _ _
          c.next_field_by.new.self d _
          (via c.given_or-5.new.self.de.now (grind (
            arith,
            sym
                (c.in-Err-given_or-5.ensures.same_reference ∙ ap (λ a. a.de.ghost_name) same ∙ k.same_reference
                ∙ run_reference g.R.Source task_run_names TaskRunHeld0 _ _ _ r ∙ c.in-Ok.ensures.same_reference),
          ))
          (ap (λ a. a.de.now) e.3 ∙ ap (λ a. a.de.now) same))
          (task_run_gap4 (c.loop-fields.slot0, (c.loop-fields.slot1, (c.loop-fields.slot2, (c.loop-fields.slot3, (c.loop-fields.slot4, tt))))) e.0)
          (λ m fs v h q. not_missing (e.2 (ap (λ a. a.is_map) same ∙ d.run.same.is_map ∙ m)));
    }

pub read_task_run_fields-returns-in-Ok-end : goal.read_task_run_fields-returns-in-Ok-end
read_task_run_fields-returns-in-Ok-end g t c =
    let r = c.loop-fields.invariant in
    let k = c.in-Ok-None.ensures in
    let d = struct_met g.R.Source task_run_names TaskRunHeld0 c.in-Ok.fields c.loop-fields.fields c.next_field_by.new.self
    (c.loop-fields.slot0, (c.loop-fields.slot1, (c.loop-fields.slot2, (c.loop-fields.slot3, (c.loop-fields.slot4, tt))))) r
    (rw c.in-Ok-None.field-0-is at (k.none r.still)) k.same k.same_reference in
    let last = c.in-Ok-given_or-5.ensures.ok.1 ∙ c.in-Ok-given_or-4.ensures.ok.1 ∙ c.in-Ok-given_or-3.ensures.ok.1 ∙ c.in-Ok-given_or-2.ensures.ok.1
    ∙ c.in-Ok-given_or.ensures.ok.1 in
    let e = c.in-Ok-end.ensures.ok (subst IsStructOpen (sym last) d.run.still) in
    rw (to_z-of_z w16 c.in-Ok-given_or-3.value (search rules)) (record {
      law = struct_done g.R.Source task_run_names TaskRunHeld0 (TaskRunFields IsTask) _ c.in-Ok.fields c.in-Ok.ensures.opened _ _ c.next_field_by.new.self d
          _ (task_run_whole (c.loop-fields.slot0, (c.loop-fields.slot1, (c.loop-fields.slot2, (c.loop-fields.slot3, (c.loop-fields.slot4, tt)))))
          (c.in-Ok-given_or.value, c.in-Ok-given_or-2.value, c.in-Ok-given_or-3.value, c.in-Ok-given_or-4.value, c.in-Ok-given_or-5.value)
          c.in-Ok-given_or.ensures.ok.0 c.in-Ok-given_or-2.ensures.ok.0 c.in-Ok-given_or-3.ensures.ok.0 c.in-Ok-given_or-4.ensures.ok.0
          c.in-Ok-given_or-5.ensures.ok.0)
          (ap (λ a. a.left) (sym last) ∙ e.0)
          (via c.end.new.self.0 (grind (
            arith,
            sym (ap (λ a. a.de.ghost_name) last ∙ k.same_reference
                ∙ run_reference g.R.Source task_run_names TaskRunHeld0 _ _ _ r ∙ c.in-Ok.ensures.same_reference),
          ))
          (e.1 ∙ ap (λ a. record a.de.now { failed = false }) last));
    })

pub read_task_run_fields-returns-in-Err-end : goal.read_task_run_fields-returns-in-Err-end
read_task_run_fields-returns-in-Err-end g t c =
    let r = c.loop-fields.invariant in
    let k = c.in-Ok-None.ensures in
    let d = struct_met g.R.Source task_run_names TaskRunHeld0 c.in-Ok.fields c.loop-fields.fields c.next_field_by.new.self
    (c.loop-fields.slot0, (c.loop-fields.slot1, (c.loop-fields.slot2, (c.loop-fields.slot3, (c.loop-fields.slot4, tt))))) r
    (rw c.in-Ok-None.field-0-is at (k.none r.still)) k.same k.same_reference in
    let last = c.in-Ok-given_or-5.ensures.ok.1 ∙ c.in-Ok-given_or-4.ensures.ok.1 ∙ c.in-Ok-given_or-3.ensures.ok.1 ∙ c.in-Ok-given_or-2.ensures.ok.1
    ∙ c.in-Ok-given_or.ensures.ok.1 in
    let e = c.in-Err-end.ensures.err (subst IsStructOpen (sym last) d.run.still) in
    record {
      law = struct_over g.R.Source task_run_names TaskRunHeld0 (TaskRunFields IsTask) _ c.in-Ok.fields c.in-Ok.ensures.opened _ _ c.next_field_by.new.self d _
          (subst (λ a. 0 < a.left) last e.0)
          (via c.end.new.self.0 (grind (
            arith,
            sym (ap (λ a. a.de.ghost_name) last ∙ k.same_reference
                ∙ run_reference g.R.Source task_run_names TaskRunHeld0 _ _ _ r ∙ c.in-Ok.ensures.same_reference),
          )) (e.1 ∙ ap (λ a. a.de.now) last));
    }
