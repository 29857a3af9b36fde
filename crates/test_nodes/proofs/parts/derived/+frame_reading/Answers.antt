use Rattle.std.proofs.Common.{◌≡◌, ◌∙◌, refl, sym, ap, subst, None, Some, rules, arith, false, length}
use Rattle.std.specs.Prelude.{◌<◌}
use Rattle.rmp_decode.specs.Seq.{IsOpen}
use Rattle.rmp_recursive.specs.Parts.{Row}
use Rattle.test_nodes.specs.declared.parts.Frame.{out-Frame}
use Rattle.test_nodes.specs.declared.parts.Frame.TheViews.{out-roll-Frame}
use Rattle.test_nodes.specs.FrameLevels.{IsFrame, FrameFields, FrameRead, FrameFrom0, frame_names, frame_made, frame_read}
use Rattle.std.proofs.lemmas.Result.{err_from_is_err_and}
use Rattle.rmp_decode.proofs.Laws.{lawful_ok, lawful_err}
use Rattle.rmp_decode.proofs.Seqs.{values_start, values_step, via}
use Rattle.rmp_decode.specs.FieldAccess.{IsStructOpen, TakesPlace}
use Rattle.rmp_decode.specs.Names.{bytes_of}
use Rattle.rmp_decode.proofs.FieldWiths.{field_taken, field_refused}
use Rattle.rmp_decode.proofs.StructRuns.{struct_start, struct_step, struct_place, struct_value, struct_met, struct_missing, struct_over, struct_done}
use Rattle.rmp_decode.proofs.Structs.{fields_unopened}
use Rattle.rmp_recursive.proofs.Fields.{same_then, field_steps, run_reference, not_missing}
use Rattle.test_nodes.proofs.FrameLevels.{
  FrameHeld0,
  frame_whole,
  FrameSlot0,
  frame_tree0,
  frame_step0,
  frame_gap0,
  frame_lacks0,
  FrameSlot1,
  frame_tree1,
  frame_step1,
  frame_gap1,
  frame_lacks1,
  FrameSlot2,
  frame_tree2,
  frame_step2,
  frame_gap2,
  frame_lacks2,
  FrameSlot3,
  frame_tree3,
  frame_step3,
  frame_gap3,
  frame_lacks3,
  FrameSlot4,
  frame_tree4,
  frame_step4,
  frame_gap4,
  FrameSlot5,
  frame_tree5,
  frame_step5,
  frame_gap5,
  frame_lacks5,
}
use Rattle.rmp_recursive.proofs.Queues.{queue_row, queue_done}
use Rattle.rmp_recursive.proofs.Parts.{
  row_unopened,
  row_refused,
  row_unkept,
  part_steps,
  steps_at,
  lawful_at,
  lent_law,
  item_taken,
  item_refused,
  some_if,
  some_if_err,
  none_left,
  never_none,
}
use Rattle.test_nodes.proofs.parts.derived.+frame_reading.Goals as goal

pub read_frame-returns-in-Err : goal.read_frame-returns-in-Err
read_frame-returns-in-Err g t c = record {
  law = lawful_err _ (FrameRead (g.P.FrameParts.reads_of g.C.SerializerConfig.human)) _ _ _ _
      (frame_read (g.P.FrameParts.reads_of g.C.SerializerConfig.human))
      (fields_unopened g.R.Source (frame_names (g.P.FrameParts.reads_of g.C.SerializerConfig.human))
      ((FrameFields (g.P.FrameParts.reads_of g.C.SerializerConfig.human)) (IsFrame (g.P.FrameParts.reads_of g.C.SerializerConfig.human))) _ _ _
      (rw c.in-Err.is at c.deserialize_struct.follows.holds-at-none));
}

pub read_frame-loop-fields-init : goal.read_frame-loop-fields-init
read_frame-loop-fields-init g t c = struct_start g.R.Source (frame_names (g.P.FrameParts.reads_of g.C.SerializerConfig.human))
    (FrameHeld0 (g.P.FrameParts.reads_of g.C.SerializerConfig.human)) _ c.in-Ok.fields (None, (None, (None, (None, (None, (None, tt))))))
    c.in-Ok.ensures.opened (refl, (refl, (refl, (refl, (refl, (refl, tt))))))

pub read_frame-loop-fields-preserved-in-Ok-next_value_with : goal.read_frame-loop-fields-preserved-in-Ok-next_value_with
read_frame-loop-fields-preserved-in-Ok-next_value_with g t c =
    let r = c.loop-fields.invariant in
    let k = c.in-Ok-Some-eq0.ensures in
    let x = rw c.in-Ok-Some-eq0.field-0-is at (k.some r.still) in
    let p = subst (TakesPlace g.R.Source c.loop-fields.fields c.next_field_by.new.self) c.in-Ok-Some-eq0.field-0-0-test x in
    let q = c.in-Ok-next_value_with.ensures in
    let took = field_taken g.R.Source _ _ c.next_field_by.new.self c.next_value_with.new.self p.still
    (FrameSlot0 (g.P.FrameParts.reads_of g.C.SerializerConfig.human)) q.same
    (λ d rest gave l y. lent_law g.R.Source _ _ (FrameSlot0 (g.P.FrameParts.reads_of g.C.SerializerConfig.human)) (λ a b n h. h) d rest gave y)
    c.in-Ok-next_value_with.value (q.part p.still) q.owes q.still in
    (struct_step g.R.Source (frame_names (g.P.FrameParts.reads_of g.C.SerializerConfig.human))
    (FrameHeld0 (g.P.FrameParts.reads_of g.C.SerializerConfig.human)) c.in-Ok.fields c.loop-fields.fields c.next_field_by.new.self
    c.next_value_with.new.self (
      c.loop-fields.slot0,
      (
        c.loop-fields.slot1,
        (c.loop-fields.slot2, (c.loop-fields.slot3, (c.loop-fields.slot4, (c.loop-fields.slot5, tt)))),
      ),
    ) (
      (Some c.in-Ok-next_value_with.value),
      (
        c.loop-fields.slot1,
        (c.loop-fields.slot2, (c.loop-fields.slot3, (c.loop-fields.slot4, (c.loop-fields.slot5, tt)))),
      ),
    ) 0
    (FrameSlot0 (g.P.FrameParts.reads_of g.C.SerializerConfig.human)) c.in-Ok-next_value_with.value r p k.same k.same_reference took q.same
    q.same_reference
    ((frame_step0 (g.P.FrameParts.reads_of g.C.SerializerConfig.human))
    (c.loop-fields.slot0, (c.loop-fields.slot1, (c.loop-fields.slot2, (c.loop-fields.slot3, (c.loop-fields.slot4, (c.loop-fields.slot5, tt))))))
    c.in-Ok-next_value_with.value))

pub read_frame-returns-in-Err-next_value_with : goal.read_frame-returns-in-Err-next_value_with
read_frame-returns-in-Err-next_value_with g t c =
    let r = c.loop-fields.invariant in
    let k = c.in-Ok-Some-eq0.ensures in
    let x = rw c.in-Ok-Some-eq0.field-0-is at (k.some r.still) in
    let p = subst (TakesPlace g.R.Source c.loop-fields.fields c.next_field_by.new.self) c.in-Ok-Some-eq0.field-0-0-test x in
    let q = c.in-Err-next_value_with.ensures in
    let failed = field_refused g.R.Source _ _ c.next_field_by.new.self c.next_value_with.new.self p.still
    (FrameSlot0 (g.P.FrameParts.reads_of g.C.SerializerConfig.human)) q.same
    (λ d rest gave l y. lent_law g.R.Source _ _ (FrameSlot0 (g.P.FrameParts.reads_of g.C.SerializerConfig.human)) (λ a b n h. h) d rest gave y) _
    (q.part p.still) p.owes (q.marked p.still.marked) in
    record {
      law = lawful_err _ (FrameRead (g.P.FrameParts.reads_of g.C.SerializerConfig.human)) _ _ _ _
          (frame_read (g.P.FrameParts.reads_of g.C.SerializerConfig.human))
          (struct_value g.R.Source (frame_names (g.P.FrameParts.reads_of g.C.SerializerConfig.human))
          (FrameHeld0 (g.P.FrameParts.reads_of g.C.SerializerConfig.human))
          ((FrameFields (g.P.FrameParts.reads_of g.C.SerializerConfig.human)) (IsFrame (g.P.FrameParts.reads_of g.C.SerializerConfig.human))) _
          c.in-Ok.fields c.in-Ok.ensures.opened _ _ c.loop-fields.fields r c.next_field_by.new.self
          c.next_value_with.new.self 0 (FrameSlot0 (g.P.FrameParts.reads_of g.C.SerializerConfig.human)) _ p k.same k.same_reference failed
          (grind (
            arith,
            sym (q.same_reference ∙ k.same_reference
                ∙ run_reference g.R.Source (frame_names (g.P.FrameParts.reads_of g.C.SerializerConfig.human))
                (FrameHeld0 (g.P.FrameParts.reads_of g.C.SerializerConfig.human)) _ _ _ r ∙ c.in-Ok.ensures.same_reference),
          ))
          (λ fs v m h e. ((out-Frame v).id, (frame_tree0 (g.P.FrameParts.reads_of g.C.SerializerConfig.human)) fs v m h e)));
    }

pub read_frame-loop-fields-preserved-in-Ok-next_value_with-2 : goal.read_frame-loop-fields-preserved-in-Ok-next_value_with-2
read_frame-loop-fields-preserved-in-Ok-next_value_with-2 g t c =
    let r = c.loop-fields.invariant in
    let k = c.in-Ok-Some-eq1.ensures in
    let x = rw c.in-Ok-Some-eq1.field-0-is at (k.some r.still) in
    let p = subst (TakesPlace g.R.Source c.loop-fields.fields c.next_field_by.new.self) c.in-Ok-Some-eq1.field-0-0-test x in
    let q = c.in-Ok-next_value_with-2.ensures in
    let took = field_taken g.R.Source _ _ c.next_field_by.new.self c.next_value_with-in-Ok-Some-eq1.new.self p.still
    (FrameSlot1 (g.P.FrameParts.reads_of g.C.SerializerConfig.human)) q.same
    (λ d rest gave l y. lent_law g.R.Source _ _ (FrameSlot1 (g.P.FrameParts.reads_of g.C.SerializerConfig.human)) (λ a b n h. h) d rest gave y)
    c.in-Ok-next_value_with-2.value (q.part p.still) q.owes q.still in
    (struct_step g.R.Source (frame_names (g.P.FrameParts.reads_of g.C.SerializerConfig.human))
    (FrameHeld0 (g.P.FrameParts.reads_of g.C.SerializerConfig.human)) c.in-Ok.fields c.loop-fields.fields c.next_field_by.new.self
    c.next_value_with-in-Ok-Some-eq1.new.self (
      c.loop-fields.slot0,
      (c.loop-fields.slot1, (c.loop-fields.slot2, (c.loop-fields.slot3, (c.loop-fields.slot4, (c.loop-fields.slot5, tt))))),
    ) (
      c.loop-fields.slot0,
      (
        (Some c.in-Ok-next_value_with-2.value),
        (c.loop-fields.slot2, (c.loop-fields.slot3, (c.loop-fields.slot4, (c.loop-fields.slot5, tt)))),
      ),
    ) 1
    (FrameSlot1 (g.P.FrameParts.reads_of g.C.SerializerConfig.human)) c.in-Ok-next_value_with-2.value r p k.same k.same_reference took q.same
    q.same_reference
    ((frame_step1 (g.P.FrameParts.reads_of g.C.SerializerConfig.human))
    (c.loop-fields.slot0, (c.loop-fields.slot1, (c.loop-fields.slot2, (c.loop-fields.slot3, (c.loop-fields.slot4, (c.loop-fields.slot5, tt))))))
    c.in-Ok-next_value_with-2.value))

pub read_frame-returns-in-Err-next_value_with-2 : goal.read_frame-returns-in-Err-next_value_with-2
read_frame-returns-in-Err-next_value_with-2 g t c =
    let r = c.loop-fields.invariant in
    let k = c.in-Ok-Some-eq1.ensures in
    let x = rw c.in-Ok-Some-eq1.field-0-is at (k.some r.still) in
    let p = subst (TakesPlace g.R.Source c.loop-fields.fields c.next_field_by.new.self) c.in-Ok-Some-eq1.field-0-0-test x in
    let q = c.in-Err-next_value_with-2.ensures in
    let failed = field_refused g.R.Source _ _ c.next_field_by.new.self c.next_value_with-in-Ok-Some-eq1.new.self p.still
    (FrameSlot1 (g.P.FrameParts.reads_of g.C.SerializerConfig.human)) q.same
    (λ d rest gave l y. lent_law g.R.Source _ _ (FrameSlot1 (g.P.FrameParts.reads_of g.C.SerializerConfig.human)) (λ a b n h. h) d rest gave y) _
    (q.part p.still) p.owes (q.marked p.still.marked) in
    record {
      law = lawful_err _ (FrameRead (g.P.FrameParts.reads_of g.C.SerializerConfig.human)) _ _ _ _
          (frame_read (g.P.FrameParts.reads_of g.C.SerializerConfig.human))
          (struct_value g.R.Source (frame_names (g.P.FrameParts.reads_of g.C.SerializerConfig.human))
          (FrameHeld0 (g.P.FrameParts.reads_of g.C.SerializerConfig.human))
          ((FrameFields (g.P.FrameParts.reads_of g.C.SerializerConfig.human)) (IsFrame (g.P.FrameParts.reads_of g.C.SerializerConfig.human))) _
          c.in-Ok.fields c.in-Ok.ensures.opened _ _ c.loop-fields.fields r c.next_field_by.new.self
          c.next_value_with-in-Ok-Some-eq1.new.self 1 (FrameSlot1 (g.P.FrameParts.reads_of g.C.SerializerConfig.human)) _ p k.same k.same_reference failed
          (grind (
            arith,
            sym (q.same_reference ∙ k.same_reference
                ∙ run_reference g.R.Source (frame_names (g.P.FrameParts.reads_of g.C.SerializerConfig.human))
                (FrameHeld0 (g.P.FrameParts.reads_of g.C.SerializerConfig.human)) _ _ _ r ∙ c.in-Ok.ensures.same_reference),
          ))
          (λ fs v m h e. ((out-Frame v).width, (frame_tree1 (g.P.FrameParts.reads_of g.C.SerializerConfig.human)) fs v m h e)));
    }

pub read_frame-loop-fields-preserved-in-Ok-next_value_with-3 : goal.read_frame-loop-fields-preserved-in-Ok-next_value_with-3
read_frame-loop-fields-preserved-in-Ok-next_value_with-3 g t c =
    let r = c.loop-fields.invariant in
    let k = c.in-Ok-Some-eq2.ensures in
    let x = rw c.in-Ok-Some-eq2.field-0-is at (k.some r.still) in
    let p = subst (TakesPlace g.R.Source c.loop-fields.fields c.next_field_by.new.self) c.in-Ok-Some-eq2.field-0-0-test x in
    let q = c.in-Ok-next_value_with-3.ensures in
    let took = field_taken g.R.Source _ _ c.next_field_by.new.self c.next_value_with-in-Ok-Some-eq2.new.self p.still
    (FrameSlot2 (g.P.FrameParts.reads_of g.C.SerializerConfig.human)) q.same
    (λ d rest gave l y. lent_law g.R.Source _ _ (FrameSlot2 (g.P.FrameParts.reads_of g.C.SerializerConfig.human)) (λ a b n h. h) d rest gave y)
    c.in-Ok-next_value_with-3.value (q.part p.still) q.owes q.still in
    (struct_step g.R.Source (frame_names (g.P.FrameParts.reads_of g.C.SerializerConfig.human))
    (FrameHeld0 (g.P.FrameParts.reads_of g.C.SerializerConfig.human)) c.in-Ok.fields c.loop-fields.fields c.next_field_by.new.self
    c.next_value_with-in-Ok-Some-eq2.new.self (
      c.loop-fields.slot0,
      (c.loop-fields.slot1, (c.loop-fields.slot2, (c.loop-fields.slot3, (c.loop-fields.slot4, (c.loop-fields.slot5, tt))))),
    ) (
      c.loop-fields.slot0,
      (
        c.loop-fields.slot1,
        (
          (Some c.in-Ok-next_value_with-3.value),
          (c.loop-fields.slot3, (c.loop-fields.slot4, (c.loop-fields.slot5, tt))),
        ),
      ),
    ) 2 (FrameSlot2 (g.P.FrameParts.reads_of g.C.SerializerConfig.human))
    c.in-Ok-next_value_with-3.value r p k.same k.same_reference took q.same q.same_reference
    ((frame_step2 (g.P.FrameParts.reads_of g.C.SerializerConfig.human))
    (c.loop-fields.slot0, (c.loop-fields.slot1, (c.loop-fields.slot2, (c.loop-fields.slot3, (c.loop-fields.slot4, (c.loop-fields.slot5, tt))))))
    c.in-Ok-next_value_with-3.value))

pub read_frame-returns-in-Err-next_value_with-3 : goal.read_frame-returns-in-Err-next_value_with-3
read_frame-returns-in-Err-next_value_with-3 g t c =
    let r = c.loop-fields.invariant in
    let k = c.in-Ok-Some-eq2.ensures in
    let x = rw c.in-Ok-Some-eq2.field-0-is at (k.some r.still) in
    let p = subst (TakesPlace g.R.Source c.loop-fields.fields c.next_field_by.new.self) c.in-Ok-Some-eq2.field-0-0-test x in
    let q = c.in-Err-next_value_with-3.ensures in
    let failed = field_refused g.R.Source _ _ c.next_field_by.new.self c.next_value_with-in-Ok-Some-eq2.new.self p.still
    (FrameSlot2 (g.P.FrameParts.reads_of g.C.SerializerConfig.human)) q.same
    (λ d rest gave l y. lent_law g.R.Source _ _ (FrameSlot2 (g.P.FrameParts.reads_of g.C.SerializerConfig.human)) (λ a b n h. h) d rest gave y) _
    (q.part p.still) p.owes (q.marked p.still.marked) in
    record {
      law = lawful_err _ (FrameRead (g.P.FrameParts.reads_of g.C.SerializerConfig.human)) _ _ _ _
          (frame_read (g.P.FrameParts.reads_of g.C.SerializerConfig.human))
          (struct_value g.R.Source (frame_names (g.P.FrameParts.reads_of g.C.SerializerConfig.human))
          (FrameHeld0 (g.P.FrameParts.reads_of g.C.SerializerConfig.human))
          ((FrameFields (g.P.FrameParts.reads_of g.C.SerializerConfig.human)) (IsFrame (g.P.FrameParts.reads_of g.C.SerializerConfig.human))) _
          c.in-Ok.fields c.in-Ok.ensures.opened _ _ c.loop-fields.fields r c.next_field_by.new.self
          c.next_value_with-in-Ok-Some-eq2.new.self 2 (FrameSlot2 (g.P.FrameParts.reads_of g.C.SerializerConfig.human)) _ p k.same k.same_reference failed
          (grind (
            arith,
            sym (q.same_reference ∙ k.same_reference
                ∙ run_reference g.R.Source (frame_names (g.P.FrameParts.reads_of g.C.SerializerConfig.human))
                (FrameHeld0 (g.P.FrameParts.reads_of g.C.SerializerConfig.human)) _ _ _ r ∙ c.in-Ok.ensures.same_reference),
          ))
          (λ fs v m h e. ((out-Frame v).hash, (frame_tree2 (g.P.FrameParts.reads_of g.C.SerializerConfig.human)) fs v m h e)));
    }

pub read_frame-loop-fields-preserved-in-Ok-next_value_with-4 : goal.read_frame-loop-fields-preserved-in-Ok-next_value_with-4
read_frame-loop-fields-preserved-in-Ok-next_value_with-4 g t c =
    let r = c.loop-fields.invariant in
    let k = c.in-Ok-Some-eq3.ensures in
    let x = rw c.in-Ok-Some-eq3.field-0-is at (k.some r.still) in
    let p = subst (TakesPlace g.R.Source c.loop-fields.fields c.next_field_by.new.self) c.in-Ok-Some-eq3.field-0-0-test x in
    let q = c.in-Ok-next_value_with-4.ensures in
    let took = field_taken g.R.Source _ _ c.next_field_by.new.self c.next_value_with-in-Ok-Some-eq3.new.self p.still
    (FrameSlot3 (g.P.FrameParts.reads_of g.C.SerializerConfig.human)) q.same
    (λ d rest gave l y. lent_law g.R.Source _ _ (FrameSlot3 (g.P.FrameParts.reads_of g.C.SerializerConfig.human)) (λ a b n h. h) d rest gave y)
    c.in-Ok-next_value_with-4.value (q.part p.still) q.owes q.still in
    (struct_step g.R.Source (frame_names (g.P.FrameParts.reads_of g.C.SerializerConfig.human))
    (FrameHeld0 (g.P.FrameParts.reads_of g.C.SerializerConfig.human)) c.in-Ok.fields c.loop-fields.fields c.next_field_by.new.self
    c.next_value_with-in-Ok-Some-eq3.new.self (
      c.loop-fields.slot0,
      (c.loop-fields.slot1, (c.loop-fields.slot2, (c.loop-fields.slot3, (c.loop-fields.slot4, (c.loop-fields.slot5, tt))))),
    ) (
      c.loop-fields.slot0,
      (
        c.loop-fields.slot1,
        (
          c.loop-fields.slot2,
          ((Some c.in-Ok-next_value_with-4.value), (c.loop-fields.slot4, (c.loop-fields.slot5, tt))),
        ),
      ),
    ) 3
    (FrameSlot3 (g.P.FrameParts.reads_of g.C.SerializerConfig.human)) c.in-Ok-next_value_with-4.value r p k.same k.same_reference took q.same
    q.same_reference
    ((frame_step3 (g.P.FrameParts.reads_of g.C.SerializerConfig.human))
    (c.loop-fields.slot0, (c.loop-fields.slot1, (c.loop-fields.slot2, (c.loop-fields.slot3, (c.loop-fields.slot4, (c.loop-fields.slot5, tt))))))
    c.in-Ok-next_value_with-4.value))

pub read_frame-returns-in-Err-next_value_with-4 : goal.read_frame-returns-in-Err-next_value_with-4
read_frame-returns-in-Err-next_value_with-4 g t c =
    let r = c.loop-fields.invariant in
    let k = c.in-Ok-Some-eq3.ensures in
    let x = rw c.in-Ok-Some-eq3.field-0-is at (k.some r.still) in
    let p = subst (TakesPlace g.R.Source c.loop-fields.fields c.next_field_by.new.self) c.in-Ok-Some-eq3.field-0-0-test x in
    let q = c.in-Err-next_value_with-4.ensures in
    let failed = field_refused g.R.Source _ _ c.next_field_by.new.self c.next_value_with-in-Ok-Some-eq3.new.self p.still
    (FrameSlot3 (g.P.FrameParts.reads_of g.C.SerializerConfig.human)) q.same
    (λ d rest gave l y. lent_law g.R.Source _ _ (FrameSlot3 (g.P.FrameParts.reads_of g.C.SerializerConfig.human)) (λ a b n h. h) d rest gave y) _
    (q.part p.still) p.owes (q.marked p.still.marked) in
    record {
      law = lawful_err _ (FrameRead (g.P.FrameParts.reads_of g.C.SerializerConfig.human)) _ _ _ _
          (frame_read (g.P.FrameParts.reads_of g.C.SerializerConfig.human))
          (struct_value g.R.Source (frame_names (g.P.FrameParts.reads_of g.C.SerializerConfig.human))
          (FrameHeld0 (g.P.FrameParts.reads_of g.C.SerializerConfig.human))
          ((FrameFields (g.P.FrameParts.reads_of g.C.SerializerConfig.human)) (IsFrame (g.P.FrameParts.reads_of g.C.SerializerConfig.human))) _
          c.in-Ok.fields c.in-Ok.ensures.opened _ _ c.loop-fields.fields r c.next_field_by.new.self
          c.next_value_with-in-Ok-Some-eq3.new.self 3 (FrameSlot3 (g.P.FrameParts.reads_of g.C.SerializerConfig.human)) _ p k.same k.same_reference failed
          (grind (
            arith,
            sym (q.same_reference ∙ k.same_reference
                ∙ run_reference g.R.Source (frame_names (g.P.FrameParts.reads_of g.C.SerializerConfig.human))
                (FrameHeld0 (g.P.FrameParts.reads_of g.C.SerializerConfig.human)) _ _ _ r ∙ c.in-Ok.ensures.same_reference),
          ))
          (λ fs v m h e. ((out-Frame v).counts, (frame_tree3 (g.P.FrameParts.reads_of g.C.SerializerConfig.human)) fs v m h e)));
    }

pub read_frame-loop-fields-preserved-in-Ok-next_value_with-5 : goal.read_frame-loop-fields-preserved-in-Ok-next_value_with-5
read_frame-loop-fields-preserved-in-Ok-next_value_with-5 g t c =
    let r = c.loop-fields.invariant in
    let k = c.in-Ok-Some-eq4.ensures in
    let x = rw c.in-Ok-Some-eq4.field-0-is at (k.some r.still) in
    let p = subst (TakesPlace g.R.Source c.loop-fields.fields c.next_field_by.new.self) c.in-Ok-Some-eq4.field-0-0-test x in
    let q = c.in-Ok-next_value_with-5.ensures in
    let took = field_taken g.R.Source _ _ c.next_field_by.new.self c.next_value_with-in-Ok-Some-eq4.new.self p.still
    (FrameSlot4 (g.P.FrameParts.reads_of g.C.SerializerConfig.human)) q.same
    (λ d rest gave l y. lent_law g.R.Source _ _ (FrameSlot4 (g.P.FrameParts.reads_of g.C.SerializerConfig.human)) (λ a b n h. h) d rest gave y)
    c.in-Ok-next_value_with-5.value (q.part p.still) q.owes q.still in
    (struct_step g.R.Source (frame_names (g.P.FrameParts.reads_of g.C.SerializerConfig.human))
    (FrameHeld0 (g.P.FrameParts.reads_of g.C.SerializerConfig.human)) c.in-Ok.fields c.loop-fields.fields c.next_field_by.new.self
    c.next_value_with-in-Ok-Some-eq4.new.self (
      c.loop-fields.slot0,
      (c.loop-fields.slot1, (c.loop-fields.slot2, (c.loop-fields.slot3, (c.loop-fields.slot4, (c.loop-fields.slot5, tt))))),
    ) (
      c.loop-fields.slot0,
      (
        c.loop-fields.slot1,
        (
          c.loop-fields.slot2,
          (c.loop-fields.slot3, ((Some c.in-Ok-next_value_with-5.value), (c.loop-fields.slot5, tt))),
        ),
      ),
    ) 4
    (FrameSlot4 (g.P.FrameParts.reads_of g.C.SerializerConfig.human)) c.in-Ok-next_value_with-5.value r p k.same k.same_reference took q.same
    q.same_reference
    ((frame_step4 (g.P.FrameParts.reads_of g.C.SerializerConfig.human))
    (c.loop-fields.slot0, (c.loop-fields.slot1, (c.loop-fields.slot2, (c.loop-fields.slot3, (c.loop-fields.slot4, (c.loop-fields.slot5, tt))))))
    c.in-Ok-next_value_with-5.value))

pub read_frame-returns-in-Err-next_value_with-5 : goal.read_frame-returns-in-Err-next_value_with-5
read_frame-returns-in-Err-next_value_with-5 g t c =
    let r = c.loop-fields.invariant in
    let k = c.in-Ok-Some-eq4.ensures in
    let x = rw c.in-Ok-Some-eq4.field-0-is at (k.some r.still) in
    let p = subst (TakesPlace g.R.Source c.loop-fields.fields c.next_field_by.new.self) c.in-Ok-Some-eq4.field-0-0-test x in
    let q = c.in-Err-next_value_with-5.ensures in
    let failed = field_refused g.R.Source _ _ c.next_field_by.new.self c.next_value_with-in-Ok-Some-eq4.new.self p.still
    (FrameSlot4 (g.P.FrameParts.reads_of g.C.SerializerConfig.human)) q.same
    (λ d rest gave l y. lent_law g.R.Source _ _ (FrameSlot4 (g.P.FrameParts.reads_of g.C.SerializerConfig.human)) (λ a b n h. h) d rest gave y) _
    (q.part p.still) p.owes (q.marked p.still.marked) in
    record {
      law = lawful_err _ (FrameRead (g.P.FrameParts.reads_of g.C.SerializerConfig.human)) _ _ _ _
          (frame_read (g.P.FrameParts.reads_of g.C.SerializerConfig.human))
          (struct_value g.R.Source (frame_names (g.P.FrameParts.reads_of g.C.SerializerConfig.human))
          (FrameHeld0 (g.P.FrameParts.reads_of g.C.SerializerConfig.human))
          ((FrameFields (g.P.FrameParts.reads_of g.C.SerializerConfig.human)) (IsFrame (g.P.FrameParts.reads_of g.C.SerializerConfig.human))) _
          c.in-Ok.fields c.in-Ok.ensures.opened _ _ c.loop-fields.fields r c.next_field_by.new.self
          c.next_value_with-in-Ok-Some-eq4.new.self 4 (FrameSlot4 (g.P.FrameParts.reads_of g.C.SerializerConfig.human)) _ p k.same k.same_reference failed
          (grind (
            arith,
            sym (q.same_reference ∙ k.same_reference
                ∙ run_reference g.R.Source (frame_names (g.P.FrameParts.reads_of g.C.SerializerConfig.human))
                (FrameHeld0 (g.P.FrameParts.reads_of g.C.SerializerConfig.human)) _ _ _ r ∙ c.in-Ok.ensures.same_reference),
          ))
          (λ fs v m h e. ((out-Frame v).least, (frame_tree4 (g.P.FrameParts.reads_of g.C.SerializerConfig.human)) fs v m h e)));
    }

pub read_frame-loop-fields-preserved : goal.read_frame-loop-fields-preserved
read_frame-loop-fields-preserved g t c =
    let r = c.loop-fields.invariant in
    let k = c.in-Ok-Some.ensures in
    let x = rw c.in-Ok-Some.field-0-is at (k.some r.still) in
    let below : c.in-Ok-Some.field-0-0 < 6 = subst (λ z. c.in-Ok-Some.field-0-0 < length z) (ap (λ z. bytes_of z.now) r.same.names ∙ r.names_same) x.below in
    let p = subst (TakesPlace g.R.Source c.loop-fields.fields c.next_field_by.new.self) (omega (arith, c.in-Ok-Some.field-0-0-test, below)) x in
    let q = c.in-Ok-next_value_with-6.ensures in
    let took = field_taken g.R.Source _ _ c.next_field_by.new.self c.next_value_with-in-Ok-Some.new.self p.still
    (FrameSlot5 (g.P.FrameParts.reads_of g.C.SerializerConfig.human)) q.same
    (λ d rest gave l y. lent_law g.R.Source _ _ (FrameSlot5 (g.P.FrameParts.reads_of g.C.SerializerConfig.human)) (λ a b n h. h) d rest gave y)
    c.in-Ok-next_value_with-6.value (q.part p.still) q.owes q.still in
    (struct_step g.R.Source (frame_names (g.P.FrameParts.reads_of g.C.SerializerConfig.human))
    (FrameHeld0 (g.P.FrameParts.reads_of g.C.SerializerConfig.human)) c.in-Ok.fields c.loop-fields.fields c.next_field_by.new.self
    c.next_value_with-in-Ok-Some.new.self (
      c.loop-fields.slot0,
      (c.loop-fields.slot1, (c.loop-fields.slot2, (c.loop-fields.slot3, (c.loop-fields.slot4, (c.loop-fields.slot5, tt))))),
    ) (
      c.loop-fields.slot0,
      (
        c.loop-fields.slot1,
        (
          c.loop-fields.slot2,
          (c.loop-fields.slot3, (c.loop-fields.slot4, ((Some c.in-Ok-next_value_with-6.value), tt))),
        ),
      ),
    ) 5
    (FrameSlot5 (g.P.FrameParts.reads_of g.C.SerializerConfig.human)) c.in-Ok-next_value_with-6.value r p k.same k.same_reference took q.same
    q.same_reference
    ((frame_step5 (g.P.FrameParts.reads_of g.C.SerializerConfig.human))
    (c.loop-fields.slot0, (c.loop-fields.slot1, (c.loop-fields.slot2, (c.loop-fields.slot3, (c.loop-fields.slot4, (c.loop-fields.slot5, tt))))))
    c.in-Ok-next_value_with-6.value))

pub read_frame-returns-in-Err-next_value_with-6 : goal.read_frame-returns-in-Err-next_value_with-6
read_frame-returns-in-Err-next_value_with-6 g t c =
    let r = c.loop-fields.invariant in
    let k = c.in-Ok-Some.ensures in
    let x = rw c.in-Ok-Some.field-0-is at (k.some r.still) in
    let below : c.in-Ok-Some.field-0-0 < 6 = subst (λ z. c.in-Ok-Some.field-0-0 < length z) (ap (λ z. bytes_of z.now) r.same.names ∙ r.names_same) x.below in
    let p = subst (TakesPlace g.R.Source c.loop-fields.fields c.next_field_by.new.self) (omega (arith, c.in-Ok-Some.field-0-0-test, below)) x in
    let q = c.in-Err-next_value_with-6.ensures in
    let failed = field_refused g.R.Source _ _ c.next_field_by.new.self c.next_value_with-in-Ok-Some.new.self p.still
    (FrameSlot5 (g.P.FrameParts.reads_of g.C.SerializerConfig.human)) q.same
    (λ d rest gave l y. lent_law g.R.Source _ _ (FrameSlot5 (g.P.FrameParts.reads_of g.C.SerializerConfig.human)) (λ a b n h. h) d rest gave y) _
    (q.part p.still) p.owes (q.marked p.still.marked) in
    record {
      law = lawful_err _ (FrameRead (g.P.FrameParts.reads_of g.C.SerializerConfig.human)) _ _ _ _
          (frame_read (g.P.FrameParts.reads_of g.C.SerializerConfig.human))
          (struct_value g.R.Source (frame_names (g.P.FrameParts.reads_of g.C.SerializerConfig.human))
          (FrameHeld0 (g.P.FrameParts.reads_of g.C.SerializerConfig.human))
          ((FrameFields (g.P.FrameParts.reads_of g.C.SerializerConfig.human)) (IsFrame (g.P.FrameParts.reads_of g.C.SerializerConfig.human))) _
          c.in-Ok.fields c.in-Ok.ensures.opened _ _ c.loop-fields.fields r c.next_field_by.new.self
          c.next_value_with-in-Ok-Some.new.self 5 (FrameSlot5 (g.P.FrameParts.reads_of g.C.SerializerConfig.human)) _ p k.same k.same_reference failed
          (grind (
            arith,
            sym (q.same_reference ∙ k.same_reference
                ∙ run_reference g.R.Source (frame_names (g.P.FrameParts.reads_of g.C.SerializerConfig.human))
                (FrameHeld0 (g.P.FrameParts.reads_of g.C.SerializerConfig.human)) _ _ _ r ∙ c.in-Ok.ensures.same_reference),
          ))
          (λ fs v m h e. ((out-Frame v).frames, (frame_tree5 (g.P.FrameParts.reads_of g.C.SerializerConfig.human)) fs v m h e)));
    }

pub read_frame-next_value_with-requires-in-Ok-Some-clause-part : goal.read_frame-next_value_with-requires-in-Ok-Some-clause-part
read_frame-next_value_with-requires-in-Ok-Some-clause-part g t c = λ s d l p q.
    let same = same_then c.in-Ok.fields c.loop-fields.fields c.next_field_by.new.self c.loop-fields.invariant.same c.in-Ok-Some.ensures.same in
    let h = field_steps g.R.Source (frame_names (g.P.FrameParts.reads_of g.C.SerializerConfig.human)) c.args.de.now c.in-Ok.fields c.next_field_by.new.self
    c.in-Ok.ensures.opened same d l in
    let e : steps_at p.now ≡ steps_at d = ap steps_at q in
    (omega (arith, h, e, c.decreases), ((λ a m. m), ((λ a m. m), (λ a m. m))))

pub read_frame-returns-in-Err-next_field_by : goal.read_frame-returns-in-Err-next_field_by
read_frame-returns-in-Err-next_field_by g t c =
    let r = c.loop-fields.invariant in
    record {
      law = lawful_err _ (FrameRead (g.P.FrameParts.reads_of g.C.SerializerConfig.human)) _ _ _ _
          (frame_read (g.P.FrameParts.reads_of g.C.SerializerConfig.human))
          (struct_place g.R.Source (frame_names (g.P.FrameParts.reads_of g.C.SerializerConfig.human))
          (FrameHeld0 (g.P.FrameParts.reads_of g.C.SerializerConfig.human))
          ((FrameFields (g.P.FrameParts.reads_of g.C.SerializerConfig.human)) (IsFrame (g.P.FrameParts.reads_of g.C.SerializerConfig.human))) _
          c.in-Ok.fields c.in-Ok.ensures.opened _ _ c.loop-fields.fields r _ _ c.next_field_by.new.self _
          (c.in-Err-next_field_by.ensures.err r.still) (grind (
            arith,
            sym (c.in-Err-next_field_by.ensures.same_reference
                ∙ run_reference g.R.Source (frame_names (g.P.FrameParts.reads_of g.C.SerializerConfig.human))
                (FrameHeld0 (g.P.FrameParts.reads_of g.C.SerializerConfig.human)) _ _ _ r ∙ c.in-Ok.ensures.same_reference),
          )));
    }

pub read_frame-returns-in-Err-given_or : goal.read_frame-returns-in-Err-given_or
read_frame-returns-in-Err-given_or g t c =
    let r = c.loop-fields.invariant in
    let k = c.in-Ok-None.ensures in
    let d = struct_met g.R.Source (frame_names (g.P.FrameParts.reads_of g.C.SerializerConfig.human))
    (FrameHeld0 (g.P.FrameParts.reads_of g.C.SerializerConfig.human)) c.in-Ok.fields c.loop-fields.fields c.next_field_by.new.self
    (c.loop-fields.slot0, (c.loop-fields.slot1, (c.loop-fields.slot2, (c.loop-fields.slot3, (c.loop-fields.slot4, (c.loop-fields.slot5, tt)))))) r
    (rw c.in-Ok-None.field-0-is at (k.none r.still)) k.same k.same_reference in
    let same : c.next_field_by.new.self ≡ c.next_field_by.new.self = refl in
    let e = c.in-Err-given_or.ensures.err (ap (λ a. a.sound) same ∙ d.run.still.sound) in
    record {
      law = lawful_err _ (FrameRead (g.P.FrameParts.reads_of g.C.SerializerConfig.human)) _ _ _ _
          (frame_read (g.P.FrameParts.reads_of g.C.SerializerConfig.human))
          (struct_missing g.R.Source (frame_names (g.P.FrameParts.reads_of g.C.SerializerConfig.human))
          (FrameHeld0 (g.P.FrameParts.reads_of g.C.SerializerConfig.human))
          ((FrameFields (g.P.FrameParts.reads_of g.C.SerializerConfig.human)) (IsFrame (g.P.FrameParts.reads_of g.C.SerializerConfig.human))) _
          c.in-Ok.fields c.in-Ok.ensures.opened _ _ c.next_field_by.new.self d _
          (via c.given_or.new.self.de.now (grind (
            arith,
            sym
                (c.in-Err-given_or.ensures.same_reference ∙ ap (λ a. a.de.ghost_name) same ∙ k.same_reference
                ∙ run_reference g.R.Source (frame_names (g.P.FrameParts.reads_of g.C.SerializerConfig.human))
                (FrameHeld0 (g.P.FrameParts.reads_of g.C.SerializerConfig.human)) _ _ _ r ∙ c.in-Ok.ensures.same_reference),
          ))
          (ap (λ a. a.de.now) e.3 ∙ ap (λ a. a.de.now) same))
          ((frame_gap0 (g.P.FrameParts.reads_of g.C.SerializerConfig.human))
          (c.loop-fields.slot0, (c.loop-fields.slot1, (c.loop-fields.slot2, (c.loop-fields.slot3, (c.loop-fields.slot4, (c.loop-fields.slot5, tt))))))
          e.0) (λ m fs v h q. (frame_lacks0 (g.P.FrameParts.reads_of g.C.SerializerConfig.human))
          (c.loop-fields.slot0, (c.loop-fields.slot1, (c.loop-fields.slot2, (c.loop-fields.slot3, (c.loop-fields.slot4, (c.loop-fields.slot5, tt))))))
          e.0 fs v h q));
    }

pub read_frame-returns-in-Err-given_or-2 : goal.read_frame-returns-in-Err-given_or-2
read_frame-returns-in-Err-given_or-2 g t c =
    let r = c.loop-fields.invariant in
    let k = c.in-Ok-None.ensures in
    let d = struct_met g.R.Source (frame_names (g.P.FrameParts.reads_of g.C.SerializerConfig.human))
    (FrameHeld0 (g.P.FrameParts.reads_of g.C.SerializerConfig.human)) c.in-Ok.fields c.loop-fields.fields c.next_field_by.new.self
    (c.loop-fields.slot0, (c.loop-fields.slot1, (c.loop-fields.slot2, (c.loop-fields.slot3, (c.loop-fields.slot4, (c.loop-fields.slot5, tt)))))) r
    (rw c.in-Ok-None.field-0-is at (k.none r.still)) k.same k.same_reference in
    let same : c.given_or.new.self ≡ c.next_field_by.new.self = c.in-Ok-given_or.ensures.ok.1 in
    let e = c.in-Err-given_or-2.ensures.err (ap (λ a. a.sound) same ∙ d.run.still.sound) in
    record {
      law = lawful_err _ (FrameRead (g.P.FrameParts.reads_of g.C.SerializerConfig.human)) _ _ _ _
          (frame_read (g.P.FrameParts.reads_of g.C.SerializerConfig.human))
          (struct_missing g.R.Source (frame_names (g.P.FrameParts.reads_of g.C.SerializerConfig.human))
          (FrameHeld0 (g.P.FrameParts.reads_of g.C.SerializerConfig.human))
          ((FrameFields (g.P.FrameParts.reads_of g.C.SerializerConfig.human)) (IsFrame (g.P.FrameParts.reads_of g.C.SerializerConfig.human))) _
          c.in-Ok.fields c.in-Ok.ensures.opened _ _ c.next_field_by.new.self d _
          (via c.given_or-2.new.self.de.now (grind (
            arith,
            sym
                (c.in-Err-given_or-2.ensures.same_reference ∙ ap (λ a. a.de.ghost_name) same ∙ k.same_reference
                ∙ run_reference g.R.Source (frame_names (g.P.FrameParts.reads_of g.C.SerializerConfig.human))
                (FrameHeld0 (g.P.FrameParts.reads_of g.C.SerializerConfig.human)) _ _ _ r ∙ c.in-Ok.ensures.same_reference),
          ))
          (ap (λ a. a.de.now) e.3 ∙ ap (λ a. a.de.now) same))
          ((frame_gap1 (g.P.FrameParts.reads_of g.C.SerializerConfig.human))
          (c.loop-fields.slot0, (c.loop-fields.slot1, (c.loop-fields.slot2, (c.loop-fields.slot3, (c.loop-fields.slot4, (c.loop-fields.slot5, tt))))))
          e.0) (λ m fs v h q. (frame_lacks1 (g.P.FrameParts.reads_of g.C.SerializerConfig.human))
          (c.loop-fields.slot0, (c.loop-fields.slot1, (c.loop-fields.slot2, (c.loop-fields.slot3, (c.loop-fields.slot4, (c.loop-fields.slot5, tt))))))
          e.0 fs v h q));
    }

pub read_frame-returns-in-Err-given_or-3 : goal.read_frame-returns-in-Err-given_or-3
read_frame-returns-in-Err-given_or-3 g t c =
    let r = c.loop-fields.invariant in
    let k = c.in-Ok-None.ensures in
    let d = struct_met g.R.Source (frame_names (g.P.FrameParts.reads_of g.C.SerializerConfig.human))
    (FrameHeld0 (g.P.FrameParts.reads_of g.C.SerializerConfig.human)) c.in-Ok.fields c.loop-fields.fields c.next_field_by.new.self
    (c.loop-fields.slot0, (c.loop-fields.slot1, (c.loop-fields.slot2, (c.loop-fields.slot3, (c.loop-fields.slot4, (c.loop-fields.slot5, tt)))))) r
    (rw c.in-Ok-None.field-0-is at (k.none r.still)) k.same k.same_reference in
    let same : c.given_or-2.new.self ≡ c.next_field_by.new.self = c.in-Ok-given_or-2.ensures.ok.1 ∙ c.in-Ok-given_or.ensures.ok.1 in
    let e = c.in-Err-given_or-3.ensures.err (ap (λ a. a.sound) same ∙ d.run.still.sound) in
    record {
      law = lawful_err _ (FrameRead (g.P.FrameParts.reads_of g.C.SerializerConfig.human)) _ _ _ _
          (frame_read (g.P.FrameParts.reads_of g.C.SerializerConfig.human))
          (struct_missing g.R.Source (frame_names (g.P.FrameParts.reads_of g.C.SerializerConfig.human))
          (FrameHeld0 (g.P.FrameParts.reads_of g.C.SerializerConfig.human))
          ((FrameFields (g.P.FrameParts.reads_of g.C.SerializerConfig.human)) (IsFrame (g.P.FrameParts.reads_of g.C.SerializerConfig.human))) _
          c.in-Ok.fields c.in-Ok.ensures.opened _ _ c.next_field_by.new.self d _
          (via c.given_or-3.new.self.de.now (grind (
            arith,
            sym
                (c.in-Err-given_or-3.ensures.same_reference ∙ ap (λ a. a.de.ghost_name) same ∙ k.same_reference
                ∙ run_reference g.R.Source (frame_names (g.P.FrameParts.reads_of g.C.SerializerConfig.human))
                (FrameHeld0 (g.P.FrameParts.reads_of g.C.SerializerConfig.human)) _ _ _ r ∙ c.in-Ok.ensures.same_reference),
          ))
          (ap (λ a. a.de.now) e.3 ∙ ap (λ a. a.de.now) same))
          ((frame_gap2 (g.P.FrameParts.reads_of g.C.SerializerConfig.human))
          (c.loop-fields.slot0, (c.loop-fields.slot1, (c.loop-fields.slot2, (c.loop-fields.slot3, (c.loop-fields.slot4, (c.loop-fields.slot5, tt))))))
          e.0) (λ m fs v h q. (frame_lacks2 (g.P.FrameParts.reads_of g.C.SerializerConfig.human))
          (c.loop-fields.slot0, (c.loop-fields.slot1, (c.loop-fields.slot2, (c.loop-fields.slot3, (c.loop-fields.slot4, (c.loop-fields.slot5, tt))))))
          e.0 fs v h q));
    }

pub read_frame-returns-in-Err-given_or-4 : goal.read_frame-returns-in-Err-given_or-4
read_frame-returns-in-Err-given_or-4 g t c =
    let r = c.loop-fields.invariant in
    let k = c.in-Ok-None.ensures in
    let d = struct_met g.R.Source (frame_names (g.P.FrameParts.reads_of g.C.SerializerConfig.human))
    (FrameHeld0 (g.P.FrameParts.reads_of g.C.SerializerConfig.human)) c.in-Ok.fields c.loop-fields.fields c.next_field_by.new.self
    (c.loop-fields.slot0, (c.loop-fields.slot1, (c.loop-fields.slot2, (c.loop-fields.slot3, (c.loop-fields.slot4, (c.loop-fields.slot5, tt)))))) r
    (rw c.in-Ok-None.field-0-is at (k.none r.still)) k.same k.same_reference in
    let same : c.given_or-3.new.self ≡ c.next_field_by.new.self = c.in-Ok-given_or-3.ensures.ok.1 ∙ c.in-Ok-given_or-2.ensures.ok.1
    ∙ c.in-Ok-given_or.ensures.ok.1 in
    let e = c.in-Err-given_or-4.ensures.err (ap (λ a. a.sound) same ∙ d.run.still.sound) in
    record {
      law = lawful_err _ (FrameRead (g.P.FrameParts.reads_of g.C.SerializerConfig.human)) _ _ _ _
          (frame_read (g.P.FrameParts.reads_of g.C.SerializerConfig.human))
          (struct_missing g.R.Source (frame_names (g.P.FrameParts.reads_of g.C.SerializerConfig.human))
          (FrameHeld0 (g.P.FrameParts.reads_of g.C.SerializerConfig.human))
          ((FrameFields (g.P.FrameParts.reads_of g.C.SerializerConfig.human)) (IsFrame (g.P.FrameParts.reads_of g.C.SerializerConfig.human))) _
          c.in-Ok.fields c.in-Ok.ensures.opened _ _ c.next_field_by.new.self d _
          (via c.given_or-4.new.self.de.now (grind (
            arith,
            sym
                (c.in-Err-given_or-4.ensures.same_reference ∙ ap (λ a. a.de.ghost_name) same ∙ k.same_reference
                ∙ run_reference g.R.Source (frame_names (g.P.FrameParts.reads_of g.C.SerializerConfig.human))
                (FrameHeld0 (g.P.FrameParts.reads_of g.C.SerializerConfig.human)) _ _ _ r ∙ c.in-Ok.ensures.same_reference),
          ))
          (ap (λ a. a.de.now) e.3 ∙ ap (λ a. a.de.now) same))
          ((frame_gap3 (g.P.FrameParts.reads_of g.C.SerializerConfig.human))
          (c.loop-fields.slot0, (c.loop-fields.slot1, (c.loop-fields.slot2, (c.loop-fields.slot3, (c.loop-fields.slot4, (c.loop-fields.slot5, tt))))))
          e.0) (λ m fs v h q. (frame_lacks3 (g.P.FrameParts.reads_of g.C.SerializerConfig.human))
          (c.loop-fields.slot0, (c.loop-fields.slot1, (c.loop-fields.slot2, (c.loop-fields.slot3, (c.loop-fields.slot4, (c.loop-fields.slot5, tt))))))
          e.0 fs v h q));
    }

pub read_frame-returns-in-Err-given_or-5 : goal.read_frame-returns-in-Err-given_or-5
read_frame-returns-in-Err-given_or-5 g t c =
    let r = c.loop-fields.invariant in
    let k = c.in-Ok-None.ensures in
    let d = struct_met g.R.Source (frame_names (g.P.FrameParts.reads_of g.C.SerializerConfig.human))
    (FrameHeld0 (g.P.FrameParts.reads_of g.C.SerializerConfig.human)) c.in-Ok.fields c.loop-fields.fields c.next_field_by.new.self
    (c.loop-fields.slot0, (c.loop-fields.slot1, (c.loop-fields.slot2, (c.loop-fields.slot3, (c.loop-fields.slot4, (c.loop-fields.slot5, tt)))))) r
    (rw c.in-Ok-None.field-0-is at (k.none r.still)) k.same k.same_reference in
    let same : c.given_or-4.new.self ≡ c.next_field_by.new.self = c.in-Ok-given_or-4.ensures.ok.1 ∙ c.in-Ok-given_or-3.ensures.ok.1
    ∙ c.in-Ok-given_or-2.ensures.ok.1 ∙ c.in-Ok-given_or.ensures.ok.1 in
    let e = c.in-Err-given_or-5.ensures.err (ap (λ a. a.sound) same ∙ d.run.still.sound) in
    record {
      law = lawful_err _ (FrameRead (g.P.FrameParts.reads_of g.C.SerializerConfig.human)) _ _ _ _
          (frame_read (g.P.FrameParts.reads_of g.C.SerializerConfig.human))
          (struct_missing g.R.Source (frame_names (g.P.FrameParts.reads_of g.C.SerializerConfig.human))
          (FrameHeld0 (g.P.FrameParts.reads_of g.C.SerializerConfig.human))
          ((FrameFields (g.P.FrameParts.reads_of g.C.SerializerConfig.human)) (IsFrame (g.P.FrameParts.reads_of g.C.SerializerConfig.human))) _
          c.in-Ok.fields c.in-Ok.ensures.opened _ _ c.next_field_by.new.self d _
          (via c.given_or-5.new.self.de.now (grind (
            arith,
            sym
                (c.in-Err-given_or-5.ensures.same_reference ∙ ap (λ a. a.de.ghost_name) same ∙ k.same_reference
                ∙ run_reference g.R.Source (frame_names (g.P.FrameParts.reads_of g.C.SerializerConfig.human))
                (FrameHeld0 (g.P.FrameParts.reads_of g.C.SerializerConfig.human)) _ _ _ r ∙ c.in-Ok.ensures.same_reference),
          ))
          (ap (λ a. a.de.now) e.3 ∙ ap (λ a. a.de.now) same))
          ((frame_gap4 (g.P.FrameParts.reads_of g.C.SerializerConfig.human))
          (c.loop-fields.slot0, (c.loop-fields.slot1, (c.loop-fields.slot2, (c.loop-fields.slot3, (c.loop-fields.slot4, (c.loop-fields.slot5, tt))))))
          e.0) (λ m fs v h q. not_missing (e.2 (ap (λ a. a.is_map) same ∙ d.run.same.is_map ∙ m))));
    }

pub read_frame-returns-in-Err-given_or-6 : goal.read_frame-returns-in-Err-given_or-6
read_frame-returns-in-Err-given_or-6 g t c =
    let r = c.loop-fields.invariant in
    let k = c.in-Ok-None.ensures in
    let d = struct_met g.R.Source (frame_names (g.P.FrameParts.reads_of g.C.SerializerConfig.human))
    (FrameHeld0 (g.P.FrameParts.reads_of g.C.SerializerConfig.human)) c.in-Ok.fields c.loop-fields.fields c.next_field_by.new.self
    (c.loop-fields.slot0, (c.loop-fields.slot1, (c.loop-fields.slot2, (c.loop-fields.slot3, (c.loop-fields.slot4, (c.loop-fields.slot5, tt)))))) r
    (rw c.in-Ok-None.field-0-is at (k.none r.still)) k.same k.same_reference in
    let same : c.given_or-5.new.self ≡ c.next_field_by.new.self = c.in-Ok-given_or-5.ensures.ok.1 ∙ c.in-Ok-given_or-4.ensures.ok.1
    ∙ c.in-Ok-given_or-3.ensures.ok.1 ∙ c.in-Ok-given_or-2.ensures.ok.1 ∙ c.in-Ok-given_or.ensures.ok.1 in
    let e = c.in-Err-given_or-6.ensures.err (ap (λ a. a.sound) same ∙ d.run.still.sound) in
    record {
      law = lawful_err _ (FrameRead (g.P.FrameParts.reads_of g.C.SerializerConfig.human)) _ _ _ _
          (frame_read (g.P.FrameParts.reads_of g.C.SerializerConfig.human))
          (struct_missing g.R.Source (frame_names (g.P.FrameParts.reads_of g.C.SerializerConfig.human))
          (FrameHeld0 (g.P.FrameParts.reads_of g.C.SerializerConfig.human))
          ((FrameFields (g.P.FrameParts.reads_of g.C.SerializerConfig.human)) (IsFrame (g.P.FrameParts.reads_of g.C.SerializerConfig.human))) _
          c.in-Ok.fields c.in-Ok.ensures.opened _ _ c.next_field_by.new.self d _
          (via c.given_or-6.new.self.de.now (grind (
            arith,
            sym
                (c.in-Err-given_or-6.ensures.same_reference ∙ ap (λ a. a.de.ghost_name) same ∙ k.same_reference
                ∙ run_reference g.R.Source (frame_names (g.P.FrameParts.reads_of g.C.SerializerConfig.human))
                (FrameHeld0 (g.P.FrameParts.reads_of g.C.SerializerConfig.human)) _ _ _ r ∙ c.in-Ok.ensures.same_reference),
          ))
          (ap (λ a. a.de.now) e.3 ∙ ap (λ a. a.de.now) same))
          ((frame_gap5 (g.P.FrameParts.reads_of g.C.SerializerConfig.human))
          (c.loop-fields.slot0, (c.loop-fields.slot1, (c.loop-fields.slot2, (c.loop-fields.slot3, (c.loop-fields.slot4, (c.loop-fields.slot5, tt))))))
          e.0) (λ m fs v h q. (frame_lacks5 (g.P.FrameParts.reads_of g.C.SerializerConfig.human))
          (c.loop-fields.slot0, (c.loop-fields.slot1, (c.loop-fields.slot2, (c.loop-fields.slot3, (c.loop-fields.slot4, (c.loop-fields.slot5, tt))))))
          e.0 fs v h q));
    }

pub read_frame-returns-in-Ok-end : goal.read_frame-returns-in-Ok-end
read_frame-returns-in-Ok-end g t c =
    let r = c.loop-fields.invariant in
    let k = c.in-Ok-None.ensures in
    let d = struct_met g.R.Source (frame_names (g.P.FrameParts.reads_of g.C.SerializerConfig.human))
    (FrameHeld0 (g.P.FrameParts.reads_of g.C.SerializerConfig.human)) c.in-Ok.fields c.loop-fields.fields c.next_field_by.new.self
    (c.loop-fields.slot0, (c.loop-fields.slot1, (c.loop-fields.slot2, (c.loop-fields.slot3, (c.loop-fields.slot4, (c.loop-fields.slot5, tt)))))) r
    (rw c.in-Ok-None.field-0-is at (k.none r.still)) k.same k.same_reference in
    let last = c.in-Ok-given_or-6.ensures.ok.1 ∙ c.in-Ok-given_or-5.ensures.ok.1 ∙ c.in-Ok-given_or-4.ensures.ok.1 ∙ c.in-Ok-given_or-3.ensures.ok.1
    ∙ c.in-Ok-given_or-2.ensures.ok.1 ∙ c.in-Ok-given_or.ensures.ok.1 in
    let e = c.in-Ok-end.ensures.ok (subst IsStructOpen (sym last) d.run.still) in
    (record {
      law = lawful_ok _ (FrameRead (g.P.FrameParts.reads_of g.C.SerializerConfig.human)) (IsFrame (g.P.FrameParts.reads_of g.C.SerializerConfig.human)) _ _
          _ _ ((frame_made (g.P.FrameParts.reads_of g.C.SerializerConfig.human)) _)
          (struct_done g.R.Source (frame_names (g.P.FrameParts.reads_of g.C.SerializerConfig.human))
          (FrameHeld0 (g.P.FrameParts.reads_of g.C.SerializerConfig.human))
          ((FrameFields (g.P.FrameParts.reads_of g.C.SerializerConfig.human)) (IsFrame (g.P.FrameParts.reads_of g.C.SerializerConfig.human))) _
          c.in-Ok.fields c.in-Ok.ensures.opened _ _ c.next_field_by.new.self d _
          (λ fs h. subst (λ z. (FrameFrom0 (g.P.FrameParts.reads_of g.C.SerializerConfig.human))
          (IsFrame (g.P.FrameParts.reads_of g.C.SerializerConfig.human)) z fs) (sym (out-roll-Frame _))
          ((frame_whole (g.P.FrameParts.reads_of g.C.SerializerConfig.human))
          (c.loop-fields.slot0, (c.loop-fields.slot1, (c.loop-fields.slot2, (c.loop-fields.slot3, (c.loop-fields.slot4, (c.loop-fields.slot5, tt))))))
          (record {
            id = c.in-Ok-given_or.value;
            width = c.in-Ok-given_or-2.value;
            hash = c.in-Ok-given_or-3.value;
            counts = c.in-Ok-given_or-4.value;
            least = c.in-Ok-given_or-5.value;
            frames = c.in-Ok-given_or-6.value;
          }) c.in-Ok-given_or.ensures.ok.0 c.in-Ok-given_or-2.ensures.ok.0
          c.in-Ok-given_or-3.ensures.ok.0 c.in-Ok-given_or-4.ensures.ok.0 c.in-Ok-given_or-5.ensures.ok.0 c.in-Ok-given_or-6.ensures.ok.0 fs h))
          (ap (λ a. a.left) (sym last) ∙ e.0)
          (via c.end.new.self.0 (grind (
            arith,
            sym (ap (λ a. a.de.ghost_name) last ∙ k.same_reference
                ∙ run_reference g.R.Source (frame_names (g.P.FrameParts.reads_of g.C.SerializerConfig.human))
                (FrameHeld0 (g.P.FrameParts.reads_of g.C.SerializerConfig.human)) _ _ _ r ∙ c.in-Ok.ensures.same_reference),
          ))
          (e.1 ∙ ap (λ a. record a.de.now { failed = false }) last)));
    })

pub read_frame-returns-in-Err-end : goal.read_frame-returns-in-Err-end
read_frame-returns-in-Err-end g t c =
    let r = c.loop-fields.invariant in
    let k = c.in-Ok-None.ensures in
    let d = struct_met g.R.Source (frame_names (g.P.FrameParts.reads_of g.C.SerializerConfig.human))
    (FrameHeld0 (g.P.FrameParts.reads_of g.C.SerializerConfig.human)) c.in-Ok.fields c.loop-fields.fields c.next_field_by.new.self
    (c.loop-fields.slot0, (c.loop-fields.slot1, (c.loop-fields.slot2, (c.loop-fields.slot3, (c.loop-fields.slot4, (c.loop-fields.slot5, tt)))))) r
    (rw c.in-Ok-None.field-0-is at (k.none r.still)) k.same k.same_reference in
    let last = c.in-Ok-given_or-6.ensures.ok.1 ∙ c.in-Ok-given_or-5.ensures.ok.1 ∙ c.in-Ok-given_or-4.ensures.ok.1 ∙ c.in-Ok-given_or-3.ensures.ok.1
    ∙ c.in-Ok-given_or-2.ensures.ok.1 ∙ c.in-Ok-given_or.ensures.ok.1 in
    let e = c.in-Err-end.ensures.err (subst IsStructOpen (sym last) d.run.still) in
    record {
      law = lawful_err _ (FrameRead (g.P.FrameParts.reads_of g.C.SerializerConfig.human)) _ _ _ _
          (frame_read (g.P.FrameParts.reads_of g.C.SerializerConfig.human))
          (struct_over g.R.Source (frame_names (g.P.FrameParts.reads_of g.C.SerializerConfig.human))
          (FrameHeld0 (g.P.FrameParts.reads_of g.C.SerializerConfig.human))
          ((FrameFields (g.P.FrameParts.reads_of g.C.SerializerConfig.human)) (IsFrame (g.P.FrameParts.reads_of g.C.SerializerConfig.human))) _
          c.in-Ok.fields c.in-Ok.ensures.opened _ _ c.next_field_by.new.self d _
          (subst (λ a. 0 < a.left) last e.0)
          (via c.end.new.self.0 (grind (
            arith,
            sym (ap (λ a. a.de.ghost_name) last ∙ k.same_reference
                ∙ run_reference g.R.Source (frame_names (g.P.FrameParts.reads_of g.C.SerializerConfig.human))
                (FrameHeld0 (g.P.FrameParts.reads_of g.C.SerializerConfig.human)) _ _ _ r ∙ c.in-Ok.ensures.same_reference),
          ))
          (e.1 ∙ ap (λ a. a.de.now) last)));
    }

pub read_frame_queue-returns-in_err-seq : goal.read_frame_queue-returns-in_err-seq
read_frame_queue-returns-in_err-seq g t c =
    let p = err_from_is_err_and c.from_residual.result c.from_residual.ensures.1 in
    rw (p.1, p.2) (record {
      law = lawful_err _ (Row (IsFrame (g.P.FrameParts.reads_of g.C.SerializerConfig.human))) _ _ _ _
          (queue_row (IsFrame (g.P.FrameParts.reads_of g.C.SerializerConfig.human)))
          (row_unopened g.R.Source (IsFrame (g.P.FrameParts.reads_of g.C.SerializerConfig.human)) _ _ _
          (rw c.in_err-seq.was at c.deserialize_seq.follows.holds-at-none));
    })

pub read_frame_queue-loop-items-init : goal.read_frame_queue-loop-items-init
read_frame_queue-loop-items-init g t c =
    rw c.new-items.ensures.items (values_start g.R.Source (IsFrame (g.P.FrameParts.reads_of g.C.SerializerConfig.human)) c.in_ok-seq.seq
    c.in_ok-seq.ensures.opened.opened)

pub read_frame_queue-next_element_with-requires : goal.read_frame_queue-next_element_with-requires
read_frame_queue-next_element_with-requires g t c =
    λ s some d l p q.
    let h = part_steps g.R.Source c.args.de.now c.in_ok-seq.seq c.loop-items.seq _ c.in_ok-seq.ensures.opened c.loop-items.invariant.run d l in
    let e : steps_at p.now ≡ steps_at d = ap steps_at q in
    (omega (arith, h, e, c.decreases), ((λ a m. m), ((λ a m. m), (λ a m. m))))

pub read_frame_queue-returns-in_err-item : goal.read_frame_queue-returns-in_err-item
read_frame_queue-returns-in_err-item g t c =
    let p = err_from_is_err_and c.from_residual-in_err-item.result c.from_residual-in_err-item.ensures.1 in
    let r = c.loop-items.invariant in
    let e = c.in_err-item.ensures in
    let some = some_if_err c.loop-items.seq.left _ (e.none r.run.still.sound) in
    let f = item_refused g.R.Source (IsFrame (g.P.FrameParts.reads_of g.C.SerializerConfig.human)) c.loop-items.seq c.next_element_with.new.self r.run.still
    e.list (λ p q r h. h) _ some
    (e.part r.run.still.sound some) in
    rw (p.1, p.2) (record {
      law = lawful_err _ (Row (IsFrame (g.P.FrameParts.reads_of g.C.SerializerConfig.human))) _ _ _ _
          (queue_row (IsFrame (g.P.FrameParts.reads_of g.C.SerializerConfig.human)))
          (row_refused g.R.Source (IsFrame (g.P.FrameParts.reads_of g.C.SerializerConfig.human)) _ c.in_ok-seq.seq c.loop-items.seq c.loop-items.items.items
          c.in_ok-seq.ensures.opened r _
          c.next_element_with.new.self _ f (e.marked r.run.still.marked) (search rules));
    })

pub read_frame_queue-loop-items-preserved : goal.read_frame_queue-loop-items-preserved
read_frame_queue-loop-items-preserved g t c =
    let r = c.loop-items.invariant in
    let e = c.in_ok-item.ensures in
    let is = c.in-Some.is in
    let some = some_if c.loop-items.seq.left c.in-Some.item _ is (e.none r.run.still.sound) in
    let k = item_taken g.R.Source (IsFrame (g.P.FrameParts.reads_of g.C.SerializerConfig.human)) c.loop-items.seq c.next_element_with.new.self r.run.still
    e.list (λ p q r h. h) c.in-Some.item
    (rw is at (e.part r.run.still.sound some)) e.still in
    rw c.in_ok-push_back.ensures.items (values_step g.R.Source (IsFrame (g.P.FrameParts.reads_of g.C.SerializerConfig.human)) c.in_ok-seq.seq
    c.loop-items.seq c.next_element_with.new.self c.loop-items.items.items c.in-Some.item r k e.same_reference)

pub read_frame_queue-returns : goal.read_frame_queue-returns
read_frame_queue-returns g t c =
    let r = c.loop-items.invariant in
    let e = c.in_ok-item.ensures in
    let z = none_left c.loop-items.seq.left (λ l. never_none g.R.Source c.loop-items.seq c.next_element_with.new.self
    (rw c.in_default.is at (e.part r.run.still.sound l))) in
    let n = (e.none r.run.still.sound z).1 in
    let d = (c.in_ok-end.ensures.ok (subst IsOpen (sym n) r.run.still)).1 in
    record {
      law = queue_done g.R.Source (IsFrame (g.P.FrameParts.reads_of g.C.SerializerConfig.human)) _ c.in_ok-seq.seq c.loop-items.seq c.loop-items.items
          c.in_ok-seq.ensures.opened r _ z
          (via c.end.new.self.0 (search rules) (d ∙ ap (λ s. record s.de.now { failed = false }) n));
    }

pub read_frame_queue-returns-in_err-push_back : goal.read_frame_queue-returns-in_err-push_back
read_frame_queue-returns-in_err-push_back g t c =
    let p = err_from_is_err_and c.from_residual-in_err-push_back.result c.from_residual-in_err-push_back.ensures.1 in
    rw (p.1, p.2) (record {
      law = lawful_at g.R.Source _ _ _ c.next_element_with.new.self.de.now _
          (let same = sym c.in_ok-seq.ensures.same_reference ∙ sym c.loop-items.invariant.run.same_reference ∙ sym c.in_ok-item.ensures.same_reference
          in search rules) (
          let r = c.loop-items.invariant in
          let e = c.in_ok-item.ensures in
          let is = c.in-Some.is in
          let some = some_if c.loop-items.seq.left c.in-Some.item _ is (e.none r.run.still.sound) in
          let k = item_taken g.R.Source (IsFrame (g.P.FrameParts.reads_of g.C.SerializerConfig.human)) c.loop-items.seq c.next_element_with.new.self r.run.still
          e.list (λ p q r h. h) c.in-Some.item
          (rw is at (e.part r.run.still.sound some)) e.still in
          let v = values_step g.R.Source (IsFrame (g.P.FrameParts.reads_of g.C.SerializerConfig.human)) c.in_ok-seq.seq c.loop-items.seq
          c.next_element_with.new.self c.loop-items.items.items c.in-Some.item r k e.same_reference in
          lawful_err _ (Row (IsFrame (g.P.FrameParts.reads_of g.C.SerializerConfig.human))) _ _ _ _
          (queue_row (IsFrame (g.P.FrameParts.reads_of g.C.SerializerConfig.human)))
          (row_unkept g.R.Source (IsFrame (g.P.FrameParts.reads_of g.C.SerializerConfig.human)) _ c.in_ok-seq.seq c.next_element_with.new.self _
          c.in_ok-seq.ensures.opened v _ refl));
    })

pub read_frame_queue-returns-in_err-end : goal.read_frame_queue-returns-in_err-end
read_frame_queue-returns-in_err-end g t c =
    let r = c.loop-items.invariant in
    let e = c.in_ok-item.ensures in
    let z = none_left c.loop-items.seq.left (λ l. never_none g.R.Source c.loop-items.seq c.next_element_with.new.self
    (rw c.in_default.is at (e.part r.run.still.sound l))) in
    let n = (e.none r.run.still.sound z).1 in
    let d = (c.in_err-end.ensures.err (subst IsOpen (sym n) r.run.still)).0 in
    absurd (omega (arith, z, d, ap (λ s. s.left) n))
