use Rattle.std.proofs.Common.{◌≡◌, ◌∙◌, refl, sym, ap, subst, Option, None, Some, Box, rules, arith, false, length}
use Rattle.std.specs.Prelude.{◌<◌, Vec}
use Rattle.std.specs.declared.alloc.Global.{Global}
use Rattle.rmp_wire.specs.Msg.{Msg}
use Rattle.rmp_decode.specs.Options.{IsOption}
use Rattle.rmp_decode.specs.Seq.{IsOpen}
use Rattle.rmp_recursive.specs.Parts.{Row, Boxed}
use Rattle.test_nodes.specs.declared.lists.List.{List as OwnList, out-List as out-OwnList}
use Rattle.test_nodes.specs.declared.lists.List.TheViews.{out-roll-List as out-roll-OwnList}
use Rattle.test_nodes.specs.OwnListLevels.{IsOwnList, OwnListFields, OwnListRead, OwnListFrom0, own_list_names, own_list_made, own_list_read}
use Rattle.std.proofs.lemmas.Result.{err_from_is_err_and}
use Rattle.rmp_decode.proofs.Laws.{lawful_ok, lawful_err}
use Rattle.rmp_decode.proofs.Seqs.{values_start, values_step, via}
use Rattle.rmp_decode.specs.FieldAccess.{IsStructOpen, TakesPlace}
use Rattle.rmp_decode.specs.Names.{bytes_of}
use Rattle.rmp_decode.proofs.FieldWiths.{field_taken, field_refused}
use Rattle.rmp_decode.proofs.StructRuns.{struct_start, struct_step, struct_place, struct_value, struct_met, struct_missing, struct_over, struct_done}
use Rattle.rmp_decode.proofs.Structs.{fields_unopened}
use Rattle.rmp_recursive.proofs.Fields.{same_then, field_steps, run_reference, not_missing}
use Rattle.test_nodes.proofs.OwnListLevels.{
  OwnListHeld0,
  own_list_whole,
  OwnListSlot0,
  own_list_tree0,
  own_list_step0,
  own_list_gap0,
  OwnListSlot1,
  own_list_tree1,
  own_list_step1,
  own_list_gap1,
  OwnListSlot2,
  own_list_tree2,
  own_list_step2,
  own_list_gap2,
  OwnListSlot3,
  own_list_tree3,
  own_list_step3,
  own_list_gap3,
  own_list_lacks3,
}
use Rattle.rmp_recursive.proofs.Parts.{
  vec_row,
  vec_done,
  row_unopened,
  row_refused,
  row_unkept,
  part_steps,
  steps_at,
  other_steps,
  lawful_at,
  lent_law,
  item_taken,
  item_refused,
  option_law,
  some_if,
  some_if_err,
  none_left,
  never_none,
}
use Rattle.test_nodes.proofs.lists.derived.+own_list_reading.Goals as goal

pub read_own_list-returns-in-Err : goal.read_own_list-returns-in-Err
read_own_list-returns-in-Err g t c = record {
  law = lawful_err _ OwnListRead _ _ _ _ own_list_read
      (fields_unopened g.R.Source own_list_names (OwnListFields IsOwnList) _ _ _ (rw c.in-Err.is at c.deserialize_struct.follows.holds-at-none));
}

pub read_own_list-loop-fields-init : goal.read_own_list-loop-fields-init
read_own_list-loop-fields-init g t c = struct_start g.R.Source own_list_names OwnListHeld0 _ c.in-Ok.fields (None, (None, (None, (None, tt))))
    c.in-Ok.ensures.opened (refl, (refl, (refl, (refl, tt))))

pub read_own_list-loop-fields-preserved-in-Ok-next_value_with : goal.read_own_list-loop-fields-preserved-in-Ok-next_value_with
read_own_list-loop-fields-preserved-in-Ok-next_value_with g t c =
    let r = c.loop-fields.invariant in
    let k = c.in-Ok-Some-eq0.ensures in
    let x = rw c.in-Ok-Some-eq0.field-0-is at (k.some r.still) in
    let p = subst (TakesPlace g.R.Source c.loop-fields.fields c.next_field_by.new.self) c.in-Ok-Some-eq0.field-0-0-test x in
    let q = c.in-Ok-next_value_with.ensures in
    let took = field_taken g.R.Source _ _ c.next_field_by.new.self c.next_value_with.new.self p.still OwnListSlot0 q.same
    (λ d rest gave l y. lent_law g.R.Source _ _ OwnListSlot0 (λ a b n h. h) d rest gave y) c.in-Ok-next_value_with.value (q.part p.still) q.owes q.still in
    (struct_step g.R.Source own_list_names OwnListHeld0 c.in-Ok.fields c.loop-fields.fields c.next_field_by.new.self c.next_value_with.new.self
    (c.loop-fields.slot0, (c.loop-fields.slot1, (c.loop-fields.slot2, (c.loop-fields.slot3, tt))))
    ((Some c.in-Ok-next_value_with.value), (c.loop-fields.slot1, (c.loop-fields.slot2, (c.loop-fields.slot3, tt)))) 0 OwnListSlot0
    c.in-Ok-next_value_with.value r p k.same k.same_reference took q.same q.same_reference
    (own_list_step0 (c.loop-fields.slot0, (c.loop-fields.slot1, (c.loop-fields.slot2, (c.loop-fields.slot3, tt)))) c.in-Ok-next_value_with.value))

pub read_own_list-returns-in-Err-next_value_with : goal.read_own_list-returns-in-Err-next_value_with
read_own_list-returns-in-Err-next_value_with g t c =
    let r = c.loop-fields.invariant in
    let k = c.in-Ok-Some-eq0.ensures in
    let x = rw c.in-Ok-Some-eq0.field-0-is at (k.some r.still) in
    let p = subst (TakesPlace g.R.Source c.loop-fields.fields c.next_field_by.new.self) c.in-Ok-Some-eq0.field-0-0-test x in
    let q = c.in-Err-next_value_with.ensures in
    let failed = field_refused g.R.Source _ _ c.next_field_by.new.self c.next_value_with.new.self p.still OwnListSlot0 q.same
    (λ d rest gave l y. lent_law g.R.Source _ _ OwnListSlot0 (λ a b n h. h) d rest gave y) _ (q.part p.still) p.owes (q.marked p.still.marked) in
    record {
      law = lawful_err _ OwnListRead _ _ _ _ own_list_read
          (struct_value g.R.Source own_list_names OwnListHeld0 (OwnListFields IsOwnList) _ c.in-Ok.fields c.in-Ok.ensures.opened _ _ c.loop-fields.fields r
          c.next_field_by.new.self
          c.next_value_with.new.self 0 OwnListSlot0 _ p k.same k.same_reference failed
          (grind (
            arith,
            sym (q.same_reference ∙ k.same_reference ∙ run_reference g.R.Source own_list_names OwnListHeld0 _ _ _ r
                ∙ c.in-Ok.ensures.same_reference),
          ))
          (λ fs v m h e. ((out-OwnList v).times, own_list_tree0 fs v m h e)));
    }

pub read_own_list-loop-fields-preserved-in-Ok-next_value_with-2 : goal.read_own_list-loop-fields-preserved-in-Ok-next_value_with-2
read_own_list-loop-fields-preserved-in-Ok-next_value_with-2 g t c =
    let r = c.loop-fields.invariant in
    let k = c.in-Ok-Some-eq1.ensures in
    let x = rw c.in-Ok-Some-eq1.field-0-is at (k.some r.still) in
    let p = subst (TakesPlace g.R.Source c.loop-fields.fields c.next_field_by.new.self) c.in-Ok-Some-eq1.field-0-0-test x in
    let q = c.in-Ok-next_value_with-2.ensures in
    let took = field_taken g.R.Source _ _ c.next_field_by.new.self c.next_value_with-in-Ok-Some-eq1.new.self p.still OwnListSlot1 q.same
    (λ d rest gave l y. lent_law g.R.Source _ _ OwnListSlot1 (λ a b n h. h) d rest gave y) c.in-Ok-next_value_with-2.value (q.part p.still) q.owes q.still in
    (struct_step g.R.Source own_list_names OwnListHeld0 c.in-Ok.fields c.loop-fields.fields c.next_field_by.new.self
    c.next_value_with-in-Ok-Some-eq1.new.self (c.loop-fields.slot0, (c.loop-fields.slot1, (c.loop-fields.slot2, (c.loop-fields.slot3, tt))))
    (c.loop-fields.slot0, ((Some c.in-Ok-next_value_with-2.value), (c.loop-fields.slot2, (c.loop-fields.slot3, tt)))) 1 OwnListSlot1
    c.in-Ok-next_value_with-2.value r p k.same k.same_reference took q.same q.same_reference
    (own_list_step1 (c.loop-fields.slot0, (c.loop-fields.slot1, (c.loop-fields.slot2, (c.loop-fields.slot3, tt)))) c.in-Ok-next_value_with-2.value))

pub read_own_list-returns-in-Err-next_value_with-2 : goal.read_own_list-returns-in-Err-next_value_with-2
read_own_list-returns-in-Err-next_value_with-2 g t c =
    let r = c.loop-fields.invariant in
    let k = c.in-Ok-Some-eq1.ensures in
    let x = rw c.in-Ok-Some-eq1.field-0-is at (k.some r.still) in
    let p = subst (TakesPlace g.R.Source c.loop-fields.fields c.next_field_by.new.self) c.in-Ok-Some-eq1.field-0-0-test x in
    let q = c.in-Err-next_value_with-2.ensures in
    let failed = field_refused g.R.Source _ _ c.next_field_by.new.self c.next_value_with-in-Ok-Some-eq1.new.self p.still OwnListSlot1 q.same
    (λ d rest gave l y. lent_law g.R.Source _ _ OwnListSlot1 (λ a b n h. h) d rest gave y) _ (q.part p.still) p.owes (q.marked p.still.marked) in
    record {
      law = lawful_err _ OwnListRead _ _ _ _ own_list_read
          (struct_value g.R.Source own_list_names OwnListHeld0 (OwnListFields IsOwnList) _ c.in-Ok.fields c.in-Ok.ensures.opened _ _ c.loop-fields.fields r
          c.next_field_by.new.self
          c.next_value_with-in-Ok-Some-eq1.new.self 1 OwnListSlot1 _ p k.same k.same_reference failed
          (grind (
            arith,
            sym (q.same_reference ∙ k.same_reference ∙ run_reference g.R.Source own_list_names OwnListHeld0 _ _ _ r
                ∙ c.in-Ok.ensures.same_reference),
          ))
          (λ fs v m h e. ((out-OwnList v).next, own_list_tree1 fs v m h e)));
    }

pub read_own_list-next_value_with-requires-in-Ok-Some-eq1-clause-part : goal.read_own_list-next_value_with-requires-in-Ok-Some-eq1-clause-part
read_own_list-next_value_with-requires-in-Ok-Some-eq1-clause-part g t c = λ s d l p q.
    let same = same_then c.in-Ok.fields c.loop-fields.fields c.next_field_by.new.self c.loop-fields.invariant.same c.in-Ok-Some-eq1.ensures.same in
    let h = field_steps g.R.Source own_list_names c.args.de.now c.in-Ok.fields c.next_field_by.new.self c.in-Ok.ensures.opened same d l in
    let e : steps_at p.now ≡ steps_at d = ap steps_at q in
    (omega (arith, h, e, c.decreases), ((λ a m. m), ((λ a m. m), (λ a m. m))))

pub read_own_list-loop-fields-preserved-in-Ok-next_value_with-3 : goal.read_own_list-loop-fields-preserved-in-Ok-next_value_with-3
read_own_list-loop-fields-preserved-in-Ok-next_value_with-3 g t c =
    let r = c.loop-fields.invariant in
    let k = c.in-Ok-Some-eq2.ensures in
    let x = rw c.in-Ok-Some-eq2.field-0-is at (k.some r.still) in
    let p = subst (TakesPlace g.R.Source c.loop-fields.fields c.next_field_by.new.self) c.in-Ok-Some-eq2.field-0-0-test x in
    let q = c.in-Ok-next_value_with-3.ensures in
    let took = field_taken g.R.Source _ _ c.next_field_by.new.self c.next_value_with-in-Ok-Some-eq2.new.self p.still OwnListSlot2 q.same
    (λ d rest gave l y. lent_law g.R.Source _ _ OwnListSlot2 (λ a b n h. h) d rest gave y) c.in-Ok-next_value_with-3.value (q.part p.still) q.owes q.still in
    (struct_step g.R.Source own_list_names OwnListHeld0 c.in-Ok.fields c.loop-fields.fields c.next_field_by.new.self
    c.next_value_with-in-Ok-Some-eq2.new.self (c.loop-fields.slot0, (c.loop-fields.slot1, (c.loop-fields.slot2, (c.loop-fields.slot3, tt))))
    (c.loop-fields.slot0, (c.loop-fields.slot1, ((Some c.in-Ok-next_value_with-3.value), (c.loop-fields.slot3, tt)))) 2 OwnListSlot2
    c.in-Ok-next_value_with-3.value r p k.same k.same_reference took q.same q.same_reference
    (own_list_step2 (c.loop-fields.slot0, (c.loop-fields.slot1, (c.loop-fields.slot2, (c.loop-fields.slot3, tt)))) c.in-Ok-next_value_with-3.value))

pub read_own_list-returns-in-Err-next_value_with-3 : goal.read_own_list-returns-in-Err-next_value_with-3
read_own_list-returns-in-Err-next_value_with-3 g t c =
    let r = c.loop-fields.invariant in
    let k = c.in-Ok-Some-eq2.ensures in
    let x = rw c.in-Ok-Some-eq2.field-0-is at (k.some r.still) in
    let p = subst (TakesPlace g.R.Source c.loop-fields.fields c.next_field_by.new.self) c.in-Ok-Some-eq2.field-0-0-test x in
    let q = c.in-Err-next_value_with-3.ensures in
    let failed = field_refused g.R.Source _ _ c.next_field_by.new.self c.next_value_with-in-Ok-Some-eq2.new.self p.still OwnListSlot2 q.same
    (λ d rest gave l y. lent_law g.R.Source _ _ OwnListSlot2 (λ a b n h. h) d rest gave y) _ (q.part p.still) p.owes (q.marked p.still.marked) in
    record {
      law = lawful_err _ OwnListRead _ _ _ _ own_list_read
          (struct_value g.R.Source own_list_names OwnListHeld0 (OwnListFields IsOwnList) _ c.in-Ok.fields c.in-Ok.ensures.opened _ _ c.loop-fields.fields r
          c.next_field_by.new.self
          c.next_value_with-in-Ok-Some-eq2.new.self 2 OwnListSlot2 _ p k.same k.same_reference failed
          (grind (
            arith,
            sym (q.same_reference ∙ k.same_reference ∙ run_reference g.R.Source own_list_names OwnListHeld0 _ _ _ r
                ∙ c.in-Ok.ensures.same_reference),
          ))
          (λ fs v m h e. ((out-OwnList v).below, own_list_tree2 fs v m h e)));
    }

pub read_own_list-next_value_with-requires-in-Ok-Some-eq2-clause-part : goal.read_own_list-next_value_with-requires-in-Ok-Some-eq2-clause-part
read_own_list-next_value_with-requires-in-Ok-Some-eq2-clause-part g t c = λ s d l p q.
    let same = same_then c.in-Ok.fields c.loop-fields.fields c.next_field_by.new.self c.loop-fields.invariant.same c.in-Ok-Some-eq2.ensures.same in
    let h = field_steps g.R.Source own_list_names c.args.de.now c.in-Ok.fields c.next_field_by.new.self c.in-Ok.ensures.opened same d l in
    let e : steps_at p.now ≡ steps_at d = ap steps_at q in
    (omega (arith, h, e, c.decreases), ((λ a m. m), ((λ a m. m), (λ a m. m))))

pub read_own_list-loop-fields-preserved : goal.read_own_list-loop-fields-preserved
read_own_list-loop-fields-preserved g t c =
    let r = c.loop-fields.invariant in
    let k = c.in-Ok-Some.ensures in
    let x = rw c.in-Ok-Some.field-0-is at (k.some r.still) in
    let below : c.in-Ok-Some.field-0-0 < 4 = subst (λ z. c.in-Ok-Some.field-0-0 < length z) (ap (λ z. bytes_of z.now) r.same.names ∙ r.names_same) x.below in
    let p = subst (TakesPlace g.R.Source c.loop-fields.fields c.next_field_by.new.self) (omega (arith, c.in-Ok-Some.field-0-0-test, below)) x in
    let q = c.in-Ok-next_value_with-4.ensures in
    let took = field_taken g.R.Source _ _ c.next_field_by.new.self c.next_value_with-in-Ok-Some.new.self p.still OwnListSlot3 q.same
    (λ d rest gave l y. lent_law g.R.Source _ _ OwnListSlot3 (λ a b n h. h) d rest gave y) c.in-Ok-next_value_with-4.value (q.part p.still) q.owes q.still in
    (struct_step g.R.Source own_list_names OwnListHeld0 c.in-Ok.fields c.loop-fields.fields c.next_field_by.new.self c.next_value_with-in-Ok-Some.new.self
    (c.loop-fields.slot0, (c.loop-fields.slot1, (c.loop-fields.slot2, (c.loop-fields.slot3, tt))))
    (c.loop-fields.slot0, (c.loop-fields.slot1, (c.loop-fields.slot2, ((Some c.in-Ok-next_value_with-4.value), tt)))) 3 OwnListSlot3
    c.in-Ok-next_value_with-4.value r p k.same k.same_reference took q.same q.same_reference
    (own_list_step3 (c.loop-fields.slot0, (c.loop-fields.slot1, (c.loop-fields.slot2, (c.loop-fields.slot3, tt)))) c.in-Ok-next_value_with-4.value))

pub read_own_list-returns-in-Err-next_value_with-4 : goal.read_own_list-returns-in-Err-next_value_with-4
read_own_list-returns-in-Err-next_value_with-4 g t c =
    let r = c.loop-fields.invariant in
    let k = c.in-Ok-Some.ensures in
    let x = rw c.in-Ok-Some.field-0-is at (k.some r.still) in
    let below : c.in-Ok-Some.field-0-0 < 4 = subst (λ z. c.in-Ok-Some.field-0-0 < length z) (ap (λ z. bytes_of z.now) r.same.names ∙ r.names_same) x.below in
    let p = subst (TakesPlace g.R.Source c.loop-fields.fields c.next_field_by.new.self) (omega (arith, c.in-Ok-Some.field-0-0-test, below)) x in
    let q = c.in-Err-next_value_with-4.ensures in
    let failed = field_refused g.R.Source _ _ c.next_field_by.new.self c.next_value_with-in-Ok-Some.new.self p.still OwnListSlot3 q.same
    (λ d rest gave l y. lent_law g.R.Source _ _ OwnListSlot3 (λ a b n h. h) d rest gave y) _ (q.part p.still) p.owes (q.marked p.still.marked) in
    record {
      law = lawful_err _ OwnListRead _ _ _ _ own_list_read
          (struct_value g.R.Source own_list_names OwnListHeld0 (OwnListFields IsOwnList) _ c.in-Ok.fields c.in-Ok.ensures.opened _ _ c.loop-fields.fields r
          c.next_field_by.new.self
          c.next_value_with-in-Ok-Some.new.self 3 OwnListSlot3 _ p k.same k.same_reference failed
          (grind (
            arith,
            sym (q.same_reference ∙ k.same_reference ∙ run_reference g.R.Source own_list_names OwnListHeld0 _ _ _ r
                ∙ c.in-Ok.ensures.same_reference),
          ))
          (λ fs v m h e. ((out-OwnList v).places, own_list_tree3 fs v m h e)));
    }

pub read_own_list-next_value_with-requires-in-Ok-Some-clause-part : goal.read_own_list-next_value_with-requires-in-Ok-Some-clause-part
read_own_list-next_value_with-requires-in-Ok-Some-clause-part g t c = λ s d l p q.
    let same = same_then c.in-Ok.fields c.loop-fields.fields c.next_field_by.new.self c.loop-fields.invariant.same c.in-Ok-Some.ensures.same in
    let h = field_steps g.R.Source own_list_names c.args.de.now c.in-Ok.fields c.next_field_by.new.self c.in-Ok.ensures.opened same d l in
    let e : steps_at p.now ≡ steps_at d = ap steps_at q in
    (omega (arith, h, e, c.decreases), ((λ a m. m), ((λ a m. m), (λ a m. m))))

pub read_own_list-returns-in-Err-next_field_by : goal.read_own_list-returns-in-Err-next_field_by
read_own_list-returns-in-Err-next_field_by g t c =
    let r = c.loop-fields.invariant in
    record {
      law = lawful_err _ OwnListRead _ _ _ _ own_list_read
          (struct_place g.R.Source own_list_names OwnListHeld0 (OwnListFields IsOwnList) _ c.in-Ok.fields c.in-Ok.ensures.opened _ _ c.loop-fields.fields r
          _ _ c.next_field_by.new.self _
          (c.in-Err-next_field_by.ensures.err r.still) (grind (
            arith,
            sym (c.in-Err-next_field_by.ensures.same_reference ∙ run_reference g.R.Source own_list_names OwnListHeld0 _ _ _ r
                ∙ c.in-Ok.ensures.same_reference),
          )));
    }

pub read_own_list-returns-in-Err-given_or : goal.read_own_list-returns-in-Err-given_or
read_own_list-returns-in-Err-given_or g t c =
    let r = c.loop-fields.invariant in
    let k = c.in-Ok-None.ensures in
    let d = struct_met g.R.Source own_list_names OwnListHeld0 c.in-Ok.fields c.loop-fields.fields c.next_field_by.new.self
    (c.loop-fields.slot0, (c.loop-fields.slot1, (c.loop-fields.slot2, (c.loop-fields.slot3, tt)))) r
    (rw c.in-Ok-None.field-0-is at (k.none r.still)) k.same k.same_reference in
    let same : c.next_field_by.new.self ≡ c.next_field_by.new.self = refl in
    let e = c.in-Err-given_or.ensures.err (ap (λ a. a.sound) same ∙ d.run.still.sound) in
    record {
      law = lawful_err _ OwnListRead _ _ _ _ own_list_read
          (struct_missing g.R.Source own_list_names OwnListHeld0 (OwnListFields IsOwnList) _ c.in-Ok.fields c.in-Ok.ensures.opened _ _
          c.next_field_by.new.self d _
          (via c.given_or.new.self.de.now (grind (
            arith,
            sym
                (c.in-Err-given_or.ensures.same_reference ∙ ap (λ a. a.de.ghost_name) same ∙ k.same_reference
                ∙ run_reference g.R.Source own_list_names OwnListHeld0 _ _ _ r ∙ c.in-Ok.ensures.same_reference),
          ))
          (ap (λ a. a.de.now) e.3 ∙ ap (λ a. a.de.now) same))
          (own_list_gap0 (c.loop-fields.slot0, (c.loop-fields.slot1, (c.loop-fields.slot2, (c.loop-fields.slot3, tt)))) e.0)
          (λ m fs v h q. not_missing (e.2 (ap (λ a. a.is_map) same ∙ d.run.same.is_map ∙ m))));
    }

pub read_own_list-returns-in-Err-given_or-2 : goal.read_own_list-returns-in-Err-given_or-2
read_own_list-returns-in-Err-given_or-2 g t c =
    let r = c.loop-fields.invariant in
    let k = c.in-Ok-None.ensures in
    let d = struct_met g.R.Source own_list_names OwnListHeld0 c.in-Ok.fields c.loop-fields.fields c.next_field_by.new.self
    (c.loop-fields.slot0, (c.loop-fields.slot1, (c.loop-fields.slot2, (c.loop-fields.slot3, tt)))) r
    (rw c.in-Ok-None.field-0-is at (k.none r.still)) k.same k.same_reference in
    let same : c.given_or.new.self ≡ c.next_field_by.new.self = c.in-Ok-given_or.ensures.ok.1 in
    let e = c.in-Err-given_or-2.ensures.err (ap (λ a. a.sound) same ∙ d.run.still.sound) in
    record {
      law = lawful_err _ OwnListRead _ _ _ _ own_list_read
          (struct_missing g.R.Source own_list_names OwnListHeld0 (OwnListFields IsOwnList) _ c.in-Ok.fields c.in-Ok.ensures.opened _ _
          c.next_field_by.new.self d _
          (via c.given_or-2.new.self.de.now (grind (
            arith,
            sym
                (c.in-Err-given_or-2.ensures.same_reference ∙ ap (λ a. a.de.ghost_name) same ∙ k.same_reference
                ∙ run_reference g.R.Source own_list_names OwnListHeld0 _ _ _ r ∙ c.in-Ok.ensures.same_reference),
          ))
          (ap (λ a. a.de.now) e.3 ∙ ap (λ a. a.de.now) same))
          (own_list_gap1 (c.loop-fields.slot0, (c.loop-fields.slot1, (c.loop-fields.slot2, (c.loop-fields.slot3, tt)))) e.0)
          (λ m fs v h q. not_missing (e.2 (ap (λ a. a.is_map) same ∙ d.run.same.is_map ∙ m))));
    }

pub read_own_list-returns-in-Err-given_or-3 : goal.read_own_list-returns-in-Err-given_or-3
read_own_list-returns-in-Err-given_or-3 g t c =
    let r = c.loop-fields.invariant in
    let k = c.in-Ok-None.ensures in
    let d = struct_met g.R.Source own_list_names OwnListHeld0 c.in-Ok.fields c.loop-fields.fields c.next_field_by.new.self
    (c.loop-fields.slot0, (c.loop-fields.slot1, (c.loop-fields.slot2, (c.loop-fields.slot3, tt)))) r
    (rw c.in-Ok-None.field-0-is at (k.none r.still)) k.same k.same_reference in
    let same : c.given_or-2.new.self ≡ c.next_field_by.new.self = c.in-Ok-given_or-2.ensures.ok.1 ∙ c.in-Ok-given_or.ensures.ok.1 in
    let e = c.in-Err-given_or-3.ensures.err (ap (λ a. a.sound) same ∙ d.run.still.sound) in
    record {
      law = lawful_err _ OwnListRead _ _ _ _ own_list_read
          (struct_missing g.R.Source own_list_names OwnListHeld0 (OwnListFields IsOwnList) _ c.in-Ok.fields c.in-Ok.ensures.opened _ _
          c.next_field_by.new.self d _
          (via c.given_or-3.new.self.de.now (grind (
            arith,
            sym
                (c.in-Err-given_or-3.ensures.same_reference ∙ ap (λ a. a.de.ghost_name) same ∙ k.same_reference
                ∙ run_reference g.R.Source own_list_names OwnListHeld0 _ _ _ r ∙ c.in-Ok.ensures.same_reference),
          ))
          (ap (λ a. a.de.now) e.3 ∙ ap (λ a. a.de.now) same))
          (own_list_gap2 (c.loop-fields.slot0, (c.loop-fields.slot1, (c.loop-fields.slot2, (c.loop-fields.slot3, tt)))) e.0)
          (λ m fs v h q. not_missing (e.2 (ap (λ a. a.is_map) same ∙ d.run.same.is_map ∙ m))));
    }

pub read_own_list-returns-in-Err-given_or-4 : goal.read_own_list-returns-in-Err-given_or-4
read_own_list-returns-in-Err-given_or-4 g t c =
    let r = c.loop-fields.invariant in
    let k = c.in-Ok-None.ensures in
    let d = struct_met g.R.Source own_list_names OwnListHeld0 c.in-Ok.fields c.loop-fields.fields c.next_field_by.new.self
    (c.loop-fields.slot0, (c.loop-fields.slot1, (c.loop-fields.slot2, (c.loop-fields.slot3, tt)))) r
    (rw c.in-Ok-None.field-0-is at (k.none r.still)) k.same k.same_reference in
    let same : c.given_or-3.new.self ≡ c.next_field_by.new.self = c.in-Ok-given_or-3.ensures.ok.1 ∙ c.in-Ok-given_or-2.ensures.ok.1
    ∙ c.in-Ok-given_or.ensures.ok.1 in
    let e = c.in-Err-given_or-4.ensures.err (ap (λ a. a.sound) same ∙ d.run.still.sound) in
    record {
      law = lawful_err _ OwnListRead _ _ _ _ own_list_read
          (struct_missing g.R.Source own_list_names OwnListHeld0 (OwnListFields IsOwnList) _ c.in-Ok.fields c.in-Ok.ensures.opened _ _
          c.next_field_by.new.self d _
          (via c.given_or-4.new.self.de.now (grind (
            arith,
            sym
                (c.in-Err-given_or-4.ensures.same_reference ∙ ap (λ a. a.de.ghost_name) same ∙ k.same_reference
                ∙ run_reference g.R.Source own_list_names OwnListHeld0 _ _ _ r ∙ c.in-Ok.ensures.same_reference),
          ))
          (ap (λ a. a.de.now) e.3 ∙ ap (λ a. a.de.now) same))
          (own_list_gap3 (c.loop-fields.slot0, (c.loop-fields.slot1, (c.loop-fields.slot2, (c.loop-fields.slot3, tt)))) e.0)
          (λ m fs v h q. own_list_lacks3 (c.loop-fields.slot0, (c.loop-fields.slot1, (c.loop-fields.slot2, (c.loop-fields.slot3, tt)))) e.0 fs v h q));
    }

pub read_own_list-returns-in-Ok-end : goal.read_own_list-returns-in-Ok-end
read_own_list-returns-in-Ok-end g t c =
    let r = c.loop-fields.invariant in
    let k = c.in-Ok-None.ensures in
    let d = struct_met g.R.Source own_list_names OwnListHeld0 c.in-Ok.fields c.loop-fields.fields c.next_field_by.new.self
    (c.loop-fields.slot0, (c.loop-fields.slot1, (c.loop-fields.slot2, (c.loop-fields.slot3, tt)))) r
    (rw c.in-Ok-None.field-0-is at (k.none r.still)) k.same k.same_reference in
    let last = c.in-Ok-given_or-4.ensures.ok.1 ∙ c.in-Ok-given_or-3.ensures.ok.1 ∙ c.in-Ok-given_or-2.ensures.ok.1 ∙ c.in-Ok-given_or.ensures.ok.1 in
    let e = c.in-Ok-end.ensures.ok (subst IsStructOpen (sym last) d.run.still) in
    (record {
      law = lawful_ok _ OwnListRead IsOwnList _ _ _ _ (own_list_made _)
          (struct_done g.R.Source own_list_names OwnListHeld0 (OwnListFields IsOwnList) _ c.in-Ok.fields c.in-Ok.ensures.opened _ _ c.next_field_by.new.self
          d _ (λ fs h. subst (λ z. OwnListFrom0 IsOwnList z fs) (sym (out-roll-OwnList _))
          (own_list_whole (c.loop-fields.slot0, (c.loop-fields.slot1, (c.loop-fields.slot2, (c.loop-fields.slot3, tt))))
          (record {
            times = c.in-Ok-given_or.value;
            next = c.in-Ok-given_or-2.value;
            below = c.in-Ok-given_or-3.value;
            places = c.in-Ok-given_or-4.value;
          }) c.in-Ok-given_or.ensures.ok.0 c.in-Ok-given_or-2.ensures.ok.0 c.in-Ok-given_or-3.ensures.ok.0
          c.in-Ok-given_or-4.ensures.ok.0 fs h))
          (ap (λ a. a.left) (sym last) ∙ e.0)
          (via c.end.new.self.0 (grind (
            arith,
            sym (ap (λ a. a.de.ghost_name) last ∙ k.same_reference
                ∙ run_reference g.R.Source own_list_names OwnListHeld0 _ _ _ r ∙ c.in-Ok.ensures.same_reference),
          ))
          (e.1 ∙ ap (λ a. record a.de.now { failed = false }) last)));
    })

pub read_own_list-returns-in-Err-end : goal.read_own_list-returns-in-Err-end
read_own_list-returns-in-Err-end g t c =
    let r = c.loop-fields.invariant in
    let k = c.in-Ok-None.ensures in
    let d = struct_met g.R.Source own_list_names OwnListHeld0 c.in-Ok.fields c.loop-fields.fields c.next_field_by.new.self
    (c.loop-fields.slot0, (c.loop-fields.slot1, (c.loop-fields.slot2, (c.loop-fields.slot3, tt)))) r
    (rw c.in-Ok-None.field-0-is at (k.none r.still)) k.same k.same_reference in
    let last = c.in-Ok-given_or-4.ensures.ok.1 ∙ c.in-Ok-given_or-3.ensures.ok.1 ∙ c.in-Ok-given_or-2.ensures.ok.1 ∙ c.in-Ok-given_or.ensures.ok.1 in
    let e = c.in-Err-end.ensures.err (subst IsStructOpen (sym last) d.run.still) in
    record {
      law = lawful_err _ OwnListRead _ _ _ _ own_list_read
          (struct_over g.R.Source own_list_names OwnListHeld0 (OwnListFields IsOwnList) _ c.in-Ok.fields c.in-Ok.ensures.opened _ _ c.next_field_by.new.self d _
          (subst (λ a. 0 < a.left) last e.0)
          (via c.end.new.self.0 (grind (
            arith,
            sym (ap (λ a. a.de.ghost_name) last ∙ k.same_reference
                ∙ run_reference g.R.Source own_list_names OwnListHeld0 _ _ _ r ∙ c.in-Ok.ensures.same_reference),
          )) (e.1 ∙ ap (λ a. a.de.now) last)));
    }

pub read_own_list_option-returns : goal.read_own_list_option-returns
read_own_list_option-returns g t c = record {
  law = option_law g.R.Source (Boxed IsOwnList) _ _ _ _ (λ p q r h. h) _ c.deserialize_option_with.ensures;
}

pub read_own_list_option-deserialize_option_with-requires : goal.read_own_list_option-deserialize_option_with-requires
read_own_list_option-deserialize_option_with-requires g t c = λ f d s p q.
    let h = other_steps g.R.Source c.args.de.now d s in
    let e : steps_at p.now ≡ steps_at d = ap steps_at q in
    (omega (arith, h, e, c.decreases), ((λ a m. m), ((λ a m. m), (λ a m. m))))

pub read_own_list_list_option-returns : goal.read_own_list_list_option-returns
read_own_list_list_option-returns g t c = record {
  law = option_law g.R.Source (λ (j : Msg) (q : Vec OwnList Global). Row IsOwnList j q.items) _ _ _ _ (λ p q r h. h) _ c.deserialize_option_with.ensures;
}

pub read_own_list_list_option-deserialize_option_with-requires : goal.read_own_list_list_option-deserialize_option_with-requires
read_own_list_list_option-deserialize_option_with-requires g t c = λ f d s p q.
    let h = other_steps g.R.Source c.args.de.now d s in
    let e : steps_at p.now ≡ steps_at d = ap steps_at q in
    (omega (arith, h, e, c.decreases), ((λ a m. m), ((λ a m. m), (λ a m. m))))

pub read_own_list_list-returns-in_err-seq : goal.read_own_list_list-returns-in_err-seq
read_own_list_list-returns-in_err-seq g t c =
    let p = err_from_is_err_and c.from_residual.result c.from_residual.ensures.1 in
    rw (p.1, p.2) (record {
      law = lawful_err _ (Row IsOwnList) _ _ _ _ (vec_row IsOwnList)
          (row_unopened g.R.Source IsOwnList _ _ _ (rw c.in_err-seq.was at c.deserialize_seq.follows.holds-at-none));
    })

pub read_own_list_list-loop-items-init : goal.read_own_list_list-loop-items-init
read_own_list_list-loop-items-init g t c =
    rw c.new-items.ensures.items (values_start g.R.Source IsOwnList c.in_ok-seq.seq c.in_ok-seq.ensures.opened.opened)

pub read_own_list_list-next_element_with-requires : goal.read_own_list_list-next_element_with-requires
read_own_list_list-next_element_with-requires g t c =
    λ s some d l p q.
    let h = part_steps g.R.Source c.args.de.now c.in_ok-seq.seq c.loop-items.seq _ c.in_ok-seq.ensures.opened c.loop-items.invariant.run d l in
    let e : steps_at p.now ≡ steps_at d = ap steps_at q in
    (omega (arith, h, e, c.decreases), ((λ a m. m), ((λ a m. m), (λ a m. m))))

pub read_own_list_list-returns-in_err-item : goal.read_own_list_list-returns-in_err-item
read_own_list_list-returns-in_err-item g t c =
    let p = err_from_is_err_and c.from_residual-in_err-item.result c.from_residual-in_err-item.ensures.1 in
    let r = c.loop-items.invariant in
    let e = c.in_err-item.ensures in
    let some = some_if_err c.loop-items.seq.left _ (e.none r.run.still.sound) in
    let f = item_refused g.R.Source IsOwnList c.loop-items.seq c.next_element_with.new.self r.run.still e.list (λ p q r h. h) _ some
    (e.part r.run.still.sound some) in
    rw (p.1, p.2) (record {
      law = lawful_err _ (Row IsOwnList) _ _ _ _ (vec_row IsOwnList)
          (row_refused g.R.Source IsOwnList _ c.in_ok-seq.seq c.loop-items.seq c.loop-items.items.items c.in_ok-seq.ensures.opened r _
          c.next_element_with.new.self _ f (e.marked r.run.still.marked) (search rules));
    })

pub read_own_list_list-loop-items-preserved : goal.read_own_list_list-loop-items-preserved
read_own_list_list-loop-items-preserved g t c =
    let r = c.loop-items.invariant in
    let e = c.in_ok-item.ensures in
    let is = c.in-Some.is in
    let some = some_if c.loop-items.seq.left c.in-Some.item _ is (e.none r.run.still.sound) in
    let k = item_taken g.R.Source IsOwnList c.loop-items.seq c.next_element_with.new.self r.run.still e.list (λ p q r h. h) c.in-Some.item
    (rw is at (e.part r.run.still.sound some)) e.still in
    rw c.in_ok-push.ensures.items (values_step g.R.Source IsOwnList c.in_ok-seq.seq c.loop-items.seq c.next_element_with.new.self c.loop-items.items.items
    c.in-Some.item r k e.same_reference)

pub read_own_list_list-returns : goal.read_own_list_list-returns
read_own_list_list-returns g t c =
    let r = c.loop-items.invariant in
    let e = c.in_ok-item.ensures in
    let z = none_left c.loop-items.seq.left (λ l. never_none g.R.Source c.loop-items.seq c.next_element_with.new.self
    (rw c.in_default.is at (e.part r.run.still.sound l))) in
    let n = (e.none r.run.still.sound z).1 in
    let d = (c.in_ok-end.ensures.ok (subst IsOpen (sym n) r.run.still)).1 in
    record {
      law = vec_done g.R.Source IsOwnList _ c.in_ok-seq.seq c.loop-items.seq c.loop-items.items c.in_ok-seq.ensures.opened r _ z
          (via c.end.new.self.0 (search rules) (d ∙ ap (λ s. record s.de.now { failed = false }) n));
    }

pub read_own_list_list-returns-in_err-push : goal.read_own_list_list-returns-in_err-push
read_own_list_list-returns-in_err-push g t c =
    let p = err_from_is_err_and c.from_residual-in_err-push.result c.from_residual-in_err-push.ensures.1 in
    rw (p.1, p.2) (record {
      law = lawful_at g.R.Source _ _ _ c.next_element_with.new.self.de.now _
          (let same = sym c.in_ok-seq.ensures.same_reference ∙ sym c.loop-items.invariant.run.same_reference ∙ sym c.in_ok-item.ensures.same_reference
          in search rules) (
          let r = c.loop-items.invariant in
          let e = c.in_ok-item.ensures in
          let is = c.in-Some.is in
          let some = some_if c.loop-items.seq.left c.in-Some.item _ is (e.none r.run.still.sound) in
          let k = item_taken g.R.Source IsOwnList c.loop-items.seq c.next_element_with.new.self r.run.still e.list (λ p q r h. h) c.in-Some.item
          (rw is at (e.part r.run.still.sound some)) e.still in
          let v = values_step g.R.Source IsOwnList c.in_ok-seq.seq c.loop-items.seq c.next_element_with.new.self c.loop-items.items.items c.in-Some.item r k
          e.same_reference in
          lawful_err _ (Row IsOwnList) _ _ _ _ (vec_row IsOwnList)
          (row_unkept g.R.Source IsOwnList _ c.in_ok-seq.seq c.next_element_with.new.self _ c.in_ok-seq.ensures.opened v _ refl));
    })

pub read_own_list_list-returns-in_err-end : goal.read_own_list_list-returns-in_err-end
read_own_list_list-returns-in_err-end g t c =
    let r = c.loop-items.invariant in
    let e = c.in_ok-item.ensures in
    let z = none_left c.loop-items.seq.left (λ l. never_none g.R.Source c.loop-items.seq c.next_element_with.new.self
    (rw c.in_default.is at (e.part r.run.still.sound l))) in
    let n = (e.none r.run.still.sound z).1 in
    let d = (c.in_err-end.ensures.err (subst IsOpen (sym n) r.run.still)).0 in
    absurd (omega (arith, z, d, ap (λ s. s.left) n))

pub read_own_list_option_list-returns-in_err-seq : goal.read_own_list_option_list-returns-in_err-seq
read_own_list_option_list-returns-in_err-seq g t c =
    let p = err_from_is_err_and c.from_residual.result c.from_residual.ensures.1 in
    rw (p.1, p.2) (record {
      law = lawful_err _ (Row (λ (j : Msg) (q : Option (Box OwnList Global)). IsOption (Boxed IsOwnList) j q)) _ _ _ _
          (vec_row (λ (j : Msg) (q : Option (Box OwnList Global)). IsOption (Boxed IsOwnList) j q))
          (row_unopened g.R.Source (λ (j : Msg) (q : Option (Box OwnList Global)). IsOption (Boxed IsOwnList) j q) _ _ _
          (rw c.in_err-seq.was at c.deserialize_seq.follows.holds-at-none));
    })

pub read_own_list_option_list-loop-items-init : goal.read_own_list_option_list-loop-items-init
read_own_list_option_list-loop-items-init g t c =
    rw c.new-items.ensures.items (values_start g.R.Source (λ (j : Msg) (q : Option (Box OwnList Global)). IsOption (Boxed IsOwnList) j q) c.in_ok-seq.seq
    c.in_ok-seq.ensures.opened.opened)

pub read_own_list_option_list-next_element_with-requires : goal.read_own_list_option_list-next_element_with-requires
read_own_list_option_list-next_element_with-requires g t c =
    λ s some d l p q.
    let h = part_steps g.R.Source c.args.de.now c.in_ok-seq.seq c.loop-items.seq _ c.in_ok-seq.ensures.opened c.loop-items.invariant.run d l in
    let e : steps_at p.now ≡ steps_at d = ap steps_at q in
    (omega (arith, h, e, c.decreases), ((λ a m. m), ((λ a m. m), (λ a m. m))))

pub read_own_list_option_list-returns-in_err-item : goal.read_own_list_option_list-returns-in_err-item
read_own_list_option_list-returns-in_err-item g t c =
    let p = err_from_is_err_and c.from_residual-in_err-item.result c.from_residual-in_err-item.ensures.1 in
    let r = c.loop-items.invariant in
    let e = c.in_err-item.ensures in
    let some = some_if_err c.loop-items.seq.left _ (e.none r.run.still.sound) in
    let f = item_refused g.R.Source (λ (j : Msg) (q : Option (Box OwnList Global)). IsOption (Boxed IsOwnList) j q) c.loop-items.seq
    c.next_element_with.new.self r.run.still e.list (λ p q r h. h) _ some
    (e.part r.run.still.sound some) in
    rw (p.1, p.2) (record {
      law = lawful_err _ (Row (λ (j : Msg) (q : Option (Box OwnList Global)). IsOption (Boxed IsOwnList) j q)) _ _ _ _
          (vec_row (λ (j : Msg) (q : Option (Box OwnList Global)). IsOption (Boxed IsOwnList) j q))
          (row_refused g.R.Source (λ (j : Msg) (q : Option (Box OwnList Global)). IsOption (Boxed IsOwnList) j q) _ c.in_ok-seq.seq c.loop-items.seq
          c.loop-items.items.items c.in_ok-seq.ensures.opened r _
          c.next_element_with.new.self _ f (e.marked r.run.still.marked) (search rules));
    })

pub read_own_list_option_list-loop-items-preserved : goal.read_own_list_option_list-loop-items-preserved
read_own_list_option_list-loop-items-preserved g t c =
    let r = c.loop-items.invariant in
    let e = c.in_ok-item.ensures in
    let is = c.in-Some.is in
    let some = some_if c.loop-items.seq.left c.in-Some.item _ is (e.none r.run.still.sound) in
    let k = item_taken g.R.Source (λ (j : Msg) (q : Option (Box OwnList Global)). IsOption (Boxed IsOwnList) j q) c.loop-items.seq
    c.next_element_with.new.self r.run.still e.list (λ p q r h. h) c.in-Some.item
    (rw is at (e.part r.run.still.sound some)) e.still in
    rw c.in_ok-push.ensures.items (values_step g.R.Source (λ (j : Msg) (q : Option (Box OwnList Global)). IsOption (Boxed IsOwnList) j q) c.in_ok-seq.seq
    c.loop-items.seq c.next_element_with.new.self c.loop-items.items.items c.in-Some.item r k e.same_reference)

pub read_own_list_option_list-returns : goal.read_own_list_option_list-returns
read_own_list_option_list-returns g t c =
    let r = c.loop-items.invariant in
    let e = c.in_ok-item.ensures in
    let z = none_left c.loop-items.seq.left (λ l. never_none g.R.Source c.loop-items.seq c.next_element_with.new.self
    (rw c.in_default.is at (e.part r.run.still.sound l))) in
    let n = (e.none r.run.still.sound z).1 in
    let d = (c.in_ok-end.ensures.ok (subst IsOpen (sym n) r.run.still)).1 in
    record {
      law = vec_done g.R.Source (λ (j : Msg) (q : Option (Box OwnList Global)). IsOption (Boxed IsOwnList) j q) _ c.in_ok-seq.seq c.loop-items.seq
          c.loop-items.items c.in_ok-seq.ensures.opened r _ z
          (via c.end.new.self.0 (search rules) (d ∙ ap (λ s. record s.de.now { failed = false }) n));
    }

pub read_own_list_option_list-returns-in_err-push : goal.read_own_list_option_list-returns-in_err-push
read_own_list_option_list-returns-in_err-push g t c =
    let p = err_from_is_err_and c.from_residual-in_err-push.result c.from_residual-in_err-push.ensures.1 in
    rw (p.1, p.2) (record {
      law = lawful_at g.R.Source _ _ _ c.next_element_with.new.self.de.now _
          (let same = sym c.in_ok-seq.ensures.same_reference ∙ sym c.loop-items.invariant.run.same_reference ∙ sym c.in_ok-item.ensures.same_reference
          in search rules) (
          let r = c.loop-items.invariant in
          let e = c.in_ok-item.ensures in
          let is = c.in-Some.is in
          let some = some_if c.loop-items.seq.left c.in-Some.item _ is (e.none r.run.still.sound) in
          let k = item_taken g.R.Source (λ (j : Msg) (q : Option (Box OwnList Global)). IsOption (Boxed IsOwnList) j q) c.loop-items.seq
          c.next_element_with.new.self r.run.still e.list (λ p q r h. h) c.in-Some.item
          (rw is at (e.part r.run.still.sound some)) e.still in
          let v = values_step g.R.Source (λ (j : Msg) (q : Option (Box OwnList Global)). IsOption (Boxed IsOwnList) j q) c.in_ok-seq.seq c.loop-items.seq
          c.next_element_with.new.self c.loop-items.items.items c.in-Some.item r k e.same_reference in
          lawful_err _ (Row (λ (j : Msg) (q : Option (Box OwnList Global)). IsOption (Boxed IsOwnList) j q)) _ _ _ _
          (vec_row (λ (j : Msg) (q : Option (Box OwnList Global)). IsOption (Boxed IsOwnList) j q))
          (row_unkept g.R.Source (λ (j : Msg) (q : Option (Box OwnList Global)). IsOption (Boxed IsOwnList) j q) _ c.in_ok-seq.seq
          c.next_element_with.new.self _ c.in_ok-seq.ensures.opened v _ refl));
    })

pub read_own_list_option_list-returns-in_err-end : goal.read_own_list_option_list-returns-in_err-end
read_own_list_option_list-returns-in_err-end g t c =
    let r = c.loop-items.invariant in
    let e = c.in_ok-item.ensures in
    let z = none_left c.loop-items.seq.left (λ l. never_none g.R.Source c.loop-items.seq c.next_element_with.new.self
    (rw c.in_default.is at (e.part r.run.still.sound l))) in
    let n = (e.none r.run.still.sound z).1 in
    let d = (c.in_err-end.ensures.err (subst IsOpen (sym n) r.run.still)).0 in
    absurd (omega (arith, z, d, ap (λ s. s.left) n))

pub read_own_list_box-returns-in-Err : goal.read_own_list_box-returns-in-Err
read_own_list_box-returns-in-Err g t c = record {
  law = lawful_err _ _ _ _ _ _ (λ m r. (r.0.value, r.1)) c.in-Err.ensures.law;
}
