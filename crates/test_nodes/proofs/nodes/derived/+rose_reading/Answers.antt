use Rattle.std.proofs.Common.{◌≡◌, ◌∙◌, refl, sym, ap, subst, None, Some, rules, arith, false, length}
use Rattle.std.specs.Prelude.{◌<◌}
use Rattle.rmp_decode.specs.Seq.{IsOpen}
use Rattle.rmp_recursive.specs.Parts.{Row}
use Rattle.test_nodes.specs.declared.nodes.Rose.{out-Rose}
use Rattle.test_nodes.specs.declared.nodes.Rose.TheViews.{out-roll-Rose}
use Rattle.test_nodes.specs.RoseLevels.{IsRose, RoseFields, RoseRead, RoseFrom0, rose_names, rose_made, rose_read}
use Rattle.std.proofs.lemmas.Result.{err_from_is_err_and}
use Rattle.rmp_decode.proofs.Laws.{lawful_ok, lawful_err}
use Rattle.rmp_decode.proofs.Seqs.{values_start, values_step, via}
use Rattle.rmp_decode.specs.FieldAccess.{IsStructOpen, TakesPlace}
use Rattle.rmp_decode.specs.Names.{bytes_of}
use Rattle.rmp_decode.proofs.FieldWiths.{field_taken, field_refused}
use Rattle.rmp_decode.proofs.StructRuns.{struct_start, struct_step, struct_place, struct_value, struct_met, struct_missing, struct_over, struct_done}
use Rattle.rmp_decode.proofs.Structs.{fields_unopened}
use Rattle.rmp_recursive.proofs.Fields.{same_then, field_steps, run_reference}
use Rattle.test_nodes.proofs.RoseLevels.{RoseHeld0, rose_whole, RoseSlot0, rose_tree0, rose_step0, rose_gap0, rose_lacks0}
use Rattle.rmp_recursive.proofs.Parts.{
  vec_row,
  vec_done,
  row_unopened,
  row_refused,
  row_unkept,
  part_steps,
  steps_at,
  lawful_at,
  lent_law,
  item_taken,
  item_refused,
  some_if,
  some_if_err,
  none_left,
  never_none,
}
use Rattle.test_nodes.proofs.nodes.derived.+rose_reading.Goals as goal

pub read_rose-returns-in-Err : goal.read_rose-returns-in-Err
read_rose-returns-in-Err g t c = record {
  law = lawful_err _ RoseRead _ _ _ _ rose_read
      (fields_unopened g.R.Source rose_names (RoseFields IsRose) _ _ _ (rw c.in-Err.is at c.deserialize_struct.follows.holds-at-none));
}

pub read_rose-loop-fields-init : goal.read_rose-loop-fields-init
read_rose-loop-fields-init g t c = struct_start g.R.Source rose_names RoseHeld0 _ c.in-Ok.fields (None, tt) c.in-Ok.ensures.opened (refl, tt)

pub read_rose-loop-fields-preserved : goal.read_rose-loop-fields-preserved
read_rose-loop-fields-preserved g t c =
    let r = c.loop-fields.invariant in
    let k = c.in-Ok-Some.ensures in
    let x = rw c.in-Ok-Some.field-0-is at (k.some r.still) in
    let below : c.in-Ok-Some.field-0-0 < 1 = subst (λ z. c.in-Ok-Some.field-0-0 < length z) (ap (λ z. bytes_of z.now) r.same.names ∙ r.names_same) x.below in
    let p = subst (TakesPlace g.R.Source c.loop-fields.fields c.next_field_by.new.self) (omega (arith, below)) x in
    let q = c.in-Ok-next_value_with.ensures in
    let took = field_taken g.R.Source _ _ c.next_field_by.new.self c.next_value_with.new.self p.still RoseSlot0 q.same
    (λ d rest gave l y. lent_law g.R.Source _ _ RoseSlot0 (λ a b n h. h) d rest gave y) c.in-Ok-next_value_with.value (q.part p.still) q.owes q.still in
    (struct_step g.R.Source rose_names RoseHeld0 c.in-Ok.fields c.loop-fields.fields c.next_field_by.new.self c.next_value_with.new.self
    (c.loop-fields.slot0, tt)
    ((Some c.in-Ok-next_value_with.value), tt) 0 RoseSlot0 c.in-Ok-next_value_with.value r p k.same k.same_reference took q.same q.same_reference
    (rose_step0 (c.loop-fields.slot0, tt) c.in-Ok-next_value_with.value))

pub read_rose-returns-in-Err-next_value_with : goal.read_rose-returns-in-Err-next_value_with
read_rose-returns-in-Err-next_value_with g t c =
    let r = c.loop-fields.invariant in
    let k = c.in-Ok-Some.ensures in
    let x = rw c.in-Ok-Some.field-0-is at (k.some r.still) in
    let below : c.in-Ok-Some.field-0-0 < 1 = subst (λ z. c.in-Ok-Some.field-0-0 < length z) (ap (λ z. bytes_of z.now) r.same.names ∙ r.names_same) x.below in
    let p = subst (TakesPlace g.R.Source c.loop-fields.fields c.next_field_by.new.self) (omega (arith, below)) x in
    let q = c.in-Err-next_value_with.ensures in
    let failed = field_refused g.R.Source _ _ c.next_field_by.new.self c.next_value_with.new.self p.still RoseSlot0 q.same
    (λ d rest gave l y. lent_law g.R.Source _ _ RoseSlot0 (λ a b n h. h) d rest gave y) _ (q.part p.still) p.owes (q.marked p.still.marked) in
    record {
      law = lawful_err _ RoseRead _ _ _ _ rose_read
          (struct_value g.R.Source rose_names RoseHeld0 (RoseFields IsRose) _ c.in-Ok.fields c.in-Ok.ensures.opened _ _ c.loop-fields.fields r
          c.next_field_by.new.self
          c.next_value_with.new.self 0 RoseSlot0 _ p k.same k.same_reference failed
          (grind (arith, sym (q.same_reference ∙ k.same_reference ∙ run_reference g.R.Source rose_names RoseHeld0 _ _ _ r ∙ c.in-Ok.ensures.same_reference)))
          (λ fs v m h e. ((out-Rose v).kids, rose_tree0 fs v m h e)));
    }

pub read_rose-next_value_with-requires-clause-part : goal.read_rose-next_value_with-requires-clause-part
read_rose-next_value_with-requires-clause-part g t c = λ s d l p q.
    let same = same_then c.in-Ok.fields c.loop-fields.fields c.next_field_by.new.self c.loop-fields.invariant.same c.in-Ok-Some.ensures.same in
    let h = field_steps g.R.Source rose_names c.args.de.now c.in-Ok.fields c.next_field_by.new.self c.in-Ok.ensures.opened same d l in
    let e : steps_at p.now ≡ steps_at d = ap steps_at q in
    (omega (arith, h, e, c.decreases), ((λ a m. m), ((λ a m. m), (λ a m. m))))

pub read_rose-returns-in-Err-next_field_by : goal.read_rose-returns-in-Err-next_field_by
read_rose-returns-in-Err-next_field_by g t c =
    let r = c.loop-fields.invariant in
    record {
      law = lawful_err _ RoseRead _ _ _ _ rose_read
          (struct_place g.R.Source rose_names RoseHeld0 (RoseFields IsRose) _ c.in-Ok.fields c.in-Ok.ensures.opened _ _ c.loop-fields.fields r _ _
          c.next_field_by.new.self _
          (c.in-Err-next_field_by.ensures.err r.still) (grind (
            arith,
            sym (c.in-Err-next_field_by.ensures.same_reference ∙ run_reference g.R.Source rose_names RoseHeld0 _ _ _ r
                ∙ c.in-Ok.ensures.same_reference),
          )));
    }

pub read_rose-returns-in-Err-given_or : goal.read_rose-returns-in-Err-given_or
read_rose-returns-in-Err-given_or g t c =
    let r = c.loop-fields.invariant in
    let k = c.in-Ok-None.ensures in
    let d = struct_met g.R.Source rose_names RoseHeld0 c.in-Ok.fields c.loop-fields.fields c.next_field_by.new.self (c.loop-fields.slot0, tt) r
    (rw c.in-Ok-None.field-0-is at (k.none r.still)) k.same k.same_reference in
    let same : c.next_field_by.new.self ≡ c.next_field_by.new.self = refl in
    let e = c.in-Err-given_or.ensures.err (ap (λ a. a.sound) same ∙ d.run.still.sound) in
    record {
      law = lawful_err _ RoseRead _ _ _ _ rose_read
          (struct_missing g.R.Source rose_names RoseHeld0 (RoseFields IsRose) _ c.in-Ok.fields c.in-Ok.ensures.opened _ _ c.next_field_by.new.self d _
          (via c.given_or.new.self.de.now (grind (
            arith,
            sym
                (c.in-Err-given_or.ensures.same_reference ∙ ap (λ a. a.de.ghost_name) same ∙ k.same_reference
                ∙ run_reference g.R.Source rose_names RoseHeld0 _ _ _ r ∙ c.in-Ok.ensures.same_reference),
          ))
          (ap (λ a. a.de.now) e.3 ∙ ap (λ a. a.de.now) same))
          (rose_gap0 (c.loop-fields.slot0, tt) e.0) (λ m fs v h q. rose_lacks0 (c.loop-fields.slot0, tt) e.0 fs v h q));
    }

pub read_rose-returns-in-Ok-end : goal.read_rose-returns-in-Ok-end
read_rose-returns-in-Ok-end g t c =
    let r = c.loop-fields.invariant in
    let k = c.in-Ok-None.ensures in
    let d = struct_met g.R.Source rose_names RoseHeld0 c.in-Ok.fields c.loop-fields.fields c.next_field_by.new.self (c.loop-fields.slot0, tt) r
    (rw c.in-Ok-None.field-0-is at (k.none r.still)) k.same k.same_reference in
    let last = c.in-Ok-given_or.ensures.ok.1 in
    let e = c.in-Ok-end.ensures.ok (subst IsStructOpen (sym last) d.run.still) in
    (record {
      law = lawful_ok _ RoseRead IsRose _ _ _ _ (rose_made _)
          (struct_done g.R.Source rose_names RoseHeld0 (RoseFields IsRose) _ c.in-Ok.fields c.in-Ok.ensures.opened _ _ c.next_field_by.new.self d _
          (λ fs h. subst (λ z. RoseFrom0 IsRose z fs) (sym (out-roll-Rose _))
          (rose_whole (c.loop-fields.slot0, tt) (record { kids = c.in-Ok-given_or.value }) c.in-Ok-given_or.ensures.ok.0 fs h))
          (ap (λ a. a.left) (sym last) ∙ e.0)
          (via c.end.new.self.0 (grind (
            arith,
            sym (ap (λ a. a.de.ghost_name) last ∙ k.same_reference
                ∙ run_reference g.R.Source rose_names RoseHeld0 _ _ _ r ∙ c.in-Ok.ensures.same_reference),
          ))
          (e.1 ∙ ap (λ a. record a.de.now { failed = false }) last)));
    })

pub read_rose-returns-in-Err-end : goal.read_rose-returns-in-Err-end
read_rose-returns-in-Err-end g t c =
    let r = c.loop-fields.invariant in
    let k = c.in-Ok-None.ensures in
    let d = struct_met g.R.Source rose_names RoseHeld0 c.in-Ok.fields c.loop-fields.fields c.next_field_by.new.self (c.loop-fields.slot0, tt) r
    (rw c.in-Ok-None.field-0-is at (k.none r.still)) k.same k.same_reference in
    let last = c.in-Ok-given_or.ensures.ok.1 in
    let e = c.in-Err-end.ensures.err (subst IsStructOpen (sym last) d.run.still) in
    record {
      law = lawful_err _ RoseRead _ _ _ _ rose_read
          (struct_over g.R.Source rose_names RoseHeld0 (RoseFields IsRose) _ c.in-Ok.fields c.in-Ok.ensures.opened _ _ c.next_field_by.new.self d _
          (subst (λ a. 0 < a.left) last e.0)
          (via c.end.new.self.0 (grind (
            arith,
            sym (ap (λ a. a.de.ghost_name) last ∙ k.same_reference
                ∙ run_reference g.R.Source rose_names RoseHeld0 _ _ _ r ∙ c.in-Ok.ensures.same_reference),
          )) (e.1 ∙ ap (λ a. a.de.now) last)));
    }

pub read_rose_list-returns-in_err-seq : goal.read_rose_list-returns-in_err-seq
read_rose_list-returns-in_err-seq g t c =
    let p = err_from_is_err_and c.from_residual.result c.from_residual.ensures.1 in
    rw (p.1, p.2) (record {
      law = lawful_err _ (Row IsRose) _ _ _ _ (vec_row IsRose)
          (row_unopened g.R.Source IsRose _ _ _ (rw c.in_err-seq.was at c.deserialize_seq.follows.holds-at-none));
    })

pub read_rose_list-loop-items-init : goal.read_rose_list-loop-items-init
read_rose_list-loop-items-init g t c =
    rw c.new-items.ensures.items (values_start g.R.Source IsRose c.in_ok-seq.seq c.in_ok-seq.ensures.opened.opened)

pub read_rose_list-next_element_with-requires : goal.read_rose_list-next_element_with-requires
read_rose_list-next_element_with-requires g t c =
    λ s some d l p q.
    let h = part_steps g.R.Source c.args.de.now c.in_ok-seq.seq c.loop-items.seq _ c.in_ok-seq.ensures.opened c.loop-items.invariant.run d l in
    let e : steps_at p.now ≡ steps_at d = ap steps_at q in
    (omega (arith, h, e, c.decreases), ((λ a m. m), ((λ a m. m), (λ a m. m))))

pub read_rose_list-returns-in_err-item : goal.read_rose_list-returns-in_err-item
read_rose_list-returns-in_err-item g t c =
    let p = err_from_is_err_and c.from_residual-in_err-item.result c.from_residual-in_err-item.ensures.1 in
    let r = c.loop-items.invariant in
    let e = c.in_err-item.ensures in
    let some = some_if_err c.loop-items.seq.left _ (e.none r.run.still.sound) in
    let f = item_refused g.R.Source IsRose c.loop-items.seq c.next_element_with.new.self r.run.still e.list (λ p q r h. h) _ some
    (e.part r.run.still.sound some) in
    rw (p.1, p.2) (record {
      law = lawful_err _ (Row IsRose) _ _ _ _ (vec_row IsRose)
          (row_refused g.R.Source IsRose _ c.in_ok-seq.seq c.loop-items.seq c.loop-items.items.items c.in_ok-seq.ensures.opened r _
          c.next_element_with.new.self _ f (e.marked r.run.still.marked) (search rules));
    })

pub read_rose_list-loop-items-preserved : goal.read_rose_list-loop-items-preserved
read_rose_list-loop-items-preserved g t c =
    let r = c.loop-items.invariant in
    let e = c.in_ok-item.ensures in
    let is = c.in-Some.is in
    let some = some_if c.loop-items.seq.left c.in-Some.item _ is (e.none r.run.still.sound) in
    let k = item_taken g.R.Source IsRose c.loop-items.seq c.next_element_with.new.self r.run.still e.list (λ p q r h. h) c.in-Some.item
    (rw is at (e.part r.run.still.sound some)) e.still in
    rw c.in_ok-push.ensures.items (values_step g.R.Source IsRose c.in_ok-seq.seq c.loop-items.seq c.next_element_with.new.self c.loop-items.items.items
    c.in-Some.item r k e.same_reference)

pub read_rose_list-returns : goal.read_rose_list-returns
read_rose_list-returns g t c =
    let r = c.loop-items.invariant in
    let e = c.in_ok-item.ensures in
    let z = none_left c.loop-items.seq.left (λ l. never_none g.R.Source c.loop-items.seq c.next_element_with.new.self
    (rw c.in_default.is at (e.part r.run.still.sound l))) in
    let n = (e.none r.run.still.sound z).1 in
    let d = (c.in_ok-end.ensures.ok (subst IsOpen (sym n) r.run.still)).1 in
    record {
      law = vec_done g.R.Source IsRose _ c.in_ok-seq.seq c.loop-items.seq c.loop-items.items c.in_ok-seq.ensures.opened r _ z
          (via c.end.new.self.0 (search rules) (d ∙ ap (λ s. record s.de.now { failed = false }) n));
    }

pub read_rose_list-returns-in_err-push : goal.read_rose_list-returns-in_err-push
read_rose_list-returns-in_err-push g t c =
    let p = err_from_is_err_and c.from_residual-in_err-push.result c.from_residual-in_err-push.ensures.1 in
    rw (p.1, p.2) (record {
      law = lawful_at g.R.Source _ _ _ c.next_element_with.new.self.de.now _
          (let same = sym c.in_ok-seq.ensures.same_reference ∙ sym c.loop-items.invariant.run.same_reference ∙ sym c.in_ok-item.ensures.same_reference
          in search rules) (
          let r = c.loop-items.invariant in
          let e = c.in_ok-item.ensures in
          let is = c.in-Some.is in
          let some = some_if c.loop-items.seq.left c.in-Some.item _ is (e.none r.run.still.sound) in
          let k = item_taken g.R.Source IsRose c.loop-items.seq c.next_element_with.new.self r.run.still e.list (λ p q r h. h) c.in-Some.item
          (rw is at (e.part r.run.still.sound some)) e.still in
          let v = values_step g.R.Source IsRose c.in_ok-seq.seq c.loop-items.seq c.next_element_with.new.self c.loop-items.items.items c.in-Some.item r k
          e.same_reference in
          lawful_err _ (Row IsRose) _ _ _ _ (vec_row IsRose)
          (row_unkept g.R.Source IsRose _ c.in_ok-seq.seq c.next_element_with.new.self _ c.in_ok-seq.ensures.opened v _ refl));
    })

pub read_rose_list-returns-in_err-end : goal.read_rose_list-returns-in_err-end
read_rose_list-returns-in_err-end g t c =
    let r = c.loop-items.invariant in
    let e = c.in_ok-item.ensures in
    let z = none_left c.loop-items.seq.left (λ l. never_none g.R.Source c.loop-items.seq c.next_element_with.new.self
    (rw c.in_default.is at (e.part r.run.still.sound l))) in
    let n = (e.none r.run.still.sound z).1 in
    let d = (c.in_err-end.ensures.err (subst IsOpen (sym n) r.run.still)).0 in
    absurd (omega (arith, z, d, ap (λ s. s.left) n))
