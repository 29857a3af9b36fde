use Rattle.std.proofs.Common.{◌≡◌, ◌∙◌, refl, sym, ap, subst, ℕ, List, None, Some, rules, arith, false, length}
use Rattle.std.specs.Int.{w64}
use Rattle.std.specs.Ordering.{nat_cmp}
use Rattle.std.proofs.lemmas.Cmp.{nat_cmp_total}
use Rattle.std.specs.declared.collections.BTreeMap.{BTreeMap}
use Rattle.std.specs.Prelude.{◌<◌}
use Rattle.std.specs.declared.alloc.Global.{Global}
use Rattle.rmp_decode.specs.Maps.{ReadsPairs, Collects, IsMapOpen}
use Rattle.rmp_decode.specs.Read.{IsChar}
use Rattle.test_json.specs.declared.dirs.Dir.{Dir, out-Dir}
use Rattle.test_json.specs.declared.dirs.Dir.TheViews.{out-roll-Dir}
use Rattle.test_json.specs.DirLevels.{IsDir, DirFields, DirRead, DirFrom0, dir_names, dir_made, dir_read}
use Rattle.std.proofs.lemmas.Result.{err_from_is_err_and}
use Rattle.std.proofs.lemmas.Int.{to_z-of_z}
use Rattle.rmp_decode.proofs.Laws.{lawful_ok, lawful_err}
use Rattle.rmp_decode.proofs.Maps.{flat, map_unopened, map_done, map_unkept, map_take, map_key, key_next, value_next, entries_step, gathers_start, gathers_step}
use Rattle.rmp_decode.proofs.Rows.{push}
use Rattle.rmp_decode.proofs.Seqs.{via}
use Rattle.rmp_decode.specs.FieldAccess.{IsStructOpen, TakesPlace}
use Rattle.rmp_decode.specs.Names.{bytes_of}
use Rattle.rmp_decode.proofs.FieldWiths.{field_taken, field_refused}
use Rattle.rmp_decode.proofs.StructRuns.{struct_start, struct_step, struct_place, struct_value, struct_met, struct_missing, struct_over, struct_done}
use Rattle.rmp_decode.proofs.Structs.{fields_unopened}
use Rattle.rmp_recursive.proofs.Fields.{same_then, field_steps, run_reference}
use Rattle.test_json.proofs.DirLevels.{
  DirHeld0,
  dir_whole,
  DirSlot0,
  dir_tree0,
  dir_step0,
  dir_gap0,
  dir_lacks0,
  DirSlot1,
  dir_tree1,
  dir_step1,
  dir_gap1,
  dir_lacks1,
}
use Rattle.rmp_recursive.proofs.Maps.{no_key, key_got, key_refused, value_got, value_refused, owing, to_come_some}
use Rattle.rmp_recursive.proofs.Parts.{steps_at, lawful_at, lent_law, some_if, some_if_err, none_left}
use Rattle.test_json.proofs.dirs.derived.+dir_reading.Goals as goal

pub read_dir-returns-in-Err : goal.read_dir-returns-in-Err
read_dir-returns-in-Err g t c = record {
  law = lawful_err _ DirRead _ _ _ _ dir_read
      (fields_unopened g.R.Source dir_names (DirFields IsDir) _ _ _ (rw c.in-Err.is at c.deserialize_struct.follows.holds-at-none));
}

pub read_dir-loop-fields-init : goal.read_dir-loop-fields-init
read_dir-loop-fields-init g t c = struct_start g.R.Source dir_names DirHeld0 _ c.in-Ok.fields (None, (None, tt)) c.in-Ok.ensures.opened (refl, (refl, tt))

pub read_dir-loop-fields-preserved-in-Ok-next_value_with : goal.read_dir-loop-fields-preserved-in-Ok-next_value_with
read_dir-loop-fields-preserved-in-Ok-next_value_with g t c =
    let r = c.loop-fields.invariant in
    let k = c.in-Ok-Some-eq0.ensures in
    let x = rw c.in-Ok-Some-eq0.field-0-is at (k.some r.still) in
    let p = subst (TakesPlace g.R.Source c.loop-fields.fields c.next_field_by.new.self) c.in-Ok-Some-eq0.field-0-0-test x in
    let q = c.in-Ok-next_value_with.ensures in
    let took = field_taken g.R.Source _ _ c.next_field_by.new.self c.next_value_with.new.self p.still DirSlot0 q.same
    (λ d rest gave l y. lent_law g.R.Source _ _ DirSlot0 (λ a b n h. h) d rest gave y) c.in-Ok-next_value_with.value (q.part p.still) q.owes q.still in
    rw (to_z-of_z w64 c.in-Ok-next_value_with.value (search rules))
    (struct_step g.R.Source dir_names DirHeld0 c.in-Ok.fields c.loop-fields.fields c.next_field_by.new.self c.next_value_with.new.self
    (c.loop-fields.slot0, (c.loop-fields.slot1, tt))
    ((Some c.in-Ok-next_value_with.value), (c.loop-fields.slot1, tt)) 0 DirSlot0 c.in-Ok-next_value_with.value r p k.same k.same_reference took q.same
    q.same_reference
    (dir_step0 (c.loop-fields.slot0, (c.loop-fields.slot1, tt)) c.in-Ok-next_value_with.value))

pub read_dir-returns-in-Err-next_value_with : goal.read_dir-returns-in-Err-next_value_with
read_dir-returns-in-Err-next_value_with g t c =
    let r = c.loop-fields.invariant in
    let k = c.in-Ok-Some-eq0.ensures in
    let x = rw c.in-Ok-Some-eq0.field-0-is at (k.some r.still) in
    let p = subst (TakesPlace g.R.Source c.loop-fields.fields c.next_field_by.new.self) c.in-Ok-Some-eq0.field-0-0-test x in
    let q = c.in-Err-next_value_with.ensures in
    let failed = field_refused g.R.Source _ _ c.next_field_by.new.self c.next_value_with.new.self p.still DirSlot0 q.same
    (λ d rest gave l y. lent_law g.R.Source _ _ DirSlot0 (λ a b n h. h) d rest gave y) _ (q.part p.still) p.owes (q.marked p.still.marked) in
    record {
      law = lawful_err _ DirRead _ _ _ _ dir_read
          (struct_value g.R.Source dir_names DirHeld0 (DirFields IsDir) _ c.in-Ok.fields c.in-Ok.ensures.opened _ _ c.loop-fields.fields r
          c.next_field_by.new.self
          c.next_value_with.new.self 0 DirSlot0 _ p k.same k.same_reference failed
          (grind (arith, sym (q.same_reference ∙ k.same_reference ∙ run_reference g.R.Source dir_names DirHeld0 _ _ _ r ∙ c.in-Ok.ensures.same_reference)))
          (λ fs v m h e. ((out-Dir v).size, dir_tree0 fs v m h e)));
    }

pub read_dir-loop-fields-preserved : goal.read_dir-loop-fields-preserved
read_dir-loop-fields-preserved g t c =
    let r = c.loop-fields.invariant in
    let k = c.in-Ok-Some.ensures in
    let x = rw c.in-Ok-Some.field-0-is at (k.some r.still) in
    let below : c.in-Ok-Some.field-0-0 < 2 = subst (λ z. c.in-Ok-Some.field-0-0 < length z) (ap (λ z. bytes_of z.now) r.same.names ∙ r.names_same) x.below in
    let p = subst (TakesPlace g.R.Source c.loop-fields.fields c.next_field_by.new.self) (omega (arith, c.in-Ok-Some.field-0-0-test, below)) x in
    let q = c.in-Ok-next_value_with-2.ensures in
    let took = field_taken g.R.Source _ _ c.next_field_by.new.self c.next_value_with-in-Ok-Some.new.self p.still DirSlot1 q.same
    (λ d rest gave l y. lent_law g.R.Source _ _ DirSlot1 (λ a b n h. h) d rest gave y) c.in-Ok-next_value_with-2.value (q.part p.still) q.owes q.still in
    (struct_step g.R.Source dir_names DirHeld0 c.in-Ok.fields c.loop-fields.fields c.next_field_by.new.self c.next_value_with-in-Ok-Some.new.self
    (c.loop-fields.slot0, (c.loop-fields.slot1, tt))
    (c.loop-fields.slot0, ((Some c.in-Ok-next_value_with-2.value), tt)) 1 DirSlot1 c.in-Ok-next_value_with-2.value r p k.same k.same_reference took q.same
    q.same_reference
    (dir_step1 (c.loop-fields.slot0, (c.loop-fields.slot1, tt)) c.in-Ok-next_value_with-2.value))

pub read_dir-returns-in-Err-next_value_with-2 : goal.read_dir-returns-in-Err-next_value_with-2
read_dir-returns-in-Err-next_value_with-2 g t c =
    let r = c.loop-fields.invariant in
    let k = c.in-Ok-Some.ensures in
    let x = rw c.in-Ok-Some.field-0-is at (k.some r.still) in
    let below : c.in-Ok-Some.field-0-0 < 2 = subst (λ z. c.in-Ok-Some.field-0-0 < length z) (ap (λ z. bytes_of z.now) r.same.names ∙ r.names_same) x.below in
    let p = subst (TakesPlace g.R.Source c.loop-fields.fields c.next_field_by.new.self) (omega (arith, c.in-Ok-Some.field-0-0-test, below)) x in
    let q = c.in-Err-next_value_with-2.ensures in
    let failed = field_refused g.R.Source _ _ c.next_field_by.new.self c.next_value_with-in-Ok-Some.new.self p.still DirSlot1 q.same
    (λ d rest gave l y. lent_law g.R.Source _ _ DirSlot1 (λ a b n h. h) d rest gave y) _ (q.part p.still) p.owes (q.marked p.still.marked) in
    record {
      law = lawful_err _ DirRead _ _ _ _ dir_read
          (struct_value g.R.Source dir_names DirHeld0 (DirFields IsDir) _ c.in-Ok.fields c.in-Ok.ensures.opened _ _ c.loop-fields.fields r
          c.next_field_by.new.self
          c.next_value_with-in-Ok-Some.new.self 1 DirSlot1 _ p k.same k.same_reference failed
          (grind (arith, sym (q.same_reference ∙ k.same_reference ∙ run_reference g.R.Source dir_names DirHeld0 _ _ _ r ∙ c.in-Ok.ensures.same_reference)))
          (λ fs v m h e. ((out-Dir v).dirs, dir_tree1 fs v m h e)));
    }

pub read_dir-next_value_with-requires-in-Ok-Some-clause-part : goal.read_dir-next_value_with-requires-in-Ok-Some-clause-part
read_dir-next_value_with-requires-in-Ok-Some-clause-part g t c = λ s d l p q.
    let same = same_then c.in-Ok.fields c.loop-fields.fields c.next_field_by.new.self c.loop-fields.invariant.same c.in-Ok-Some.ensures.same in
    let h = field_steps g.R.Source dir_names c.args.de.now c.in-Ok.fields c.next_field_by.new.self c.in-Ok.ensures.opened same d l in
    let e : steps_at p.now ≡ steps_at d = ap steps_at q in
    (omega (arith, h, e, c.decreases), ((λ a m. m), ((λ a m. m), (λ a m. m))))

pub read_dir-returns-in-Err-next_field_by : goal.read_dir-returns-in-Err-next_field_by
read_dir-returns-in-Err-next_field_by g t c =
    let r = c.loop-fields.invariant in
    record {
      law = lawful_err _ DirRead _ _ _ _ dir_read
          (struct_place g.R.Source dir_names DirHeld0 (DirFields IsDir) _ c.in-Ok.fields c.in-Ok.ensures.opened _ _ c.loop-fields.fields r _ _
          c.next_field_by.new.self _
          (c.in-Err-next_field_by.ensures.err r.still) (grind (
            arith,
            sym (c.in-Err-next_field_by.ensures.same_reference ∙ run_reference g.R.Source dir_names DirHeld0 _ _ _ r
                ∙ c.in-Ok.ensures.same_reference),
          )));
    }

pub read_dir-returns-in-Err-given_or : goal.read_dir-returns-in-Err-given_or
read_dir-returns-in-Err-given_or g t c =
    let r = c.loop-fields.invariant in
    let k = c.in-Ok-None.ensures in
    let d = struct_met g.R.Source dir_names DirHeld0 c.in-Ok.fields c.loop-fields.fields c.next_field_by.new.self
    (c.loop-fields.slot0, (c.loop-fields.slot1, tt)) r
    (rw c.in-Ok-None.field-0-is at (k.none r.still)) k.same k.same_reference in
    let same : c.next_field_by.new.self ≡ c.next_field_by.new.self = refl in
    let e = c.in-Err-given_or.ensures.err (ap (λ a. a.sound) same ∙ d.run.still.sound) in
    record {
      law = lawful_err _ DirRead _ _ _ _ dir_read
          (struct_missing g.R.Source dir_names DirHeld0 (DirFields IsDir) _ c.in-Ok.fields c.in-Ok.ensures.opened _ _ c.next_field_by.new.self d _
          (via c.given_or.new.self.de.now (grind (
            arith,
            sym
                (c.in-Err-given_or.ensures.same_reference ∙ ap (λ a. a.de.ghost_name) same ∙ k.same_reference
                ∙ run_reference g.R.Source dir_names DirHeld0 _ _ _ r ∙ c.in-Ok.ensures.same_reference),
          ))
          (ap (λ a. a.de.now) e.3 ∙ ap (λ a. a.de.now) same))
          (dir_gap0 (c.loop-fields.slot0, (c.loop-fields.slot1, tt)) e.0)
          (λ m fs v h q. dir_lacks0 (c.loop-fields.slot0, (c.loop-fields.slot1, tt)) e.0 fs v h q));
    }

pub read_dir-returns-in-Err-given_or-2 : goal.read_dir-returns-in-Err-given_or-2
read_dir-returns-in-Err-given_or-2 g t c =
    let r = c.loop-fields.invariant in
    let k = c.in-Ok-None.ensures in
    let d = struct_met g.R.Source dir_names DirHeld0 c.in-Ok.fields c.loop-fields.fields c.next_field_by.new.self
    (c.loop-fields.slot0, (c.loop-fields.slot1, tt)) r
    (rw c.in-Ok-None.field-0-is at (k.none r.still)) k.same k.same_reference in
    let same : c.given_or.new.self ≡ c.next_field_by.new.self = c.in-Ok-given_or.ensures.ok.1 in
    let e = c.in-Err-given_or-2.ensures.err (ap (λ a. a.sound) same ∙ d.run.still.sound) in
    record {
      law = lawful_err _ DirRead _ _ _ _ dir_read
          (struct_missing g.R.Source dir_names DirHeld0 (DirFields IsDir) _ c.in-Ok.fields c.in-Ok.ensures.opened _ _ c.next_field_by.new.self d _
          (via c.given_or-2.new.self.de.now (grind (
            arith,
            sym
                (c.in-Err-given_or-2.ensures.same_reference ∙ ap (λ a. a.de.ghost_name) same ∙ k.same_reference
                ∙ run_reference g.R.Source dir_names DirHeld0 _ _ _ r ∙ c.in-Ok.ensures.same_reference),
          ))
          (ap (λ a. a.de.now) e.3 ∙ ap (λ a. a.de.now) same))
          (dir_gap1 (c.loop-fields.slot0, (c.loop-fields.slot1, tt)) e.0)
          (λ m fs v h q. dir_lacks1 (c.loop-fields.slot0, (c.loop-fields.slot1, tt)) e.0 fs v h q));
    }

pub read_dir-returns-in-Ok-end : goal.read_dir-returns-in-Ok-end
read_dir-returns-in-Ok-end g t c =
    let r = c.loop-fields.invariant in
    let k = c.in-Ok-None.ensures in
    let d = struct_met g.R.Source dir_names DirHeld0 c.in-Ok.fields c.loop-fields.fields c.next_field_by.new.self
    (c.loop-fields.slot0, (c.loop-fields.slot1, tt)) r
    (rw c.in-Ok-None.field-0-is at (k.none r.still)) k.same k.same_reference in
    let last = c.in-Ok-given_or-2.ensures.ok.1 ∙ c.in-Ok-given_or.ensures.ok.1 in
    let e = c.in-Ok-end.ensures.ok (subst IsStructOpen (sym last) d.run.still) in
    rw (to_z-of_z w64 c.in-Ok-given_or.value (search rules)) (record {
      law = lawful_ok _ DirRead IsDir _ _ _ _ (dir_made _)
          (struct_done g.R.Source dir_names DirHeld0 (DirFields IsDir) _ c.in-Ok.fields c.in-Ok.ensures.opened _ _ c.next_field_by.new.self d _
          (λ fs h. subst (λ z. DirFrom0 IsDir z fs) (sym (out-roll-Dir _))
          (dir_whole (c.loop-fields.slot0, (c.loop-fields.slot1, tt)) (record { size = c.in-Ok-given_or.value; dirs = c.in-Ok-given_or-2.value })
          c.in-Ok-given_or.ensures.ok.0 c.in-Ok-given_or-2.ensures.ok.0 fs h))
          (ap (λ a. a.left) (sym last) ∙ e.0)
          (via c.end.new.self.0 (grind (
            arith,
            sym (ap (λ a. a.de.ghost_name) last ∙ k.same_reference ∙ run_reference g.R.Source dir_names DirHeld0 _ _ _ r
                ∙ c.in-Ok.ensures.same_reference),
          )) (e.1 ∙ ap (λ a. record a.de.now { failed = false }) last)));
    })

pub read_dir-returns-in-Err-end : goal.read_dir-returns-in-Err-end
read_dir-returns-in-Err-end g t c =
    let r = c.loop-fields.invariant in
    let k = c.in-Ok-None.ensures in
    let d = struct_met g.R.Source dir_names DirHeld0 c.in-Ok.fields c.loop-fields.fields c.next_field_by.new.self
    (c.loop-fields.slot0, (c.loop-fields.slot1, tt)) r
    (rw c.in-Ok-None.field-0-is at (k.none r.still)) k.same k.same_reference in
    let last = c.in-Ok-given_or-2.ensures.ok.1 ∙ c.in-Ok-given_or.ensures.ok.1 in
    let e = c.in-Err-end.ensures.err (subst IsStructOpen (sym last) d.run.still) in
    record {
      law = lawful_err _ DirRead _ _ _ _ dir_read
          (struct_over g.R.Source dir_names DirHeld0 (DirFields IsDir) _ c.in-Ok.fields c.in-Ok.ensures.opened _ _ c.next_field_by.new.self d _
          (subst (λ a. 0 < a.left) last e.0)
          (via c.end.new.self.0 (grind (
            arith,
            sym (ap (λ a. a.de.ghost_name) last ∙ k.same_reference ∙ run_reference g.R.Source dir_names DirHeld0 _ _ _ r
                ∙ c.in-Ok.ensures.same_reference),
          )) (e.1 ∙ ap (λ a. a.de.now) last)));
    }

pub read_dir_char_map-returns-in_err-pairs : goal.read_dir_char_map-returns-in_err-pairs
read_dir_char_map-returns-in_err-pairs g t c =
    let p = err_from_is_err_and c.from_residual.result c.from_residual.ensures.1 in
    rw (p.1, p.2) (record {
      law = map_unopened g.R.Source (λ (v : BTreeMap (ℕ) Dir Global) ps. (ns : List (ℕ × Dir)) × ReadsPairs (λ j (q : ℕ). IsChar j q) IsDir ps ns
          × Collects nat_cmp ns v.entries) _ _ _ (rw c.in_err-pairs.was at c.deserialize_map.follows.holds-at-none);
    })

pub read_dir_char_map-loop-entries-init : goal.read_dir_char_map-loop-entries-init
read_dir_char_map-loop-entries-init g t c =
    let o = c.in_ok-pairs.ensures.opened in
    gathers_start g.R.Source nat_cmp_total (λ j (q : ℕ). IsChar j q) IsDir _ _ o.at_key o.opened c.new-entries.ensures.empty

pub read_dir_char_map-returns-in_err-key : goal.read_dir_char_map-returns-in_err-key
read_dir_char_map-returns-in_err-key g t c =
    let p = err_from_is_err_and c.from_residual-in_err-key.result c.from_residual-in_err-key.ensures.1 in
    rw (p.1, p.2) (record {
      law = lawful_at g.R.Source _ _ _ c.next_key_with.new.self.de.now _
          (let same = sym c.in_ok-pairs.ensures.same_reference ∙ sym c.loop-entries.invariant.read.run.same_reference
          ∙ sym c.in_err-key.ensures.same_reference in search rules) (
          let r = c.loop-entries.invariant in
          let e = c.in_err-key.ensures in
          let some = some_if_err c.loop-entries.pairs.left _ (e.none r.read.run.still.sound) in
          let f = key_refused g.R.Source (λ j (q : ℕ). IsChar j q) c.loop-entries.pairs c.next_key_with.new.self (λ p q r h. h) _
          (e.part r.read.run.still.sound some) in
          map_take g.R.Source (λ (v : BTreeMap (ℕ) Dir Global) ps. (ns : List (ℕ × Dir)) × ReadsPairs (λ j (q : ℕ). IsChar j q) IsDir ps ns
          × Collects nat_cmp ns v.entries) _ c.in_ok-pairs.pairs c.loop-entries.pairs c.in_ok-pairs.ensures.opened _ (flat r.read.trees) r.read.run
          (λ j (q : ℕ). IsChar j q) c.next_key_with.new.self _ (to_come_some c.loop-entries.pairs some) f refl
          (λ m ks v ps i h. key_next _ _ r.read.trees ps m ks h.0 i h.1));
    })

pub read_dir_char_map-returns-in_err-value : goal.read_dir_char_map-returns-in_err-value
read_dir_char_map-returns-in_err-value g t c =
    let p = err_from_is_err_and c.from_residual-in_err-value.result c.from_residual-in_err-value.ensures.1 in
    rw (p.1, p.2) (record {
      law = lawful_at g.R.Source _ _ _ c.next_value_with.new.self.de.now _
          (let same = sym c.in_ok-pairs.ensures.same_reference ∙ sym c.loop-entries.invariant.read.run.same_reference
          ∙ sym c.in_ok-key.ensures.same_reference ∙ sym c.in_err-value.ensures.same_reference in search rules) (
          let r = c.loop-entries.invariant in
          let e = c.in_ok-key.ensures in
          let is = c.in-Some.is in
          let some = some_if c.loop-entries.pairs.left c.in-Some.key _ is (e.none r.read.run.still.sound) in
          let k = key_got g.R.Source (λ j (q : ℕ). IsChar j q) c.loop-entries.pairs c.next_key_with.new.self (λ p q r h. h) c.in-Some.key
          (rw is at (e.part r.read.run.still.sound some)) e.still in
          let f = value_refused g.R.Source IsDir c.next_key_with.new.self c.next_value_with.new.self (λ p q r h. h) _ (c.in_err-value.ensures.part k.still.sound) in
          map_take g.R.Source (λ (v : BTreeMap (ℕ) Dir Global) ps. (ns : List (ℕ × Dir)) × ReadsPairs (λ j (q : ℕ). IsChar j q) IsDir ps ns
          × Collects nat_cmp ns v.entries) _ c.in_ok-pairs.pairs c.next_key_with.new.self c.in_ok-pairs.ensures.opened _
          (push (flat r.read.trees) k.part.tree) (map_key g.R.Source (λ j (q : ℕ). IsChar j q) c.in_ok-pairs.pairs c.loop-entries.pairs
          c.next_key_with.new.self (flat r.read.trees) c.in-Some.key r.read.run r.read.at_key k e.same_reference) IsDir c.next_value_with.new.self _
          (owing c.next_key_with.new.self k.owes) f refl (λ m ks v ps i h. value_next _ _ r.read.trees ps k.part.tree m ks h.0 i h.1));
    })

pub read_dir_char_map-returns-in_err-insert : goal.read_dir_char_map-returns-in_err-insert
read_dir_char_map-returns-in_err-insert g t c =
    let p = err_from_is_err_and c.from_residual-in_err-insert.result c.from_residual-in_err-insert.ensures.1 in
    rw (p.1, p.2) (record {
      law = lawful_at g.R.Source _ _ _ c.next_value_with.new.self.de.now _
          (let same = sym c.in_ok-pairs.ensures.same_reference ∙ sym c.loop-entries.invariant.read.run.same_reference
          ∙ sym c.in_ok-key.ensures.same_reference ∙ sym c.in_ok-value.ensures.same_reference in search rules) (
          let r = c.loop-entries.invariant in
          let e = c.in_ok-key.ensures in
          let is = c.in-Some.is in
          let some = some_if c.loop-entries.pairs.left c.in-Some.key _ is (e.none r.read.run.still.sound) in
          let k = key_got g.R.Source (λ j (q : ℕ). IsChar j q) c.loop-entries.pairs c.next_key_with.new.self (λ p q r h. h) c.in-Some.key
          (rw is at (e.part r.read.run.still.sound some)) e.still in
          let u = c.in_ok-value.ensures in
          let v = value_got g.R.Source IsDir c.next_key_with.new.self c.next_value_with.new.self (λ p q r h. h) c.in_ok-value.value (u.part k.still.sound) u.still in
          let s = entries_step g.R.Source (λ j (q : ℕ). IsChar j q) IsDir c.in_ok-pairs.pairs c.loop-entries.pairs c.next_key_with.new.self
          c.next_value_with.new.self r.pairs c.in-Some.key
          c.in_ok-value.value r.read k e.same_reference v u.same_reference in
          map_unkept g.R.Source (λ (v : BTreeMap (ℕ) Dir Global) ps. (ns : List (ℕ × Dir)) × ReadsPairs (λ j (q : ℕ). IsChar j q) IsDir ps ns
          × Collects nat_cmp ns v.entries) _ c.in_ok-pairs.pairs c.next_value_with.new.self c.in_ok-pairs.ensures.opened _ (flat s.trees) s.run refl);
    })

pub read_dir_char_map-loop-entries-preserved : goal.read_dir_char_map-loop-entries-preserved
read_dir_char_map-loop-entries-preserved g t c =
    let r = c.loop-entries.invariant in
    let e = c.in_ok-key.ensures in
    let is = c.in-Some.is in
    let some = some_if c.loop-entries.pairs.left c.in-Some.key _ is (e.none r.read.run.still.sound) in
    let k = key_got g.R.Source (λ j (q : ℕ). IsChar j q) c.loop-entries.pairs c.next_key_with.new.self (λ p q r h. h) c.in-Some.key
    (rw is at (e.part r.read.run.still.sound some)) e.still in
    let u = c.in_ok-value.ensures in
    let v = value_got g.R.Source IsDir c.next_key_with.new.self c.next_value_with.new.self (λ p q r h. h) c.in_ok-value.value (u.part k.still.sound) u.still in
    gathers_step g.R.Source nat_cmp_total (λ j (q : ℕ). IsChar j q) IsDir c.in_ok-pairs.pairs c.loop-entries.pairs c.next_key_with.new.self
    c.next_value_with.new.self _ _ c.in-Some.key
    c.in_ok-value.value r k e.same_reference v u.same_reference c.in_ok-insert.ensures.entries c.insert.ensures.ordered
    c.in_ok-insert.ensures.updates.0

pub read_dir_char_map-end-requires : goal.read_dir_char_map-end-requires
read_dir_char_map-end-requires g t c =
    let r = c.loop-entries.invariant in
    let e = c.in_ok-key.ensures in
    let z = none_left c.loop-entries.pairs.left (λ l. no_key g.R.Source (λ j (q : ℕ). IsChar j q) c.loop-entries.pairs c.next_key_with.new.self (λ p q r h. h)
    (rw c.in_default.is at (e.part r.read.run.still.sound l))) in
    let n = (e.none r.read.run.still.sound z).1 in
    λ _. ap (λ a. a.owes) n ∙ r.read.at_key

pub read_dir_char_map-returns : goal.read_dir_char_map-returns
read_dir_char_map-returns g t c =
    let r = c.loop-entries.invariant in
    let e = c.in_ok-key.ensures in
    let z = none_left c.loop-entries.pairs.left (λ l. no_key g.R.Source (λ j (q : ℕ). IsChar j q) c.loop-entries.pairs c.next_key_with.new.self (λ p q r h. h)
    (rw c.in_default.is at (e.part r.read.run.still.sound l))) in
    let n = (e.none r.read.run.still.sound z).1 in
    let d = (c.in_ok-end.ensures.ok (subst IsMapOpen (sym n) r.read.run.still)).1 in
    record {
      law = map_done g.R.Source (λ (v : BTreeMap (ℕ) Dir Global) ps. (ns : List (ℕ × Dir)) × ReadsPairs (λ j (q : ℕ). IsChar j q) IsDir ps ns
          × Collects nat_cmp ns v.entries) _ c.in_ok-pairs.pairs c.loop-entries.pairs c.in_ok-pairs.ensures.opened _ r.read.trees r.read.run _
          (r.pairs, r.read.reads, r.gathered) z r.read.at_key
          (via c.end.new.self.0 (search rules) (d ∙ ap (λ a. record a.de.now { failed = false }) n));
    }

pub read_dir_char_map-returns-in_err-end : goal.read_dir_char_map-returns-in_err-end
read_dir_char_map-returns-in_err-end g t c =
    let r = c.loop-entries.invariant in
    let e = c.in_ok-key.ensures in
    let z = none_left c.loop-entries.pairs.left (λ l. no_key g.R.Source (λ j (q : ℕ). IsChar j q) c.loop-entries.pairs c.next_key_with.new.self (λ p q r h. h)
    (rw c.in_default.is at (e.part r.read.run.still.sound l))) in
    let n = (e.none r.read.run.still.sound z).1 in
    let d = (c.in_err-end.ensures.err (subst IsMapOpen (sym n) r.read.run.still)).0 in
    absurd (omega (arith, z, d, ap (λ a. a.left) n))
