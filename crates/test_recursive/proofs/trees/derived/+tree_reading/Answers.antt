use Rattle.std.proofs.Common.{◌≡◌, ◌∙◌, refl, sym, ap, subst, ℕ, max, rules, arith, false}
use Rattle.std.specs.Prelude.{Vec}
use Rattle.std.specs.declared.alloc.Global.{Global}
use Rattle.rmp_decode.specs.Read.{IsUnsigned}
use Rattle.rmp_decode.specs.Seq.{IsOpen}
use Rattle.rmp_decode.specs.Variants.{OfVariant, Content}
use Rattle.rmp_recursive.specs.Parts.{Row}
use Rattle.test_recursive.specs.declared.trees.Tree.{Tree, out-Tree}
use Rattle.test_recursive.specs.declared.trees.Tree.TheViews.{out-roll-Tree}
use Rattle.test_recursive.specs.TreeLevels.{TreeCase, IsTree, tree_names, tree_made, tree_variant}
use Rattle.std.proofs.lemmas.Result.{err_from_is_err_and}
use Rattle.rmp_decode.proofs.Laws.{lawful_err}
use Rattle.rmp_decode.proofs.Seqs.{values_start, values_step, via}
use Rattle.rmp_decode.proofs.Variants.{variant_err, variant_unopened, readable, given_read, given_refused}
use Rattle.test_recursive.specs.declared.trees.Tree.TheVariants.{rolls-Leaf, rolls-Node}
use Rattle.rmp_recursive.proofs.Parts.{
  variant_done,
  vec_row,
  vec_done,
  row_unopened,
  row_refused,
  row_unkept,
  part_room,
  content_room_falls,
  lawful_at,
  lent_law,
  item_taken,
  item_refused,
  some_if,
  some_if_err,
  none_left,
  never_none,
}
use Rattle.test_recursive.proofs.trees.derived.+tree_reading.Goals as goal

pub read_tree-returns-in-Ok-newtype_variant_with : goal.read_tree-returns-in-Ok-newtype_variant_with
read_tree-returns-in-Ok-newtype_variant_with g t c =
    let k = c.in-Ok-eq0-default in
    (record {
      law = variant_done g.R.Source tree_names (TreeCase IsTree) IsTree _ _ _ (λ (a : ℕ) c. Content (λ k. IsUnsigned 255 k a) c) 0 _ _ (tree_made _)
          (λ k h. (_, ap out-Tree (sym (rolls-Leaf _)) ∙ out-roll-Tree _, h))
          (given_read g.R.Source _ _ (λ k (a : ℕ). IsUnsigned 255 k a) tree_names 0 _ _ (rw k.field-0-0-test at k.ensures.opened) _ _
          (λ rest gave s. lent_law g.R.Source _ _ (λ k (a : ℕ). IsUnsigned 255 k a) (λ p q r h. h) _ rest gave s) _
          c.in-Ok-newtype_variant_with.ensures.bare c.in-Ok-newtype_variant_with.ensures.part refl) (grind (arith, sym k.ensures.same_reference));
    })

pub read_tree-returns-in-Err-newtype_variant_with : goal.read_tree-returns-in-Err-newtype_variant_with
read_tree-returns-in-Err-newtype_variant_with g t c =
    let k = c.in-Ok-eq0-default in
    record {
      law = lawful_err _ (λ m v. OfVariant tree_names (TreeCase IsTree v) m) _ _ _ _ tree_variant
          (variant_err _ _ (TreeCase IsTree) _ _ _ (grind (arith, sym k.ensures.same_reference)) _ 0 _ (λ v k h. readable _ k h.0 h.2)
          (given_refused g.R.Source _ _ (λ k (a : ℕ). IsUnsigned 255 k a) tree_names 0 _ _ (rw k.field-0-0-test at k.ensures.opened) _ _
          (λ rest gave s. lent_law g.R.Source _ _ (λ k (a : ℕ). IsUnsigned 255 k a) (λ p q r h. h) _ rest gave s) _
          c.in-Err-newtype_variant_with.ensures.bare c.in-Err-newtype_variant_with.ensures.part refl));
    }

pub read_tree-newtype_variant_with-requires-in-Ok : goal.read_tree-newtype_variant_with-requires-in-Ok
read_tree-newtype_variant_with-requires-in-Ok g t c = λ b p q.
    let h = content_room_falls g.R.Source _ _ c.args.de.now _ c.in-Ok.ensures.opened b in
    let e = ap (λ (z : _). max 1 z.room) q in
    (omega (arith, h, e, c.decreases), ((λ a m. m), ((λ a m. m), (λ a m. m))))

pub read_tree-returns-in-Ok-newtype_variant_with-2 : goal.read_tree-returns-in-Ok-newtype_variant_with-2
read_tree-returns-in-Ok-newtype_variant_with-2 g t c =
    let k = c.in-Ok in
    let at : k.field-0-0 ≡ 1 = omega (arith, k.field-0-0-test, k.ensures.below) in
    (record {
      law = variant_done g.R.Source tree_names (TreeCase IsTree) IsTree _ _ _ (λ (a : Vec Tree Global) c. Content (λ k. Row IsTree k a.items) c) 1 _ _
          (tree_made _)
          (λ k h. (_, ap out-Tree (sym (rolls-Node _)) ∙ out-roll-Tree _, h))
          (given_read g.R.Source _ _ (λ k (a : Vec Tree Global). Row IsTree k a.items) tree_names 1 _ _ (rw at at k.ensures.opened) _ _
          (λ rest gave s. lent_law g.R.Source _ _ (λ k (a : Vec Tree Global). Row IsTree k a.items) (λ p q r h. h) _ rest gave s) _
          c.in-Ok-newtype_variant_with-2.ensures.bare c.in-Ok-newtype_variant_with-2.ensures.part refl) (grind (arith, sym k.ensures.same_reference));
    })

pub read_tree-returns-in-Err-newtype_variant_with-2 : goal.read_tree-returns-in-Err-newtype_variant_with-2
read_tree-returns-in-Err-newtype_variant_with-2 g t c =
    let k = c.in-Ok in
    let at : k.field-0-0 ≡ 1 = omega (arith, k.field-0-0-test, k.ensures.below) in
    record {
      law = lawful_err _ (λ m v. OfVariant tree_names (TreeCase IsTree v) m) _ _ _ _ tree_variant
          (variant_err _ _ (TreeCase IsTree) _ _ _ (grind (arith, sym k.ensures.same_reference)) _ 1 _ (λ v k h. readable _ k h.0 h.2)
          (given_refused g.R.Source _ _ (λ k (a : Vec Tree Global). Row IsTree k a.items) tree_names 1 _ _ (rw at at k.ensures.opened) _ _
          (λ rest gave s. lent_law g.R.Source _ _ (λ k (a : Vec Tree Global). Row IsTree k a.items) (λ p q r h. h) _ rest gave s) _
          c.in-Err-newtype_variant_with-2.ensures.bare c.in-Err-newtype_variant_with-2.ensures.part refl));
    }

pub read_tree-returns-in-Err : goal.read_tree-returns-in-Err
read_tree-returns-in-Err g t c = record {
  law = lawful_err _ (λ m v. OfVariant tree_names (TreeCase IsTree v) m) _ _ _ _ tree_variant
      (variant_unopened _ _ (TreeCase IsTree) _ _ _ (search rules) _ (rw c.in-Err.is at c.deserialize_enum_by.follows.holds-at-none));
}

pub read_tree_list-returns-in_err-seq : goal.read_tree_list-returns-in_err-seq
read_tree_list-returns-in_err-seq g t c =
    let p = err_from_is_err_and c.from_residual.result c.from_residual.ensures.1 in
    rw (p.1, p.2) (record {
      law = lawful_err _ (Row IsTree) _ _ _ _ (vec_row IsTree)
          (row_unopened g.R.Source IsTree _ _ _ (rw c.in_err-seq.was at c.deserialize_seq.follows.holds-at-none));
    })

pub read_tree_list-loop-items-init : goal.read_tree_list-loop-items-init
read_tree_list-loop-items-init g t c =
    rw c.new-items.ensures.items (values_start g.R.Source IsTree c.in_ok-seq.seq c.in_ok-seq.ensures.opened.opened)

pub read_tree_list-next_element_with-requires : goal.read_tree_list-next_element_with-requires
read_tree_list-next_element_with-requires g t c =
    λ s some d l p q.
    let h = part_room g.R.Source c.args.de.now c.in_ok-seq.seq c.loop-items.seq _ c.in_ok-seq.ensures.opened c.loop-items.invariant.run d l in
    let e = ap (λ (z : _). max 1 z.room) q in
    (omega (arith, h, e, c.decreases), ((λ a m. m), ((λ a m. m), (λ a m. m))))

pub read_tree_list-returns-in_err-item : goal.read_tree_list-returns-in_err-item
read_tree_list-returns-in_err-item g t c =
    let p = err_from_is_err_and c.from_residual-in_err-item.result c.from_residual-in_err-item.ensures.1 in
    let r = c.loop-items.invariant in
    let e = c.in_err-item.ensures in
    let some = some_if_err c.loop-items.seq.left _ (e.none r.run.still.sound) in
    let f = item_refused g.R.Source IsTree c.loop-items.seq c.next_element_with.new.self r.run.still e.list (λ p q r h. h) _ some
    (e.part r.run.still.sound some) in
    rw (p.1, p.2) (record {
      law = lawful_err _ (Row IsTree) _ _ _ _ (vec_row IsTree)
          (row_refused g.R.Source IsTree _ c.in_ok-seq.seq c.loop-items.seq c.loop-items.items.items c.in_ok-seq.ensures.opened r _
          c.next_element_with.new.self _ f (e.marked r.run.still.marked) (search rules));
    })

pub read_tree_list-loop-items-preserved : goal.read_tree_list-loop-items-preserved
read_tree_list-loop-items-preserved g t c =
    let r = c.loop-items.invariant in
    let e = c.in_ok-item.ensures in
    let is = c.in-Some.is in
    let some = some_if c.loop-items.seq.left c.in-Some.item _ is (e.none r.run.still.sound) in
    let k = item_taken g.R.Source IsTree c.loop-items.seq c.next_element_with.new.self r.run.still e.list (λ p q r h. h) c.in-Some.item
    (rw is at (e.part r.run.still.sound some)) e.still in
    rw c.in_ok-push.ensures.items (values_step g.R.Source IsTree c.in_ok-seq.seq c.loop-items.seq c.next_element_with.new.self c.loop-items.items.items
    c.in-Some.item r k e.same_reference)

pub read_tree_list-returns : goal.read_tree_list-returns
read_tree_list-returns g t c =
    let r = c.loop-items.invariant in
    let e = c.in_ok-item.ensures in
    let z = none_left c.loop-items.seq.left (λ l. never_none g.R.Source c.loop-items.seq c.next_element_with.new.self
    (rw c.in_default.is at (e.part r.run.still.sound l))) in
    let n = (e.none r.run.still.sound z).1 in
    let d = (c.in_ok-end.ensures.ok (subst IsOpen (sym n) r.run.still)).1 in
    record {
      law = vec_done g.R.Source IsTree _ c.in_ok-seq.seq c.loop-items.seq c.loop-items.items c.in_ok-seq.ensures.opened r _ z
          (via c.end.new.self.0 (search rules) (d ∙ ap (λ s. record s.de.now { failed = false }) n));
    }

pub read_tree_list-returns-in_err-push : goal.read_tree_list-returns-in_err-push
read_tree_list-returns-in_err-push g t c =
    let p = err_from_is_err_and c.from_residual-in_err-push.result c.from_residual-in_err-push.ensures.1 in
    rw (p.1, p.2) (record {
      law = lawful_at g.R.Source _ _ _ c.next_element_with.new.self.de.now _
          (let same = sym c.in_ok-seq.ensures.same_reference ∙ sym c.loop-items.invariant.run.same_reference ∙ sym c.in_ok-item.ensures.same_reference
          in search rules) (
          let r = c.loop-items.invariant in
          let e = c.in_ok-item.ensures in
          let is = c.in-Some.is in
          let some = some_if c.loop-items.seq.left c.in-Some.item _ is (e.none r.run.still.sound) in
          let k = item_taken g.R.Source IsTree c.loop-items.seq c.next_element_with.new.self r.run.still e.list (λ p q r h. h) c.in-Some.item
          (rw is at (e.part r.run.still.sound some)) e.still in
          let v = values_step g.R.Source IsTree c.in_ok-seq.seq c.loop-items.seq c.next_element_with.new.self c.loop-items.items.items c.in-Some.item r k
          e.same_reference in
          lawful_err _ (Row IsTree) _ _ _ _ (vec_row IsTree)
          (row_unkept g.R.Source IsTree _ c.in_ok-seq.seq c.next_element_with.new.self _ c.in_ok-seq.ensures.opened v _ refl));
    })

pub read_tree_list-returns-in_err-end : goal.read_tree_list-returns-in_err-end
read_tree_list-returns-in_err-end g t c =
    let r = c.loop-items.invariant in
    let e = c.in_ok-item.ensures in
    let z = none_left c.loop-items.seq.left (λ l. never_none g.R.Source c.loop-items.seq c.next_element_with.new.self
    (rw c.in_default.is at (e.part r.run.still.sound l))) in
    let n = (e.none r.run.still.sound z).1 in
    let d = (c.in_err-end.ensures.err (subst IsOpen (sym n) r.run.still)).0 in
    absurd (omega (arith, z, d, ap (λ s. s.left) n))
