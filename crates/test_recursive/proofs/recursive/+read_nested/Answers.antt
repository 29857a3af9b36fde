use Rattle.std.proofs.Common.{◌≡◌, ◌∙◌, ap, subst, sym, rules, arith, false}
use Rattle.std.proofs.lemmas.Result.{err_from_is_err_and}
use Rattle.rmp_decode.specs.Seq.{IsOpen}
use Rattle.rmp_decode.proofs.Laws.{lawful_err}
use Rattle.rmp_decode.proofs.Seqs.{values_start, values_step, via}
use Rattle.test_recursive.specs.declared.recursive.Nested.{out-roll-Nested}
use Rattle.rmp_recursive.specs.Parts.{Row}
use Rattle.rmp_recursive.proofs.Parts.{row_unopened, row_refused, row_unkept, part_steps, steps_at}
use Rattle.rmp_recursive.proofs.Parts.{item_taken, item_refused, some_if, some_if_err, none_left, never_none}
use Rattle.test_recursive.specs.NestedLevels.{IsNested, nested_row}
use Rattle.test_recursive.proofs.NestedLevels.{nested_done}
use Rattle.test_recursive.proofs.recursive.+read_nested.Goals as goal

pub returns-in_err-seq : goal.returns-in_err-seq
returns-in_err-seq g t c =
    let p = err_from_is_err_and c.from_residual.result c.from_residual.ensures.1 in
    rw (p.1, p.2) (record {
      law = lawful_err _ (Row IsNested) _ _ _ _ nested_row
          (row_unopened g.R.Source IsNested _ _ _ (rw c.in_err-seq.was at c.deserialize_seq.follows.holds-at-none));
    })

pub loop-sub-init : goal.loop-sub-init
loop-sub-init g t c = rw c.new-sub.ensures.items (values_start g.R.Source IsNested c.in_ok-seq.seq c.in_ok-seq.ensures.opened.opened)

pub next_element_with-requires : goal.next_element_with-requires
next_element_with-requires g t c = λ s some d l p q.
    let h = part_steps g.R.Source c.args.de.now c.in_ok-seq.seq c.loop-sub.seq _ c.in_ok-seq.ensures.opened c.loop-sub.invariant.run d l in
    let e : steps_at p.now ≡ steps_at d = ap steps_at q in
    (omega (arith, h, e, c.decreases), ((λ a m. m), (λ a m. m)))

pub returns-in_err-part : goal.returns-in_err-part
returns-in_err-part g t c =
    let p = err_from_is_err_and c.from_residual-in_err-part.result c.from_residual-in_err-part.ensures.1 in
    let r = c.loop-sub.invariant in
    let e = c.in_err-part.ensures in
    let some = some_if_err c.loop-sub.seq.left _ (e.none r.run.still.sound) in
    let f = item_refused g.R.Source IsNested c.loop-sub.seq c.next_element_with.new.self r.run.still e.list (λ p q r h. h) _ some
    (e.part r.run.still.sound some) in
    rw (p.1, p.2) (record {
      law = lawful_err _ (Row IsNested) _ _ _ _ nested_row
          (row_refused g.R.Source IsNested _ c.in_ok-seq.seq c.loop-sub.seq c.loop-sub.sub.items c.in_ok-seq.ensures.opened r _ c.next_element_with.new.self _ f
          (e.marked r.run.still.marked) (search rules));
    })

pub loop-sub-preserved : goal.loop-sub-preserved
loop-sub-preserved g t c =
    let r = c.loop-sub.invariant in
    let e = c.in_ok-part.ensures in
    let is = c.in-Some.is in
    let some = some_if c.loop-sub.seq.left c.in-Some.part _ is (e.none r.run.still.sound) in
    let k = item_taken g.R.Source IsNested c.loop-sub.seq c.next_element_with.new.self r.run.still e.list (λ p q r h. h) c.in-Some.part
    (rw is at (e.part r.run.still.sound some)) e.still in
    rw c.in_ok-push.ensures.items (values_step g.R.Source IsNested c.in_ok-seq.seq c.loop-sub.seq c.next_element_with.new.self c.loop-sub.sub.items
    c.in-Some.part r k e.same_reference)

pub returns : goal.returns
returns g t c =
    let r = c.loop-sub.invariant in
    let e = c.in_ok-part.ensures in
    let z = none_left c.loop-sub.seq.left (λ l. never_none g.R.Source c.loop-sub.seq c.next_element_with.new.self
    (rw c.in_default.is at (e.part r.run.still.sound l))) in
    let n = (e.none r.run.still.sound z).1 in
    let d = (c.in_ok-end.ensures.ok (subst IsOpen (sym n) r.run.still)).1 in
    record {
      law = nested_done g.R.Source _ c.in_ok-seq.seq c.loop-sub.seq c.loop-sub.sub.items c.in_ok-seq.ensures.opened r _ _
          (ap (λ z. z.sub.items) (sym (out-roll-Nested _))) z (via c.end.new.self.0 (search rules) (d ∙ ap (λ s. record s.de.now { failed = false }) n));
    }

pub returns-in_err-push : goal.returns-in_err-push
returns-in_err-push g t c =
    let p = err_from_is_err_and c.from_residual-in_err-push.result c.from_residual-in_err-push.ensures.1 in
    let r = c.loop-sub.invariant in
    let e = c.in_ok-part.ensures in
    let is = c.in-Some.is in
    let some = some_if c.loop-sub.seq.left c.in-Some.part _ is (e.none r.run.still.sound) in
    let k = item_taken g.R.Source IsNested c.loop-sub.seq c.next_element_with.new.self r.run.still e.list (λ p q r h. h) c.in-Some.part
    (rw is at (e.part r.run.still.sound some)) e.still in
    let v = values_step g.R.Source IsNested c.in_ok-seq.seq c.loop-sub.seq c.next_element_with.new.self c.loop-sub.sub.items c.in-Some.part r k
    e.same_reference in
    rw (p.1, p.2) (record {
      law = lawful_err _ (Row IsNested) _ _ _ _ nested_row
          (row_unkept g.R.Source IsNested _ c.in_ok-seq.seq c.next_element_with.new.self _ c.in_ok-seq.ensures.opened v _ (search rules));
    })

pub returns-in_err-end : goal.returns-in_err-end
returns-in_err-end g t c =
    let r = c.loop-sub.invariant in
    let e = c.in_ok-part.ensures in
    let z = none_left c.loop-sub.seq.left (λ l. never_none g.R.Source c.loop-sub.seq c.next_element_with.new.self
    (rw c.in_default.is at (e.part r.run.still.sound l))) in
    let n = (e.none r.run.still.sound z).1 in
    let d = (c.in_err-end.ensures.err (subst IsOpen (sym n) r.run.still)).0 in
    absurd (omega (arith, z, d, ap (λ s. s.left) n))
