use Rattle.std.proofs.Common.{◌≡◌, sym, ◌∙◌, ap, subst, arith, refl, rules, false, ℕ, Option, None, Some, IfNone, Vec, Global}
use Rattle.std.proofs.lemmas.Result.{err_from_is_err_and}
use Rattle.rmp_wire.specs.declared.head.Head.TheVariants.{Array}
use Rattle.rmp_decode.specs.Buffers.{IsBuffer}
use Rattle.rmp_decode.specs.Read.{IsUnsigned}
use Rattle.rmp_decode.specs.Rows.{ReadsEach}
use Rattle.rmp_decode.specs.Seq.{OfRow, IsOpen}
use Rattle.rmp_decode.specs.declared.deserializer.heads.Levels.TheVariants.{Lists}
use Rattle.rmp_decode.proofs.BufferErrors.{number_refused, number_told, unkept_told, number_unkept, number_leaves, deep_leaves, list_unsaid}
use Rattle.rmp_decode.proofs.Buffers.{lawful_err_at, buffer_done, row_of_buffer, opened_after}
use Rattle.rmp_decode.proofs.Opening.{deep_refused}
use Rattle.rmp_decode.proofs.Seqs.{values_start, values_step, each_next, seq_take, seq_unkept}
use Rattle.rmp_decode.proofs.Exactness.{none_told}
use Rattle.rmp_decode.proofs.deserializer.Deserializer.byte_list.Goals as goal

via : {A : Type 0} {x z : A} (y : A) → x ≡ y → y ≡ z → x ≡ z
via y p q = p ∙ q

pub returns-in_err-seq : goal.returns-in_err-seq
returns-in_err-seq g c =
    let p = err_from_is_err_and c.from_residual.result c.from_residual.ensures.1 in
    let f = rw c.in_err-seq.was at c.open_list.follows.holds-at-none in
    rw (p.1, f.1) (record {
      law = λ old m h. deep_refused g.R.Source Lists old c.args.self.now (m, Array c.args.len) h (c.args.len, refl)
          (let r = h.stays.room in omega (arith, f.0, r)) (λ t v. IsBuffer t v.items) _;
      deep = λ _. p.2 ∙ f.2;
      items = λ more. absurd (omega (arith, more, f.0));
      taken = deep_leaves g.R.Source c.args.self.now c.args.len _ f.0;
      fault = none_told _ _ _ refl;
    })

pub loop-items-init : goal.loop-items-init
loop-items-init g c =
    let o = c.in_ok-seq.ensures.opened in
    rw c.new-items.ensures.items (values_start _ _ _ (record { sound = o.sound; marked = rw o.lender c.requires.marked; clean = rw o.lender c.requires.clean }))

pub loop-items-preserved : goal.loop-items-preserved
loop-items-preserved g c =
    let r = c.loop-items.invariant in
    let t = rw c.in-Some.is at (c.in_ok-item.ensures.some r.run.still) in
    rw c.in_ok-push.ensures.items (values_step _ _ _ c.loop-items.seq c.next_number.new.self c.loop-items.items.items c.in-Some.item r t
    c.next_number.ensures.same_reference)

pub returns-in_err-item : goal.returns-in_err-item
returns-in_err-item g c =
    let r = c.loop-items.invariant in
    let same = sym c.in_ok-seq.ensures.same_reference ∙ sym r.run.same_reference ∙ sym c.next_number.ensures.same_reference in
    let p = err_from_is_err_and c.from_residual-in_err-item.result c.from_residual-in_err-item.ensures.1 in
    let f = c.in_err-item.ensures.err r.run.still in
    let opened = c.in_ok-seq.ensures.opened in
    rw (p.1, p.2) (record {
      law = λ old m h. lawful_err_at g.R.Source (λ t (v : Vec ℕ Global). OfRow (λ ms. ReadsEach (IsUnsigned 255) ms v.items) t) (λ t v. IsBuffer t v.items) old
          c.args.self.now _ (m, Array c.args.len) _ h (λ t b e. (b.0, row_of_buffer t b.0.items c.args.len b.1 e))
          (seq_take g.R.Source (λ (v : Vec ℕ Global) ms. ReadsEach (IsUnsigned 255) ms v.items) old c.in_ok-seq.seq c.loop-items.seq r.trees
          (opened_after g.R.Source old c.args.self.now m c.args.len c.in_ok-seq.seq h opened) r.run _ _ c.next_number.new.self _ f
          (c.in_err-item.ensures.marked r.run.still.marked) (search rules) (λ m ks v h. each_next _ r.trees m ks v.items h));
      deep = λ flat. absurd (let deep = opened.deep in omega (arith, flat, deep));
      items = λ _. number_refused g.R.Source c.args.self.now _ c.in_ok-seq.seq c.args.len opened c.loop-items.seq c.next_number.new.self r.trees
          c.loop-items.items.items _ r.run r.values f (search rules) c.in_err-item.ensures.exact;
      taken = number_leaves g.R.Source c.args.self.now _ c.in_ok-seq.seq c.args.len opened c.loop-items.seq c.next_number.new.self r.trees
          c.loop-items.items.items _ opened.deep r.run r.values f (search rules) c.in_err-item.ensures.taken;
      fault = number_told g.R.Source c.args.self.now c.in_ok-seq.seq c.args.len opened c.loop-items.seq c.next_number.new.self r.trees _ _ r.run
          (search rules) c.in_err-item.ensures.exact;
    })

pub returns-in_err-push : goal.returns-in_err-push
returns-in_err-push g c =
    let r = c.loop-items.invariant in
    let same = sym c.in_ok-seq.ensures.same_reference ∙ sym r.run.same_reference ∙ sym c.next_number.ensures.same_reference in
    let p = err_from_is_err_and c.from_residual-in_err-push.result c.from_residual-in_err-push.ensures.1 in
    let t = rw c.in-Some.is at (c.in_ok-item.ensures.some r.run.still) in
    let s = values_step _ _ _ c.loop-items.seq c.next_number.new.self c.loop-items.items.items c.in-Some.item r t c.next_number.ensures.same_reference in
    let opened = c.in_ok-seq.ensures.opened in
    rw (p.1, p.2) (record {
      law = λ old m h. lawful_err_at g.R.Source (λ t (v : Vec ℕ Global). OfRow (λ ms. ReadsEach (IsUnsigned 255) ms v.items) t) (λ t v. IsBuffer t v.items) old
          c.args.self.now _ (m, Array c.args.len) _ h (λ t b e. (b.0, row_of_buffer t b.0.items c.args.len b.1 e))
          (seq_unkept g.R.Source (λ (v : Vec ℕ Global) ms. ReadsEach (IsUnsigned 255) ms v.items) old c.in_ok-seq.seq c.next_number.new.self s.trees
          (opened_after g.R.Source old c.args.self.now m c.args.len c.in_ok-seq.seq h opened) s.run _ (search rules));
      deep = λ flat. absurd (let deep = opened.deep in omega (arith, flat, deep));
      items = λ _. number_unkept g.R.Source c.args.self.now _ c.in_ok-seq.seq c.args.len opened c.loop-items.seq c.next_number.new.self r.trees
          c.loop-items.items.items c.in-Some.item r.run r.values t c.next_number.ensures.same_reference;
      taken = list_unsaid g.R.Source c.args.self.now _ c.args.len;
      fault = unkept_told g.R.Source c.args.self.now c.in_ok-seq.seq c.args.len opened c.loop-items.seq c.next_number.new.self r.trees _ c.in-Some.item r.run t
          (search rules);
    })

at_none : {T P : Type 0} (o : Option T) → ((x : T) → o ≡ Some x → ⊥) → IfNone o P → P
at_none None n p = p
at_none (Some x) n p = absurd (n x refl)

pub returns-in_err-end : goal.returns-in_err-end
returns-in_err-end g c =
    let r = c.loop-items.invariant in
    let n = at_none c.in_ok-item.field-0 c.in_default.not-Some (c.in_ok-item.ensures.none r.run.still) in
    let h = c.in_err-end.ensures.err (subst IsOpen (sym n.1) r.run.still) in
    let left = ap (λ s. s.left) n.1 in
    absurd (omega (arith, h.0, n.0, left))

pub returns : goal.returns
returns g c =
    let r = c.loop-items.invariant in
    let same = sym c.in_ok-seq.ensures.same_reference ∙ sym r.run.same_reference ∙ sym c.next_number.ensures.same_reference in
    let n = at_none c.in_ok-item.field-0 c.in_default.not-Some (c.in_ok-item.ensures.none r.run.still) in
    let e = (c.in_ok-end.ensures.ok (subst IsOpen (sym n.1) r.run.still)).1 in
    record {
      law = λ old m h. buffer_done g.R.Source old c.in_ok-seq.seq c.loop-items.seq r.trees
          (opened_after g.R.Source old c.args.self.now m c.args.len c.in_ok-seq.seq h c.in_ok-seq.ensures.opened) r.run _ _ r.values n.0
          (via c.end.new.self.0 (search rules) (e ∙ ap (λ s. record s.de.now { failed = false }) n.1));
      deep = tt;
      items = tt;
      taken = tt;
      fault = tt;
    }
