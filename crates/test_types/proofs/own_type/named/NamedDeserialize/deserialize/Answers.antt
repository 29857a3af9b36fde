use Rattle.std.proofs.Common.{◌≡◌, ◌∙◌, rules}
use Rattle.std.specs.String.{string_bytes}
use Rattle.rmp_wire.specs.Msg.{Msgs, no_items, item}
use Rattle.rmp_decode.specs.Read.{IsRaw, IsUnsigned}
use Rattle.rmp_decode.specs.Rows.{AndThen, NoMore}
use Rattle.rmp_decode.proofs.Seqs.{run_start, run_step, seq_unopened, seq_element, seq_over, seq_done, and_then_count, no_more_count}
use Rattle.test_types.specs.declared.own_type.named.Named.{Named}
use Rattle.test_types.proofs.own_type.named.NamedDeserialize.deserialize.Goals as goal

via : {A : Type 0} {x z : A} (y : A) → x ≡ y → y ≡ z → x ≡ z
via y p q = p ∙ q

-- what the elements are read as
abbrev parts : Named → Msgs → Type 0
parts v = AndThen (λ k. IsUnsigned 4294967295 k v.0) (AndThen (λ k. IsRaw k (string_bytes v.1)) NoMore)

pub returns-in-Err-clause-law : goal.returns-in-Err-clause-law
returns-in-Err-clause-law g c = seq_unopened g.R.Source parts _ _ _ (rw c.in-Err.is at c.deserialize_tuple_struct.follows.holds-at-none)

pub returns-in-Err-element-clause-law : goal.returns-in-Err-element-clause-law
returns-in-Err-element-clause-law g c =
    let o = c.in-Ok.ensures.opened in
    let s = run_start g.R.Source c.in-Ok.seq o.opened in
    seq_element g.R.Source parts _ c.in-Ok.seq c.in-Ok.seq no_items o s _ (IsUnsigned 4294967295) c.element.new.self _
    (c.in-Err-element.ensures.err s.still) (c.element.ensures.marked s.still.marked) (search rules) (λ m ks v h. (v.0, h.0)) (λ v h. h)

pub returns-in-Err-element-2-clause-law : goal.returns-in-Err-element-2-clause-law
returns-in-Err-element-2-clause-law g c =
    let o = c.in-Ok.ensures.opened in
    let s = run_start g.R.Source c.in-Ok.seq o.opened in
    let t = c.in-Ok-element.ensures.ok s.still in
    let r = run_step g.R.Source _ c.in-Ok.seq c.in-Ok.seq c.element.new.self no_items c.in-Ok-element.number s t c.element.ensures.same_reference in
    seq_element g.R.Source parts _ c.in-Ok.seq c.element.new.self (item t.tree no_items) o r _ (λ m (s : _). IsRaw m (string_bytes s)) c.element-2.new.self
    _ (c.in-Err-element-2.ensures.err r.still) (c.element-2.ensures.marked r.still.marked) (search rules) (λ m ks v h. (v.1, h.1.0)) (λ v h. h.1)

pub returns-in-Ok-end-clause-law : goal.returns-in-Ok-end-clause-law
returns-in-Ok-end-clause-law g c =
    let o = c.in-Ok.ensures.opened in
    let s = run_start g.R.Source c.in-Ok.seq o.opened in
    let t = c.in-Ok-element.ensures.ok s.still in
    let r = run_step g.R.Source _ c.in-Ok.seq c.in-Ok.seq c.element.new.self no_items c.in-Ok-element.number s t c.element.ensures.same_reference in
    let u = c.in-Ok-element-2.ensures.ok r.still in
    let q = run_step g.R.Source _ c.in-Ok.seq c.element.new.self c.element-2.new.self (item t.tree no_items) c.in-Ok-element-2.name r u
    c.element-2.ensures.same_reference in
    let e = c.in-Ok-end.ensures.ok q.still in
    seq_done g.R.Source parts _ c.in-Ok.seq c.element-2.new.self (item t.tree (item u.tree no_items)) o q _ _ (t.value, (u.value, tt)) e.0
    (via c.end.new.self.0 (search rules) e.1)

pub returns-in-Err-end-clause-law : goal.returns-in-Err-end-clause-law
returns-in-Err-end-clause-law g c =
    let o = c.in-Ok.ensures.opened in
    let s = run_start g.R.Source c.in-Ok.seq o.opened in
    let t = c.in-Ok-element.ensures.ok s.still in
    let r = run_step g.R.Source _ c.in-Ok.seq c.in-Ok.seq c.element.new.self no_items c.in-Ok-element.number s t c.element.ensures.same_reference in
    let u = c.in-Ok-element-2.ensures.ok r.still in
    let q = run_step g.R.Source _ c.in-Ok.seq c.element.new.self c.element-2.new.self (item t.tree no_items) c.in-Ok-element-2.name r u
    c.element-2.ensures.same_reference in
    let e = c.in-Err-end.ensures.err q.still in
    seq_over g.R.Source parts _ c.in-Ok.seq c.element-2.new.self (item t.tree (item u.tree no_items)) o q _ _ e.0 (via c.end.new.self.0 (search rules) e.1)
    2 (λ v. and_then_count _ _ _ (and_then_count _ _ _ no_more_count)) (record { 0 = c.in-Ok-element.number; 1 = c.in-Ok-element-2.name })
    (t.value, (u.value, tt))
