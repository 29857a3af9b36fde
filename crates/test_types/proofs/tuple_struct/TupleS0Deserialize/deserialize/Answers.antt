use Rattle.std.proofs.Common.{◌≡◌, ◌∙◌, rules}
use Rattle.rmp_wire.specs.Msg.{Msgs, no_items}
use Rattle.rmp_decode.specs.Rows.{NoMore}
use Rattle.rmp_decode.proofs.Seqs.{run_start, seq_unopened, seq_over, seq_done, no_more_count}
use Rattle.test_types.specs.declared.tuple_struct.TupleS0.{TupleS0}
use Rattle.test_types.proofs.tuple_struct.TupleS0Deserialize.deserialize.Goals as goal

via : {A : Type 0} {x z : A} (y : A) → x ≡ y → y ≡ z → x ≡ z
via y p q = p ∙ q

-- what the elements are read as
abbrev parts : TupleS0 → Msgs → Type 0
parts v = NoMore

pub returns-in-Err-clause-law : goal.returns-in-Err-clause-law
returns-in-Err-clause-law g c = seq_unopened g.R.Source parts _ _ _ (rw c.in-Err.is at c.deserialize_tuple_struct.follows.holds-at-none)

pub returns-in-Ok-end-clause-law : goal.returns-in-Ok-end-clause-law
returns-in-Ok-end-clause-law g c =
    let o = c.in-Ok.ensures.opened in
    let e = c.in-Ok-end.ensures.ok o.opened in
    seq_done g.R.Source parts _ c.in-Ok.seq c.in-Ok.seq no_items o (run_start g.R.Source c.in-Ok.seq o.opened) _ _ tt e.0
    (via c.end.new.self.0 (search rules) e.1)

pub returns-in-Err-end-clause-law : goal.returns-in-Err-end-clause-law
returns-in-Err-end-clause-law g c =
    let o = c.in-Ok.ensures.opened in
    let e = c.in-Err-end.ensures.err o.opened in
    seq_over g.R.Source parts _ c.in-Ok.seq c.in-Ok.seq no_items o (run_start g.R.Source c.in-Ok.seq o.opened) _ _ e.0
    (via c.end.new.self.0 (search rules) e.1) 0 (λ v. no_more_count) (record {}) tt
