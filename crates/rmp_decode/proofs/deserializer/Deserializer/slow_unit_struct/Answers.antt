use Rattle.std.proofs.Common.{refl, rules, arith, inl, inr}
use Rattle.rmp_wire.specs.Msg.{nil}
use Rattle.rmp_decode.proofs.Leaves.{leaf_none, leaf_other, leaf_held}
use Rattle.rmp_decode.proofs.Units.{not_empty, not_nil_or_list, other_is, some_is, empty_read, deep_list}
use Rattle.rmp_decode.proofs.deserializer.Deserializer.slow_unit_struct.Goals as goal

pub returns-in-Some : goal.returns-in-Some
returns-in-Some g c = leaf_held g.R.Source _ _ _ _ c.in-Ok.next c.in-Ok.ensures.begun _ (record { tree = nil; alone = rw c.in-Some.ensures refl; value = inl refl })

pub returns-then-len-gt0 : goal.returns-then-len-gt0
returns-then-len-gt0 g c =
    let i = c.in-Some-as_array.ensures in
    leaf_other g.R.Source _ _ _ _ c.in-Ok.next c.in-Ok.ensures.begun _ (not_empty c.in-Ok.next.1 c.in-Some-as_array.len i (omega arith))
    (some_is _ c.in-Ok.next.0 _ c.in-Some-as_array.len i (let d = c.in-Ok.ensures.deep (c.in-Some-as_array.len, i) in omega (arith, d))) (search rules)

pub returns-else-len-gt0 : goal.returns-else-len-gt0
returns-else-len-gt0 g c =
    let i = c.in-Some-as_array.ensures in
    record {
      law = empty_read g.R.Source _ _ c.in-Ok.next c.in-Ok.ensures.begun _ _ c.in-Some-as_array.len tt i (omega arith)
          (let d = c.in-Ok.ensures.deep (c.in-Some-as_array.len, i) in omega (arith, d)) refl (inr refl);
      exact = λ _. tt;
      taken = λ _. tt;
      memory = tt;
    }

pub returns-in-None : goal.returns-in-None
returns-in-None g c = leaf_other g.R.Source _ _ _ _ c.in-Ok.next c.in-Ok.ensures.begun _ (not_nil_or_list c.in-Ok.next.1 c.in_default.ensures c.in-None.ensures)
    (other_is _ c.in-Ok.next.0 c.in-Ok.next.1 c.in-None.ensures) (search rules)

pub returns-in-Err : goal.returns-in-Err
returns-in-Err g c = elim c.in-Err.ensures.err [
  | inl h ↦ leaf_none g.R.Source _ _ _ _ _ h
  | inr d ↦ deep_list g.R.Source c.args.self.now c.opening.new.self c.in-Err.e d
]
