use Rattle.std.proofs.Common.{rules, arith, sym, ◌∙◌, map, subst, All}
use Rattle.std.proofs.lemmas.List.{take_all}
use Rattle.std.proofs.lemmas.List.Elements.{All-more}
use Rattle.rmp_encode.specs.Slices.{AllBytes}
use Rattle.rmp_encode.proofs.Packing.{no_bytes_yet, one_isnt, one_is}
use Rattle.rmp_encode.proofs.slice.are_bytes.Goals as goal

pub returns-in_default-clause-none : goal.returns-in_default-clause-none
returns-in_default-clause-none g c = λ _. one_isnt (λ x. g.T.Serialize.data_of x c.args.human) c.args.values.now c.loop-value.value-index c.value-item.result
    c.loop-value-test.true c.value-item.is (sym c.as_u8.ensures.byte ∙ c.in_default.is)

pub loop-value-init : goal.loop-value-init
loop-value-init g c = record { within = omega arith; bytes = no_bytes_yet; values = search rules }

pub loop-value-preserved : goal.loop-value-preserved
loop-value-preserved g c = record {
  within = omega arith;
  bytes = one_is (λ x. g.T.Serialize.data_of x c.args.human) c.args.values.now c.loop-value.value-index c.value-item.result
      c.in-Some._number c.loop-value-test.true c.value-item.is (sym c.as_u8.ensures.byte ∙ c.in-Some.is) (omega arith) c.loop-value.invariant.bytes;
  values = All-more g.T.Serialize.is_value _ _ c.value-item.result c.loop-value-test.true c.loop-value.invariant.values
      (subst g.T.Serialize.is_value c.value-item.is c.in-Some.ensures.value);
}

pub returns-clause-bytes : goal.returns-clause-bytes
returns-clause-bytes g c = λ _. subst (λ l. AllBytes (map (λ x. g.T.Serialize.data_of x c.args.human) l)) (take_all _ _ c.loop-value-test.false)
    c.loop-value.invariant.bytes

pub returns-clause-values : goal.returns-clause-values
returns-clause-values g c = λ _. subst (All g.T.Serialize.is_value) (take_all _ _ c.loop-value-test.false) c.loop-value.invariant.values
