use Rattle.std.proofs.Common.{rules, arith, refl, ◌∙◌, subst, All}
use Rattle.std.proofs.lemmas.List.{take_all}
use Rattle.std.proofs.lemmas.List.Elements.{All-more}
use Rattle.std.proofs.lemmas.Result.{err_from_is_err_and}
use Rattle.rmp_encode.specs.Ser.{settings_of}
use Rattle.rmp_encode.proofs.Parts.{rests_at, part_memory}
use Rattle.rmp_encode.proofs.Going.{map_rest, map_rest_none, keeps_then, keeps_last, on_ok, unopened}
use Rattle.rmp_encode.proofs.OpenSteps.{takes, ends, still_open}
use Rattle.test_types.proofs.unknown.list_of.Goals as goal

pub returns-in_err-seq-clause-writes : goal.returns-in_err-seq-clause-writes
returns-in_err-seq-clause-writes g c =
    let p = err_from_is_err_and c.from_residual.result c.from_residual.ensures.1 in
    rw (p.1, p.2) (part_memory g.W.Sink (unopened g.W.Sink _ _ _ _ c.args.se.now _ _ _ _ c.in_err-seq.was c.serialize_seq.follows.holds-at-none tt))

pub loop-value-init : goal.loop-value-init
loop-value-init g c = record {
  same = refl;
  within = omega arith;
  kind = c.in_ok-seq.ensures.kind;
  owed = c.in_ok-seq.ensures.owed;
  writing = c.in_ok-seq.ensures.opened _ tt;
  keeps = c.in_ok-seq.ensures.keeps;
  values = search rules;
}

pub serialize_element-requires : goal.serialize_element-requires
serialize_element-requires g c =
    let rest = map_rest (λ x. g.T.Serialize.data_of x (settings_of c.args.se.now).human) c.args.values.now c.loop-value.value-index c.value-item.result
    c.loop-value-test.true c.value-item.is in
    record {
      sound = c.loop-value.invariant.writing.sound;
      kind = c.loop-value.invariant.kind;
      room = takes g.W.Sink
          (still_open g.W.Sink rest c.loop-value.invariant.writing);
    }

pub loop-value-preserved : goal.loop-value-preserved
loop-value-preserved g c =
    let rest = map_rest (λ x. g.T.Serialize.data_of x (settings_of c.args.se.now).human) c.args.values.now c.loop-value.value-index c.value-item.result
    c.loop-value-test.true c.value-item.is in
    record {
      same = c.serialize_element.ensures.same_reference ∙ c.loop-value.invariant.same;
      within = omega arith;
      kind = c.serialize_element.ensures.kind;
      owed = c.serialize_element.ensures.owed;
      writing = c.in_ok-serialize_element.ensures.writes c.args.se.now _ _ (still_open g.W.Sink rest c.loop-value.invariant.writing);
      keeps = keeps_then g.W.Sink c.loop-value.invariant.keeps c.serialize_element.ensures.keeps;
      values = All-more g.T.Serialize.is_value _ _ c.value-item.result c.loop-value-test.true c.loop-value.invariant.values
          (subst g.T.Serialize.is_value c.value-item.is c.in_ok-serialize_element.ensures.value);
    }

pub returns-in_err-serialize_element-clause-writes : goal.returns-in_err-serialize_element-clause-writes
returns-in_err-serialize_element-clause-writes g c =
    let p = err_from_is_err_and c.from_residual-in_err-serialize_element.result c.from_residual-in_err-serialize_element.ensures.1 in
    let rest = map_rest (λ x. g.T.Serialize.data_of x (settings_of c.args.se.now).human) c.args.values.now c.loop-value.value-index c.value-item.result
    c.loop-value-test.true c.value-item.is in
    rw (p.1, p.2) (part_memory g.W.Sink (rests_at g.W.Sink (search rules)
    (c.in_err-serialize_element.ensures.writes c.args.se.now _ _ (still_open g.W.Sink rest c.loop-value.invariant.writing))))

pub returns-in_err-serialize_element-clause-keeps : goal.returns-in_err-serialize_element-clause-keeps
returns-in_err-serialize_element-clause-keeps g c = keeps_last g.W.Sink (search rules)
    (keeps_then g.W.Sink c.loop-value.invariant.keeps c.serialize_element.ensures.keeps)

pub end-requires : goal.end-requires
end-requires g c =
    let rest = map_rest_none (λ x. g.T.Serialize.data_of x (settings_of c.args.se.now).human) c.args.values.now c.loop-value.value-index
    c.loop-value-test.false in
    record {
      sound = c.loop-value.invariant.writing.sound;
      turn = c.loop-value.invariant.owed;
      whole = ends g.W.Sink
          (still_open g.W.Sink rest c.loop-value.invariant.writing);
    }

pub returns-clause-writes : goal.returns-clause-writes
returns-clause-writes g c =
    let rest = map_rest_none (λ x. g.T.Serialize.data_of x (settings_of c.args.se.now).human) c.args.values.now c.loop-value.value-index
    c.loop-value-test.false in
    part_memory g.W.Sink (rests_at g.W.Sink (search rules) (c.end.ensures.writes c.args.se.now _ (still_open g.W.Sink rest c.loop-value.invariant.writing)))

pub returns-clause-keeps : goal.returns-clause-keeps
returns-clause-keeps g c = keeps_last g.W.Sink (search rules) (keeps_then g.W.Sink c.loop-value.invariant.keeps c.end.ensures.keeps)

pub returns-clause-value : goal.returns-clause-value
returns-clause-value g c = on_ok _ (subst (All g.T.Serialize.is_value) (take_all _ _ c.loop-value-test.false) c.loop-value.invariant.values)
