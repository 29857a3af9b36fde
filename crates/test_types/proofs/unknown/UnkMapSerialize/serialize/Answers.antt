use Rattle.std.proofs.Common.{length, rules, refl, sym, ◌∙◌, ap, subst, All}
use Rattle.std.proofs.lemmas.List.Elements.{All-nil, All-cons}
use Rattle.std.proofs.lemmas.Result.{err_from_is_err_and}
use Rattle.rmp_encode.specs.Ser.{settings_of}
use Rattle.rmp_encode.specs.Trees.{in_turn}
use Rattle.rmp_encode.proofs.Going.{keeps_then, keeps_last, on_ok, unopened}
use Rattle.rmp_encode.proofs.Lists.{length-in_turn}
use Rattle.rmp_encode.proofs.OpenSteps.{takes, ends, still_open}
use Rattle.rmp_encode.proofs.Parts.{rests_at, part_memory}
use Rattle.test_types.proofs.unknown.UnkMapSerialize.serialize.Goals as goal

pub returns-in_err-map-clause-writes : goal.returns-in_err-map-clause-writes
returns-in_err-map-clause-writes g c =
    let p = err_from_is_err_and c.from_residual.result c.from_residual.ensures.1 in
    rw (p.1, p.2) (part_memory g.W.Sink (unopened g.W.Sink _ _ _ _ c.args.se.now _ _ _ _ c.in_err-map.was c.serialize_map.follows.holds-at-none
    (record {
      size = length c.args.self.now.entries.entries;
      many = length-in_turn (λ k. g.K.Serialize.data_of k (settings_of c.args.se.now).human)
          (λ x. g.V.Serialize.data_of x (settings_of c.args.se.now).human) c.args.self.now.entries.entries _ refl;
    })))

pub loop-key-init : goal.loop-key-init
loop-key-init g c =
    let all = c.into_iter-key-iterator.ensures.into_iter_gives.0 in
    record {
      same = refl;
      kind = c.in_ok-map.ensures.kind;
      owed = c.in_ok-map.ensures.owed;
      writing = still_open g.W.Sink (ap (in_turn (λ k. g.K.Serialize.data_of k (settings_of c.args.se.now).human)
          (λ x. g.V.Serialize.data_of x (settings_of c.args.se.now).human)) (sym all))
          (c.in_ok-map.ensures.opened _ (record {
            size = length c.args.self.now.entries.entries;
            many = length-in_turn
                (λ k. g.K.Serialize.data_of k (settings_of c.args.se.now).human) (λ x. g.V.Serialize.data_of x (settings_of c.args.se.now).human)
                c.args.self.now.entries.entries _ refl;
          }));
      keeps = c.in_ok-map.ensures.keeps;
      values = λ h. subst (All (λ e. g.K.Serialize.is_value e.0 × g.V.Serialize.is_value e.1)) all h;
    }

pub serialize_key-requires : goal.serialize_key-requires
serialize_key-requires g c = record {
  sound = c.loop-key.invariant.writing.sound;
  kind = c.loop-key.invariant.kind;
  turn = c.loop-key.invariant.owed;
  room = takes g.W.Sink (still_open g.W.Sink (ap (in_turn (λ k. g.K.Serialize.data_of k (settings_of c.args.se.now).human)
      (λ x. g.V.Serialize.data_of x (settings_of c.args.se.now).human)) c.in-Some.ensures.steps) c.loop-key.invariant.writing);
}

pub returns-in_err-serialize_key-clause-writes : goal.returns-in_err-serialize_key-clause-writes
returns-in_err-serialize_key-clause-writes g c =
    let p = err_from_is_err_and c.from_residual-in_err-serialize_key.result c.from_residual-in_err-serialize_key.ensures.1 in
    rw (p.1, p.2) (part_memory g.W.Sink (rests_at g.W.Sink (search rules)
    (c.in_err-serialize_key.ensures.writes c.args.se.now _ _
    (still_open g.W.Sink (ap (in_turn (λ k. g.K.Serialize.data_of k (settings_of c.args.se.now).human)
    (λ x. g.V.Serialize.data_of x (settings_of c.args.se.now).human)) c.in-Some.ensures.steps) c.loop-key.invariant.writing))))

pub returns-in_err-serialize_key-clause-keeps : goal.returns-in_err-serialize_key-clause-keeps
returns-in_err-serialize_key-clause-keeps g c = keeps_last g.W.Sink (search rules)
    (keeps_then g.W.Sink c.loop-key.invariant.keeps c.serialize_key.ensures.keeps)

pub serialize_value-requires : goal.serialize_value-requires
serialize_value-requires g c = record {
  sound = c.in_ok-serialize_key.ensures.sound;
  kind = c.serialize_key.ensures.kind;
  turn = c.in_ok-serialize_key.ensures.owed;
}

pub returns-in_err-serialize_value-clause-writes : goal.returns-in_err-serialize_value-clause-writes
returns-in_err-serialize_value-clause-writes g c =
    let p = err_from_is_err_and c.from_residual-in_err-serialize_value.result c.from_residual-in_err-serialize_value.ensures.1 in
    rw (p.1, p.2) (part_memory g.W.Sink (rests_at g.W.Sink (search rules)
    (c.in_err-serialize_value.ensures.writes c.args.se.now _ _
    (c.in_ok-serialize_key.ensures.writes c.args.se.now _ _
    (still_open g.W.Sink (ap (in_turn (λ k. g.K.Serialize.data_of k (settings_of c.args.se.now).human)
    (λ x. g.V.Serialize.data_of x (settings_of c.args.se.now).human)) c.in-Some.ensures.steps) c.loop-key.invariant.writing)))))

pub returns-in_err-serialize_value-clause-keeps : goal.returns-in_err-serialize_value-clause-keeps
returns-in_err-serialize_value-clause-keeps g c = keeps_last g.W.Sink (search rules)
    (keeps_then g.W.Sink (keeps_then g.W.Sink c.loop-key.invariant.keeps c.serialize_key.ensures.keeps) c.serialize_value.ensures.keeps)

pub loop-key-preserved : goal.loop-key-preserved
loop-key-preserved g c = record {
  same = c.serialize_value.ensures.same_reference ∙ c.serialize_key.ensures.same_reference ∙ c.loop-key.invariant.same;
  kind = c.serialize_value.ensures.kind;
  owed = c.in_ok-serialize_value.ensures.owed;
  writing = c.in_ok-serialize_value.ensures.writes c.args.se.now _ _
      (c.in_ok-serialize_key.ensures.writes c.args.se.now _ _
      (still_open g.W.Sink (ap (in_turn (λ k. g.K.Serialize.data_of k (settings_of c.args.se.now).human)
      (λ x. g.V.Serialize.data_of x (settings_of c.args.se.now).human)) c.in-Some.ensures.steps) c.loop-key.invariant.writing));
  keeps = keeps_then g.W.Sink (keeps_then g.W.Sink c.loop-key.invariant.keeps c.serialize_key.ensures.keeps) c.serialize_value.ensures.keeps;
  values = λ h. c.loop-key.invariant.values (subst (All (λ e. g.K.Serialize.is_value e.0 × g.V.Serialize.is_value e.1)) (sym c.in-Some.ensures.steps)
      (All-cons (λ e. g.K.Serialize.is_value e.0 × g.V.Serialize.is_value e.1) (c.in-Some.key.now, c.in-Some.value.now) _
      (c.in_ok-serialize_key.ensures.value, c.in_ok-serialize_value.ensures.value) h));
}

pub end-requires : goal.end-requires
end-requires g c = record {
  sound = c.loop-key.invariant.writing.sound;
  turn = c.loop-key.invariant.owed;
  whole = ends g.W.Sink
      (still_open g.W.Sink (ap (in_turn (λ k. g.K.Serialize.data_of k (settings_of c.args.se.now).human)
      (λ x. g.V.Serialize.data_of x (settings_of c.args.se.now).human)) c.in-None.ensures.steps.0) c.loop-key.invariant.writing);
}

pub returns-clause-writes : goal.returns-clause-writes
returns-clause-writes g c = part_memory g.W.Sink (rests_at g.W.Sink (search rules)
    (c.end.ensures.writes c.args.se.now _ (still_open g.W.Sink
    (ap (in_turn (λ k. g.K.Serialize.data_of k (settings_of c.args.se.now).human) (λ x. g.V.Serialize.data_of x (settings_of c.args.se.now).human))
    c.in-None.ensures.steps.0) c.loop-key.invariant.writing)))

pub returns-clause-keeps : goal.returns-clause-keeps
returns-clause-keeps g c = keeps_last g.W.Sink (search rules) (keeps_then g.W.Sink c.loop-key.invariant.keeps c.end.ensures.keeps)

pub returns-clause-value : goal.returns-clause-value
returns-clause-value g c = on_ok _ (c.loop-key.invariant.values
    (subst (All (λ e. g.K.Serialize.is_value e.0 × g.V.Serialize.is_value e.1)) (sym c.in-None.ensures.steps.0)
    (All-nil (λ e. g.K.Serialize.is_value e.0 × g.V.Serialize.is_value e.1))))
