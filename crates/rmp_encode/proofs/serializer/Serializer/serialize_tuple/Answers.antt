use Rattle.std.proofs.Common.{arith, rules, refl, sym, ◌∙◌, false, []}
use Rattle.std.proofs.lemmas.Result.{err_from_is_err_and}
use Rattle.rmp_encode.specs.Going.{head_at}
use Rattle.rmp_encode.proofs.Going.{begins, never_refused, stays_refused}
use Rattle.rmp_encode.proofs.Numbers.{marker_first}
use Rattle.rmp_encode.proofs.Refusals.{none_too_long, of_long, of_sink, refuses_length}
use Rattle.rmp_encode.proofs.TupleSteps.{made_tuple, tuple_too_long, probing_opened}
use Rattle.rmp_encode.specs.Ser.{sink_of}
use Rattle.std.specs.Prelude.{Err}
use Rattle.rmp_encode.proofs.serializer.Serializer.serialize_tuple.Goals as goal

pub returns-in_err-n : goal.returns-in_err-n
returns-in_err-n g c =
    let p = err_from_is_err_and c.from_residual.result c.from_residual.ensures.1 in
    rw (p.1, p.2) (
      (
        refl,
        λ _. tt,
        record {
          keeps = record { settings = refl; place = refl };
          refused = stays_refused c.args.self.now _ c.in_err-n.ensures.refused;
          error = of_long _ c.in_err-n.ensures.refused (λ lt. omega (arith, lt, c.in_err-n.ensures.long));
          long = λ _. refuses_length c.args.self.now _ c.in_err-n.ensures.refused;
          marker = marker_first g.W.Sink _ [] (sink_of c.args.self.now) (sink_of c.args.self.now) (Err c.in_err-n.field-0.0)
              (none_too_long g.W.Sink _ _ c.in_err-n.field-0.0 c.in_err-n.ensures.refused);
          writes = λ all e. tuple_too_long g.W.Sink c.args.self.now c.args.len _ c.in_err-n.ensures.refused c.in_err-n.ensures.long all e;
        },
      ),
      search rules,
    )

pub returns-then-forces_all : goal.returns-then-forces_all
returns-then-forces_all g c = (
  (refl, λ _. refl, tt),
  record {
    refused = tt;
    same_reference = refl;
    fits = c.in_ok-n.ensures.fits;
    left = refl;
    sound = refl;
    opened = λ all e. record {
      sound = refl;
      left_is = sym e;
      state = rw c.in_ok-n.ensures.same
          (probing_opened g.W.Sink c.args.self.now c.args.len _ c.empty-kept.ensures (sym c.forces_all.ensures ∙ c.if-forces_all.true) c.in_ok-n.ensures.fits
          all e);
    };
    keeps = record { settings = refl; place = refl };
  },
)

pub returns-in_err-put_head : goal.returns-in_err-put_head
returns-in_err-put_head g c =
    let p = err_from_is_err_and c.from_residual-in_err-put_head.result c.from_residual-in_err-put_head.ensures.1 in
    rw (p.1, p.2) (
      (
        refl,
        λ _. tt,
        record {
          keeps = c.put_head.ensures.keeps;
          refused = never_refused g.W.Sink.takes_memory _ _ _ _ _ c.in_err-put_head.ensures.writes.cause;
          error = of_sink _ _ c.in_err-put_head.ensures.error;
          long = λ h. absurd (h c.in_ok-n.ensures.fits);
          marker = marker_first g.W.Sink _ [] (sink_of c.args.self.now) (sink_of c.put_head.new.self) (Err c.in_err-put_head.field-0.0) c.in_err-put_head.ensures.marker;
          writes = λ all e. begins g.W.Sink (head_at false c.args.len) c.args.self.now c.put_head.new.self _ c.in_ok-n.ensures.fits c.put_head.ensures.keeps
              (rw c.in_ok-n.ensures.same at c.in_err-put_head.ensures.writes) _ all
              (made_tuple _ all c.args.len (sym c.forces_all.ensures ∙ c.if-forces_all.false) e);
        },
      ),
      search rules,
    )

pub returns : goal.returns
returns g c = (
  (refl, λ _. refl, tt),
  record {
    refused = tt;
    same_reference = refl;
    fits = c.in_ok-n.ensures.fits;
    left = refl;
    sound = refl;
    opened = λ all e. record {
      sound = refl;
      left_is = sym e;
      state = begins g.W.Sink (head_at false c.args.len) c.args.self.now c.put_head.new.self _ c.in_ok-n.ensures.fits c.put_head.ensures.keeps
          (rw c.in_ok-n.ensures.same at c.in_ok-put_head.ensures.writes) _ all
          (made_tuple _ all c.args.len (sym c.forces_all.ensures ∙ c.if-forces_all.false) e);
    };
    keeps = c.put_head.ensures.keeps;
  },
)
