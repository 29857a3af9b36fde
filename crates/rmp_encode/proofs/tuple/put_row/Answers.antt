use Rattle.std.proofs.Common.{arith, rules, sym, ◌∙◌, append-nil, []}
use Rattle.std.proofs.lemmas.Result.{err_from_is_err_and}
use Rattle.rmp_encode.specs.Ser.{settings_of}
use Rattle.rmp_encode.proofs.Going.{failed_to_open, keeps_last, keeps_then}
use Rattle.rmp_encode.proofs.Parts.{part_or, rests_at}
use Rattle.rmp_encode.proofs.Refusals.{of_no_part, of_weaker, on_no_part}
use Rattle.rmp_encode.proofs.TupleSteps.{still_tupling}
use Rattle.rmp_encode.proofs.tuple.put_row.Goals as goal

pub returns-in_err-tup : goal.returns-in_err-tup
returns-in_err-tup g c =
    let p = err_from_is_err_and c.from_residual.result c.from_residual.ensures.1 in
    let f = failed_to_open g.W.Sink _ _ c.in_err-tup.was c.serialize_tuple.follows.holds-at-none in
    rw (p.1, p.2) (record {
      writes = part_or g.W.Sink _ (f.writes _ (g.R.Elements.counted c.args.row.now _ ∙ sym c.requires.whole));
      keeps = f.keeps;
      error = of_no_part ⊥ (g.R.Elements.refusals c.args.row.now) _ (of_weaker {Q = ⊥} (λ not. not c.requires.small) _ f.error);
      value = tt;
      long = λ le. absurd (omega (arith, le, c.requires.small));
    })

pub returns-in_err-add_to : goal.returns-in_err-add_to
returns-in_err-add_to g c =
    let p = err_from_is_err_and c.from_residual-in_err-add_to.result c.from_residual-in_err-add_to.ensures.1 in
    let w = c.in_err-add_to.ensures.takes in
    rw (p.1, p.2) (record {
      writes = rests_at g.W.Sink (search rules) (w.writes c.args.se.now _ [] (still_tupling g.W.Sink (sym (append-nil (g.R.Elements.parts_of c.args.row.now (settings_of c.args.se.now).human)))
          (c.in_ok-tup.ensures.opened _ (g.R.Elements.counted c.args.row.now (settings_of c.args.se.now).human ∙ sym c.requires.whole))));
      keeps = keeps_last g.W.Sink (search rules) (keeps_then g.W.Sink c.in_ok-tup.ensures.keeps w.keeps);
      error = w.error;
      value = tt;
      long = λ le. absurd (omega (arith, le, c.requires.small));
    })

pub returns : goal.returns
returns g c =
    let w = c.in_ok-add_to.ensures.takes in
    let none = w.writes c.args.se.now _ [] (still_tupling g.W.Sink (sym (append-nil (g.R.Elements.parts_of c.args.row.now (settings_of c.args.se.now).human)))
    (c.in_ok-tup.ensures.opened _ (g.R.Elements.counted c.args.row.now (settings_of c.args.se.now).human ∙ sym c.requires.whole))) in
    record {
      writes = part_or g.W.Sink _ (rests_at g.W.Sink (search rules) (c.end.ensures.writes c.args.se.now _ none));
      keeps = keeps_last g.W.Sink (search rules) (keeps_then g.W.Sink (keeps_then g.W.Sink c.in_ok-tup.ensures.keeps w.keeps) c.end.ensures.keeps);
      error = on_no_part ⊥ (g.R.Elements.refusals c.args.row.now) c.end.result (c.end.ensures.error c.args.se.now _ none);
      value = search rules;
      long = λ le. absurd (omega (arith, le, c.requires.small));
    }
