use Rattle.std.proofs.Common.{rules, arith, ◌≡◌, ◌∙◌, ◌<◌, length, take, refl, ap, sym, subst}
use Rattle.std.specs.Io.KnownBytes.{Consumes}
use Rattle.std.proofs.lemmas.List.{length-append, length-take-le}
use Rattle.std.proofs.KnownBytes.{Consumes-trans, Consumes-whole}
use Rattle.std.proofs.lemmas.Result.{err_from_is_err_and}
use Rattle.canon_lines.proofs.lines.read_to_end.Goals as goal

pub returns-in-Ok-eq0-clause-whole : goal.returns-in-Ok-eq0-clause-whole
returns-in-Ok-eq0-clause-whole g c =
    let room : 0 < length c.pull.new.buf = search rules in
    Consumes-whole _ _ _ (λ input. c.loop-input.input.items ≡ input) c.loop-input.invariant.taken (c.in-Ok-eq0.ensures.end c.in-Ok-eq0.field-0-test room) refl

pub loop-input-preserved : goal.loop-input-preserved
loop-input-preserved g c =
    let inv = c.loop-input.invariant in
    let ok = c.in_ok-append-in-Ok.ensures.ok in
    record {
      taken = subst (Consumes (g.R.Source.ahead c.args.source.now) (g.R.Source.ahead c.pull.new.self)) (sym ok)
          (Consumes-trans _ _ _ _ _ inv.taken c.in-Ok.ensures.bytes);
      faults = c.in-Ok.ensures.sound ∙ inv.faults;
      place = c.pull.ensures.place ∙ inv.place;
    }

pub returns-in_err-append-in-Ok-clause-stops : goal.returns-in_err-append-in-Ok-clause-stops
returns-in_err-append-in-Ok-clause-stops g c =
    let p = err_from_is_err_and c.from_residual.result c.from_residual.ensures.1 in
    rw (p.1, p.2) (c.in-Ok.ensures.sound ∙ c.loop-input.invariant.faults)

pub loop-input-smaller : goal.loop-input-smaller
loop-input-smaller g c =
    let piece = take c.in-Ok.n c.pull.new.buf in
    let longer = ap length c.in_ok-append-in-Ok.ensures.ok ∙ length-append c.loop-input.input.items piece in
    omega (arith, longer, length-take-le c.in-Ok.n c.pull.new.buf c.in-Ok.ensures.bound, c.in-Ok.n-test, c.append.new.input.small)
