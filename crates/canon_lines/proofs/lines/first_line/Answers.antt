use Rattle.std.proofs.Common.{◌≡◌, ◌∙◌, ◌+◌, ◌-◌, ◌∷◌, refl, length, ap, sym, subst, take, drop, length-drop, arith, rules, tests}
use Rattle.std.proofs.lemmas.List.{take_all}
use Rattle.canon_lines.specs.Lines.{lines_in, NoEnd}
use Rattle.canon_lines.proofs.Walking.{none_both, none_more, ends_at, ends_nowhere}
use Rattle.canon_lines.proofs.lines.first_line.Goals as goal

pub loop-at-preserved : goal.loop-at-preserved
loop-at-preserved c =
    let rest = drop c.loop-at.at c.args.text.now in
    let block : (c.loop-at.at + 16) - c.loop-at.at ≡ 16 = omega arith in
    record {
      within = omega (arith, c.loop-at-test.true, c.loop-at.invariant.within);
      none = none_both c.args.text.now c.loop-at.at 16 c.loop-at.invariant.none (subst (λ n. NoEnd (take n rest)) block (c.if-has_no_end.ensures.none refl));
    }

pub returns-then-text-at-eq10-clause-lines : goal.returns-then-text-at-eq10-clause-lines
returns-then-text-at-eq10-clause-lines c =
    let rest = drop (c.loop-at-2.at + 1) c.args.text.now in
    ends_at c.args.text.now c.loop-at-2.at _ c.loop-at-2-test.true c.loop-at-2.invariant.none c.if-text-at-eq10.true
    ∙ ap (λ t. take c.loop-at-2.at c.args.text.now ∷ lines_in t)
    (sym (take_all (length c.args.text.now - (c.loop-at-2.at + 1)) rest (omega (arith, length-drop (c.loop-at-2.at + 1) c.args.text.now))))

pub loop-at-2-preserved : goal.loop-at-2-preserved
loop-at-2-preserved c = record {
  within = omega (arith, c.loop-at-2-test.true);
  none = none_more c.args.text.now c.loop-at-2.at 0 c.loop-at-2-test.true c.loop-at-2.invariant.none (search (rules, tests));
}

pub returns-clause-lines : goal.returns-clause-lines
returns-clause-lines c = ends_nowhere c.args.text.now
    (subst NoEnd (take_all c.loop-at-2.at c.args.text.now (omega (arith, c.loop-at-2-test.false))) c.loop-at-2.invariant.none)
