use Rattle.std.proofs.Common.{◌≡◌, Bool, true, false, refl, subst, arith}
use Rattle.std.specs.Prelude.{not, ◌||◌}
use Rattle.std.proofs.lemmas.List.{take_all}
use Rattle.canon_lines.specs.Lines.{NoEnd}
use Rattle.canon_lines.proofs.Walking.{none_more}
use Rattle.canon_lines.proofs.lines.has_no_end.Goals as goal

or_parts : (a b : Bool) → (a || b) ≡ false → (a ≡ false) × (b ≡ false)
or_parts true b e = absurd cc
or_parts false b e = (refl, e)

not_true : (a : Bool) → not a ≡ true → a ≡ false
not_true true e = absurd cc
not_true false e = refl

pub loop-i-preserved : goal.loop-i-preserved
loop-i-preserved c = record {
  none = λ e.
      let both = or_parts c.loop-i.found _ e in
      none_more c.args.block.now c.loop-i.i 0 c.loop-i-test.true (c.loop-i.invariant.none both.0) both.1;
}

pub returns : goal.returns
returns c = record {
  none = λ e. subst NoEnd (take_all c.loop-i.i c.args.block.now (omega (arith, c.loop-i-test.false))) (c.loop-i.invariant.none (not_true c.loop-i.found e));
}
