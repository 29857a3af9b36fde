use Rattle.std.proofs.Common.{[], refl, ap, sym, ◌∙◌, arith}
use Rattle.std.specs.Str.{bytes_eq}
use Rattle.rmp_decode.proofs.Names.{first_of_all, name_met, name_passed, name_unknown}
use Rattle.rmp_decode.proofs.access.names.place_of.Goals as goal

pub loop-i-init : goal.loop-i-init
loop-i-init c = first_of_all _ refl _

pub returns-then-eq : goal.returns-then-eq
returns-then-eq c = name_met _ _ c.loop-i.i _ c.loop-i.invariant c.loop-i-test.true
    (ap (λ z. bytes_eq z c.args.key.now) (sym c.as_bytes.ensures.value) ∙ sym c.if-eq.ensures)

pub loop-i-preserved : goal.loop-i-preserved
loop-i-preserved c = name_passed _ _ c.loop-i.i _ c.loop-i.invariant c.loop-i-test.true
    (ap (λ z. bytes_eq z c.args.key.now) (sym c.as_bytes.ensures.value) ∙ sym c.if-eq.ensures)

pub returns : goal.returns
returns c = name_unknown _ _ c.loop-i.i (record { ref_ptr = (0, 0); now = [] }) c.loop-i.invariant (omega (arith, c.loop-i-test.false))
