use Rattle.std.proofs.Common.{◌≡◌, ◌-◌, arith, subst}
use Rattle.rmp_path.specs.Places.{Locates}
use Rattle.rmp_serde.proofs.refusal.part_inside.Goals as goal

pub returns : goal.returns
returns c =
    let e : c.saturating_sub.result ≡ c.args.position - 1 = omega (arith, c.saturating_sub.ensures) in
    (c.in_ok-inner.inner, subst (λ z. Locates c.args.input.now z c.in_ok-inner.inner) e c.in_ok-inner.ensures, c.outward.ensures)
