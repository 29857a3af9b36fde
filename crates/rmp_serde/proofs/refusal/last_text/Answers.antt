use Rattle.std.proofs.Common.{◌≡◌, ◌-◌, arith, subst}
use Rattle.std.proofs.lemmas.Result.{IfOk-weaker}
use Rattle.rmp_path.specs.Places.{Locates}
use Rattle.rmp_serde.specs.Explaining.{IsTextAt}
use Rattle.rmp_serde.proofs.refusal.last_text.Goals as goal

pub returns : goal.returns
returns c =
    let e : c.saturating_sub.result ≡ c.args.position - 1 = omega (arith, c.saturating_sub.ensures) in
    IfOk-weaker c.text_at.result _ _
    (λ found p. (
      c.in_ok-inner.inner,
      subst (λ z. Locates c.args.input.now z c.in_ok-inner.inner) e c.in_ok-inner.ensures,
      subst (λ xs. IsTextAt xs found) c.bytes_from.ensures p,
    )) c.text_at.ensures
