use Rattle.std.proofs.Common.{◌≡◌, ◌∙◌, sym, ap, arith, rules, ◌/◌}
use Rattle.rmp_wire.specs.Msg.{text}
use Rattle.rmp_serde.specs.Parts.{text_of}
use Rattle.rmp_serde.proofs.PathSteps.{is_text}
use Rattle.rmp_serde.proofs.path.step_of.Goals as goal

pub returns-in-Some : goal.returns-in-Some
returns-in-Some c =
    let e = rw c.in-Some.is at c.as_str.ensures.text in
    let b = rw (c.previous-from.ensures, c.start-to.ensures) at c.in-Ok.ensures.ok in (
      (
        c.before-pairs.result / 2,
        record {
          in_map = search rules;
          before = omega (arith, c.if-before-eq0.false, c.before-pairs.ensures, c.before-2.ensures);
        },
      ),
      (
        c.in-Ok.value,
        is_text c.in-Ok.value c.in-Some.text.now (e ∙ ap text_of c.root.ensures.whole) ∙ ap text (sym c.in_ok-from_str-in-Some.ensures.ok),
        b,
      ),
    )

pub returns : goal.returns
returns c =
    let e = rw c.in-None.is at c.as_str.ensures.text in
    let b = rw (c.previous-from.ensures, c.start-to.ensures) at c.in-Ok.ensures.ok in (
      (
        c.before-pairs.result / 2,
        record {
          in_map = search rules;
          before = omega (arith, c.if-before-eq0.false, c.before-pairs.ensures, c.before-2.ensures);
        },
      ),
      (c.in-Ok.value, (sym (e ∙ ap text_of c.root.ensures.whole), search rules), b),
    )
