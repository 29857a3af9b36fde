use Rattle.std.proofs.Common.{◌∙◌, arith}
use Rattle.rmp_serde.proofs.FoundTexts.{whole_text}
use Rattle.rmp_serde.proofs.refusal.text_after.Goals as goal

pub returns-in_ok-from_str-in-Ok : goal.returns-in_ok-from_str-in-Ok
returns-in_ok-from_str-in-Ok c = rw c.in-Text.is
    (whole_text c.in-Text.len c.args.rest.now c.in_ok-from_str-in-Ok.field-0 (omega (arith, c.if-rest-len.false))
    (c.in_ok-from_str-in-Ok.ensures.ok ∙ c.in-Ok.ensures.cases.0))
