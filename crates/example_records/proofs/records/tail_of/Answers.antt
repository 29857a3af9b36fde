-- Some bytes are left, and the length of a message at their front says which.
use Rattle.std.proofs.Common.{◌≡◌, ◌∙◌, ap, refl, length, ◌==◌, true, false, Ok, None}
use Rattle.example_records.proofs.records.tail_of.Goals as goal

pub returns-in-Ok-None-clause-cut : goal.returns-in-Ok-None-clause-cut
returns-in-Ok-None-clause-cut c = (
  λ q. (
    λ z. let t : false ≡ true = c.if-is_empty.ensures ∙ ap (λ k. length k == 0) z in absurd (cc),
    c.message_len.ensures.more.0 (c.in-Ok-None.is ∙ ap Ok c.in-Ok-None.field-0-is),
  ),
  λ q. refl,
)
