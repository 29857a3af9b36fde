use Rattle.std.proofs.Common.{◌∙◌, sym, ap}
use Rattle.rmp_decode.specs.Kinds.{raw_msg}
use Rattle.rmp_decode.proofs.Laws.{lawful_ok, lawful_err}
use Rattle.rmp_serde.proofs.RawWriting.{raw_ref_lent, raw_ref_lent_bytes}
use Rattle.rmp_serde.proofs.raw.borrowed.RawRefDeserialize.deserialize.Goals as goal

pub returns-in-Ok-clause-law : goal.returns-in-Ok-clause-law
returns-in-Ok-clause-law g c =
    lawful_ok _ _ _ _ _ _ _ (λ m r. (r.0, (r.1.0, r.1.1 ∙ ap (raw_msg r.1.0) (sym c.from_utf8.ensures)))) c.in-Ok.ensures.law

pub returns-in-Err-clause-law : goal.returns-in-Err-clause-law
returns-in-Err-clause-law g c =
    lawful_err _ _ _ _ _ _
    (λ m r. (raw_ref_lent r.0, (r.1.0, (r.1.1.0, r.1.1.1 ∙ ap (raw_msg r.1.1.0) (sym (raw_ref_lent_bytes r.0)))))) c.in-Err.ensures.law
