use Rattle.std.proofs.Common.{◌∙◌, sym, ap}
use Rattle.rmp_decode.specs.Kinds.{raw_msg}
use Rattle.rmp_decode.proofs.Laws.{lawful_ok, lawful_err}
use Rattle.rmp_serde.proofs.RawWriting.{raw_vec, raw_vec_items}
use Rattle.rmp_serde.proofs.raw.owned.RawDeserialize.deserialize.Goals as goal

pub returns-in-Ok-clause-law : goal.returns-in-Ok-clause-law
returns-in-Ok-clause-law g c =
    lawful_ok _ _ _ _ _ _ _ (λ m e. (c.in-Ok.raw.0, e ∙ ap (raw_msg c.in-Ok.raw.0) (sym c.from_utf8.ensures))) c.in-Ok.ensures.law

pub returns-in-Err-clause-law : goal.returns-in-Err-clause-law
returns-in-Err-clause-law g c =
    lawful_err _ _ _ _ _ _ (λ m r. ((r.1.0, raw_vec r.0), r.1.1 ∙ ap (raw_msg r.1.0) (sym (raw_vec_items r.0)))) c.in-Err.ensures.law
