use Rattle.std.proofs.Common.{inl, inr, refl}
use Rattle.rmp_serde.proofs.Conversions.{tree_read, too_deep, not_utf8}
use Rattle.rmp_serde.proofs.value.convert.read_back.Goals as goal

pub returns-in-Ok-clause-ok : goal.returns-in-Ok-clause-ok
returns-in-Ok-clause-ok c = λ t i. tree_read t c.args.bytes.now c.in-Ok.value i c.in-Ok.ensures.ok

pub returns-in-Err-DepthLimitExceeded-clause-err : goal.returns-in-Err-DepthLimitExceeded-clause-err
returns-in-Err-DepthLimitExceeded-clause-err c = λ t i.
    inr (inl (
      refl,
      too_deep t c.args.bytes.now i c.in-Err-DepthLimitExceeded.field-0 c.in-Err-DepthLimitExceeded.field-0-is
          c.in-Err-DepthLimitExceeded.ensures.refusal,
    ))

pub returns-in-Err-Utf8Error-clause-err : goal.returns-in-Err-Utf8Error-clause-err
returns-in-Err-Utf8Error-clause-err c = λ t i.
    inr (inr (
      refl,
      not_utf8 t c.args.bytes.now i c.in-Err-Utf8Error.field-0 c.in-Err-Utf8Error.field-0-0 c.in-Err-Utf8Error.field-0-is
          c.in-Err-Utf8Error.ensures.refusal,
    ))
