use Rattle.std.proofs.Common.{◌∙◌, inl, inr, refl, sym}
use Rattle.rmp_serde.proofs.value.read.enter.Goals as goal

pub returns-then-room-le1-clause-err : goal.returns-then-room-le1-clause-err
returns-then-room-le1-clause-err g c = inr (c.refuse.ensures.same, c.if-room-le1.true)

pub returns-then-is_err-clause-err : goal.returns-then-is_err-clause-err
returns-then-is_err-clause-err g c = inl c.refuse-then-is_err.ensures.same

pub returns-then-is_err-2-clause-err : goal.returns-then-is_err-2-clause-err
returns-then-is_err-2-clause-err g c = inl c.refuse-then-is_err-2.ensures.same

pub returns-then-inner-eq0-clause-wanted : goal.returns-then-inner-eq0-clause-wanted
returns-then-inner-eq0-clause-wanted g c =
    inl (record { none = sym c.messages-inner.ensures.same ∙ c.if-inner-eq0.true; room = refl; wanted = refl; kept = refl })
