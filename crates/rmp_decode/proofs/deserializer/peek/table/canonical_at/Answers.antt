use Rattle.std.proofs.Common.{subst}
use Rattle.rmp_wire.specs.Canonical.{Opens}
use Rattle.rmp_wire.specs.Heads.{canon_head}
use Rattle.rmp_wire.proofs.Canon.{head_fits}
use Rattle.rmp_wire.proofs.Strict.{test_passed}
use Rattle.rmp_decode.proofs.HeadKinds.{allowed_starts}
use Rattle.rmp_decode.proofs.deserializer.peek.table.canonical_at.Goals as goal

pub returns-then-is_canonical : goal.returns-then-is_canonical
returns-then-is_canonical c = allowed_starts _ _ _ c.args.front.now
    (λ rest i. test_passed c.in-Some.head _ rest i (subst (λ b. Opens b (canon_head c.in-Some.head)) c.from_u8.ensures.round
    ((c.is_canonical.ensures.canonical (head_fits _ _ i)).0 c.if-is_canonical.true)))
    (c.in-Some.ensures {u = tt})
