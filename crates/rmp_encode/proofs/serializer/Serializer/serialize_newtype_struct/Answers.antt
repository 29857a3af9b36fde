use Rattle.std.proofs.Common.{refl, sym, ◌∙◌}
use Rattle.rmp_encode.proofs.Wrapped.{newtype_writes, newtype_refuses}
use Rattle.rmp_encode.proofs.serializer.Serializer.serialize_newtype_struct.Goals as goal

pub returns-then-eq-clause-writes : goal.returns-then-eq-clause-writes
returns-then-eq-clause-writes g c = newtype_refuses g.W.Sink _ _ c.args.name.now _ _ _ refl (sym c.eq.ensures ∙ c.if-eq.true)

pub returns-clause-writes : goal.returns-clause-writes
returns-clause-writes g c = newtype_writes g.W.Sink _ c.args.name.now _ (sym c.eq.ensures ∙ c.if-eq.false) c.serialize.ensures.writes
