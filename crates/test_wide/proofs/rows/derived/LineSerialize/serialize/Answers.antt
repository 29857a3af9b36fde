use Rattle.rmp_encode.proofs.Parts.{part_takes}
use Rattle.std.proofs.Common.{rules}
use Rattle.test_wide.proofs.rows.derived.LineSerialize.serialize.Goals as goal

pub returns-in-Short-clause-value : goal.returns-in-Short-clause-value
returns-in-Short-clause-value g c = rw c.in-Short.is c.serialize_tuple_variant_of.ensures.value

pub returns-in-Short-clause-error : goal.returns-in-Short-clause-error
returns-in-Short-clause-error g c = rw c.in-Short.is c.serialize_tuple_variant_of.ensures.error

pub returns-in-Short-clause-writes : goal.returns-in-Short-clause-writes
returns-in-Short-clause-writes g c = rw c.in-Short.is (part_takes g.W.Sink _ (λ h. grind rules) c.serialize_tuple_variant_of.ensures.writes)

pub returns-in-Long-clause-value : goal.returns-in-Long-clause-value
returns-in-Long-clause-value g c = rw c.in-Long.is c.serialize_tuple_variant_of-in-Long.ensures.value

pub returns-in-Long-clause-error : goal.returns-in-Long-clause-error
returns-in-Long-clause-error g c = rw c.in-Long.is c.serialize_tuple_variant_of-in-Long.ensures.error

pub returns-in-Long-clause-writes : goal.returns-in-Long-clause-writes
returns-in-Long-clause-writes g c = rw c.in-Long.is (part_takes g.W.Sink _ (λ h. grind rules) c.serialize_tuple_variant_of-in-Long.ensures.writes)
