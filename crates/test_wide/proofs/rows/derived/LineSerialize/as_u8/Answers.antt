use Rattle.rmp_encode.proofs.Variants.{tuple_variant_no_byte}
use Rattle.std.proofs.Common.{rules}
use Rattle.test_wide.proofs.rows.derived.LineSerialize.as_u8.Goals as goal

pub returns-in-Short-clause-byte : goal.returns-in-Short-clause-byte
returns-in-Short-clause-byte c = search (rules, tuple_variant_no_byte)

pub returns-in-Long-clause-byte : goal.returns-in-Long-clause-byte
returns-in-Long-clause-byte c = search (rules, tuple_variant_no_byte)
