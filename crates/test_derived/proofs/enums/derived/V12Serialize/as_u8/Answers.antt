use Rattle.rmp_encode.proofs.Variants.{tuple_variant_no_byte}
use Rattle.std.proofs.Common.{rules}
use Rattle.test_derived.proofs.enums.derived.V12Serialize.as_u8.Goals as goal

pub returns-in-V2-clause-byte : goal.returns-in-V2-clause-byte
returns-in-V2-clause-byte c = search (rules, tuple_variant_no_byte)
