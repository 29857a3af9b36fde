use Rattle.rmp_encode.proofs.Variants.{newtype_no_byte, struct_variant_no_byte}
use Rattle.std.proofs.Common.{rules}
use Rattle.test_derived.proofs.kinds.derived.EitherSerialize.as_u8.Goals as goal

pub returns-in-Left-clause-byte : goal.returns-in-Left-clause-byte
returns-in-Left-clause-byte g c = search (rules, newtype_no_byte)

pub returns-in-Right-clause-byte : goal.returns-in-Right-clause-byte
returns-in-Right-clause-byte g c = search (rules, struct_variant_no_byte)
