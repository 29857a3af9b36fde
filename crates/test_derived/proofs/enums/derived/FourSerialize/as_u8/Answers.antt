use Rattle.rmp_encode.proofs.Variants.{newtype_no_byte, tuple_variant_no_byte, struct_variant_no_byte}
use Rattle.std.proofs.Common.{rules}
use Rattle.test_derived.proofs.enums.derived.FourSerialize.as_u8.Goals as goal

pub returns-in-New-clause-byte : goal.returns-in-New-clause-byte
returns-in-New-clause-byte c = search (rules, newtype_no_byte)

pub returns-in-Tup-clause-byte : goal.returns-in-Tup-clause-byte
returns-in-Tup-clause-byte c = search (rules, tuple_variant_no_byte)

pub returns-in-Str-clause-byte : goal.returns-in-Str-clause-byte
returns-in-Str-clause-byte c = search (rules, struct_variant_no_byte)
