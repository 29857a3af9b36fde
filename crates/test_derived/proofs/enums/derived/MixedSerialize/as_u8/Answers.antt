use Rattle.rmp_encode.proofs.Variants.{newtype_no_byte, struct_variant_no_byte}
use Rattle.std.proofs.Common.{rules}
use Rattle.test_derived.proofs.enums.derived.MixedSerialize.as_u8.Goals as goal

pub returns-in-Other-clause-byte : goal.returns-in-Other-clause-byte
returns-in-Other-clause-byte g c = search (rules, newtype_no_byte)

pub returns-in-Kept-clause-byte : goal.returns-in-Kept-clause-byte
returns-in-Kept-clause-byte g c = search (rules, struct_variant_no_byte)
