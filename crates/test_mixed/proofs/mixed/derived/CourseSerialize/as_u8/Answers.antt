use Rattle.rmp_encode.proofs.Variants.{newtype_no_byte, tuple_variant_no_byte, struct_variant_no_byte}
use Rattle.std.proofs.Common.{rules}
use Rattle.test_mixed.proofs.mixed.derived.CourseSerialize.as_u8.Goals as goal

pub returns-in-Toward-clause-byte : goal.returns-in-Toward-clause-byte
returns-in-Toward-clause-byte c = search (rules, newtype_no_byte)

pub returns-in-Between-clause-byte : goal.returns-in-Between-clause-byte
returns-in-Between-clause-byte c = search (rules, tuple_variant_no_byte)

pub returns-in-By-clause-byte : goal.returns-in-By-clause-byte
returns-in-By-clause-byte c = search (rules, struct_variant_no_byte)
