use Rattle.rmp_encode.proofs.Variants.{newtype_no_byte, tuple_variant_no_byte, struct_variant_no_byte}
use Rattle.std.proofs.Common.{rules}
use Rattle.test_lent.proofs.lent.derived.EventSerialize.as_u8.Goals as goal

pub returns-in-Said-clause-byte : goal.returns-in-Said-clause-byte
returns-in-Said-clause-byte g c = search (rules, newtype_no_byte)

pub returns-in-Moved-clause-byte : goal.returns-in-Moved-clause-byte
returns-in-Moved-clause-byte g c = search (rules, tuple_variant_no_byte)

pub returns-in-Put-clause-byte : goal.returns-in-Put-clause-byte
returns-in-Put-clause-byte g c = search (rules, struct_variant_no_byte)

pub returns-in-Held-clause-byte : goal.returns-in-Held-clause-byte
returns-in-Held-clause-byte g c = search (rules, newtype_no_byte)
