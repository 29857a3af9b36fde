use Rattle.rmp_encode.proofs.Variants.{tuple_variant_no_byte, struct_variant_no_byte}
use Rattle.std.proofs.Common.{rules}
use Rattle.test_enums.proofs.ports.derived.EntrySerialize.as_u8.Goals as goal

pub returns-in-Harbour-clause-byte : goal.returns-in-Harbour-clause-byte
returns-in-Harbour-clause-byte c = search (rules, struct_variant_no_byte)

pub returns-in-Queue-clause-byte : goal.returns-in-Queue-clause-byte
returns-in-Queue-clause-byte c = search (rules, tuple_variant_no_byte)

pub returns-in-Convoy-clause-byte : goal.returns-in-Convoy-clause-byte
returns-in-Convoy-clause-byte c = search (rules, struct_variant_no_byte)

pub returns-in-Tally-clause-byte : goal.returns-in-Tally-clause-byte
returns-in-Tally-clause-byte c = search (rules, tuple_variant_no_byte)

pub returns-in-Shift-clause-byte : goal.returns-in-Shift-clause-byte
returns-in-Shift-clause-byte c = search (rules, tuple_variant_no_byte)

pub returns-in-Canal-clause-byte : goal.returns-in-Canal-clause-byte
returns-in-Canal-clause-byte c = search (rules, struct_variant_no_byte)
