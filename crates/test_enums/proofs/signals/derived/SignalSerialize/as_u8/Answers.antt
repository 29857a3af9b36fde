use Rattle.rmp_encode.proofs.Variants.{newtype_no_byte, tuple_variant_no_byte, struct_variant_no_byte}
use Rattle.std.proofs.Common.{rules}
use Rattle.test_enums.proofs.signals.derived.SignalSerialize.as_u8.Goals as goal

pub returns-in-Call-clause-byte : goal.returns-in-Call-clause-byte
returns-in-Call-clause-byte c = search (rules, newtype_no_byte)

pub returns-in-At-clause-byte : goal.returns-in-At-clause-byte
returns-in-At-clause-byte c = search (rules, tuple_variant_no_byte)

pub returns-in-Sail-clause-byte : goal.returns-in-Sail-clause-byte
returns-in-Sail-clause-byte c = search (rules, struct_variant_no_byte)

pub returns-in-Depth-clause-byte : goal.returns-in-Depth-clause-byte
returns-in-Depth-clause-byte c = search (rules, newtype_no_byte)

pub returns-in-Depths-clause-byte : goal.returns-in-Depths-clause-byte
returns-in-Depths-clause-byte c = search (rules, newtype_no_byte)

pub returns-in-Spotted-clause-byte : goal.returns-in-Spotted-clause-byte
returns-in-Spotted-clause-byte c = search (rules, newtype_no_byte)

pub returns-in-Crew-clause-byte : goal.returns-in-Crew-clause-byte
returns-in-Crew-clause-byte c = search (rules, newtype_no_byte)

pub returns-in-Meet-clause-byte : goal.returns-in-Meet-clause-byte
returns-in-Meet-clause-byte c = search (rules, struct_variant_no_byte)

pub returns-in-Heading-clause-byte : goal.returns-in-Heading-clause-byte
returns-in-Heading-clause-byte c = search (rules, newtype_no_byte)

pub returns-in-Weather-clause-byte : goal.returns-in-Weather-clause-byte
returns-in-Weather-clause-byte c = search (rules, tuple_variant_no_byte)

pub returns-in-Cargo-clause-byte : goal.returns-in-Cargo-clause-byte
returns-in-Cargo-clause-byte c = search (rules, newtype_no_byte)

pub returns-in-Ports-clause-byte : goal.returns-in-Ports-clause-byte
returns-in-Ports-clause-byte c = search (rules, newtype_no_byte)

pub returns-in-Chart-clause-byte : goal.returns-in-Chart-clause-byte
returns-in-Chart-clause-byte c = search (rules, struct_variant_no_byte)

pub returns-in-Answer-clause-byte : goal.returns-in-Answer-clause-byte
returns-in-Answer-clause-byte c = search (rules, newtype_no_byte)

pub returns-in-Course-clause-byte : goal.returns-in-Course-clause-byte
returns-in-Course-clause-byte c = search (rules, newtype_no_byte)

pub returns-in-Pair-clause-byte : goal.returns-in-Pair-clause-byte
returns-in-Pair-clause-byte c = search (rules, newtype_no_byte)

pub returns-in-Maybe-clause-byte : goal.returns-in-Maybe-clause-byte
returns-in-Maybe-clause-byte c = search (rules, newtype_no_byte)

pub returns-in-Pilot-clause-byte : goal.returns-in-Pilot-clause-byte
returns-in-Pilot-clause-byte c = search (rules, struct_variant_no_byte)

pub returns-in-Tug-clause-byte : goal.returns-in-Tug-clause-byte
returns-in-Tug-clause-byte c = search (rules, tuple_variant_no_byte)

pub returns-in-Debt-clause-byte : goal.returns-in-Debt-clause-byte
returns-in-Debt-clause-byte c = search (rules, newtype_no_byte)

pub returns-in-Nothing-clause-byte : goal.returns-in-Nothing-clause-byte
returns-in-Nothing-clause-byte c = search (rules, newtype_no_byte)

pub returns-in-Lights-clause-byte : goal.returns-in-Lights-clause-byte
returns-in-Lights-clause-byte c = search (rules, struct_variant_no_byte)

pub returns-in-Flags-clause-byte : goal.returns-in-Flags-clause-byte
returns-in-Flags-clause-byte c = search (rules, newtype_no_byte)

pub returns-in-Towed-clause-byte : goal.returns-in-Towed-clause-byte
returns-in-Towed-clause-byte c = search (rules, struct_variant_no_byte)

pub returns-in-Fog-clause-byte : goal.returns-in-Fog-clause-byte
returns-in-Fog-clause-byte c = search (rules, tuple_variant_no_byte)
