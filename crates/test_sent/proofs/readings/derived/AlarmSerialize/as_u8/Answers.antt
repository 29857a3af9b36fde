use Rattle.rmp_encode.proofs.Variants.{newtype_no_byte, struct_variant_no_byte}
use Rattle.std.proofs.Common.{rules}
use Rattle.test_sent.proofs.readings.derived.AlarmSerialize.as_u8.Goals as goal

pub returns-in-Silent-clause-byte : goal.returns-in-Silent-clause-byte
returns-in-Silent-clause-byte c = search (rules, struct_variant_no_byte)

pub returns-in-Above-clause-byte : goal.returns-in-Above-clause-byte
returns-in-Above-clause-byte c = search (rules, newtype_no_byte)
