use Rattle.rmp_encode.proofs.Variants.{newtype_no_byte}
use Rattle.std.proofs.Common.{rules}
use Rattle.test_nodes.proofs.parts.derived.WidthSerialize.as_u8.Goals as goal

pub returns-in-Px-clause-byte : goal.returns-in-Px-clause-byte
returns-in-Px-clause-byte c = search (rules, newtype_no_byte)

pub returns-in-Em-clause-byte : goal.returns-in-Em-clause-byte
returns-in-Em-clause-byte c = search (rules, newtype_no_byte)
