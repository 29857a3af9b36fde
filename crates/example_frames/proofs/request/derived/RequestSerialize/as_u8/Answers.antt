use Rattle.rmp_encode.proofs.Variants.{newtype_no_byte, tuple_variant_no_byte}
use Rattle.std.proofs.Common.{rules}
use Rattle.example_frames.proofs.request.derived.RequestSerialize.as_u8.Goals as goal

pub returns-in-Get-clause-byte : goal.returns-in-Get-clause-byte
returns-in-Get-clause-byte c = search (rules, newtype_no_byte)

pub returns-in-Put-clause-byte : goal.returns-in-Put-clause-byte
returns-in-Put-clause-byte c = search (rules, tuple_variant_no_byte)
