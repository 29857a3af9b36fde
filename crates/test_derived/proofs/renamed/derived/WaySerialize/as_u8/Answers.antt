use Rattle.rmp_encode.proofs.Variants.{newtype_no_byte, struct_variant_no_byte}
use Rattle.std.proofs.Common.{rules}
use Rattle.test_derived.proofs.renamed.derived.WaySerialize.as_u8.Goals as goal

pub returns-in-OverLand-clause-byte : goal.returns-in-OverLand-clause-byte
returns-in-OverLand-clause-byte c = search (rules, struct_variant_no_byte)

pub returns-in-AcrossTheSea-clause-byte : goal.returns-in-AcrossTheSea-clause-byte
returns-in-AcrossTheSea-clause-byte c = search (rules, newtype_no_byte)
