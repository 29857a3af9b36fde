-- No Term is written as a byte. Written by tools/derive.py.
use Rattle.std.proofs.Common.{◌≡◌, ◌∙◌, refl, ap, Option, None}
use Rattle.rmp_encode.specs.Data.{Data}
use Rattle.rmp_encode.specs.Trees.{byte_of}
use Rattle.test_recursive.specs.declared.trees.Term.{Term}
use Rattle.test_recursive.specs.declared.trees.Term.TheOpen.{Term-F}
use Rattle.test_recursive.specs.TermLevels.{term_level, term_data, term_is}
use Rattle.rmp_encode.proofs.Variants.{newtype_no_byte}

level_no_byte : (x : Term-F (Option Data)) → byte_of (term_level x) ≡ None
level_no_byte Term-F.Nothing = refl
level_no_byte (Term-F.Number a) = newtype_no_byte _ _
level_no_byte (Term-F.Name a) = newtype_no_byte _ _
level_no_byte (Term-F.Truth a) = newtype_no_byte _ _
level_no_byte (Term-F.Letter a) = newtype_no_byte _ _
level_no_byte (Term-F.Half a) = newtype_no_byte _ _
level_no_byte (Term-F.Whole a) = newtype_no_byte _ _
level_no_byte (Term-F.Bytes a) = newtype_no_byte _ _
level_no_byte (Term-F.Size a) = newtype_no_byte _ _
level_no_byte (Term-F.Offset a) = newtype_no_byte _ _
level_no_byte (Term-F.Big a) = newtype_no_byte _ _
level_no_byte (Term-F.Wide a) = newtype_no_byte _ _
level_no_byte (Term-F.Not a) = newtype_no_byte _ _
level_no_byte (Term-F.Next a) = newtype_no_byte _ _
level_no_byte (Term-F.Sum a) = newtype_no_byte _ _

pub term_no_byte : (v : Term) → byte_of (term_data v) ≡ None
term_no_byte v = ap byte_of (term_is v) ∙ level_no_byte _
