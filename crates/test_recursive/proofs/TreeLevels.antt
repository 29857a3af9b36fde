-- No Tree is written as a byte. Written by tools/derive.py.
use Rattle.std.proofs.Common.{◌≡◌, ◌∙◌, ap, Option, None}
use Rattle.rmp_encode.specs.Data.{Data}
use Rattle.rmp_encode.specs.Trees.{byte_of}
use Rattle.test_recursive.specs.declared.trees.Tree.{Tree}
use Rattle.test_recursive.specs.declared.trees.Tree.TheOpen.{Tree-F}
use Rattle.test_recursive.specs.TreeLevels.{tree_level, tree_data, tree_is}
use Rattle.rmp_encode.proofs.Variants.{newtype_no_byte}

level_no_byte : (x : Tree-F (Option Data)) → byte_of (tree_level x) ≡ None
level_no_byte (Tree-F.Leaf a) = newtype_no_byte _ _
level_no_byte (Tree-F.Node a) = newtype_no_byte _ _

pub tree_no_byte : (v : Tree) → byte_of (tree_data v) ≡ None
tree_no_byte v = ap byte_of (tree_is v) ∙ level_no_byte _
