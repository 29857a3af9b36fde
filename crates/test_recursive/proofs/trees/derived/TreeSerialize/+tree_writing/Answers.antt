use Rattle.std.proofs.Common.{◌∙◌, sym, ap}
use Rattle.rmp_recursive.specs.Parts.{all_by}
use Rattle.test_recursive.specs.declared.trees.Tree.{out-Tree}
use Rattle.test_recursive.specs.declared.trees.Tree.TheOpen.{Tree-F}
use Rattle.test_recursive.specs.declared.trees.Tree.TheViews.{out-roll-Tree}
use Rattle.test_recursive.specs.TreeLevels.{tree_fits_in}
use Rattle.test_recursive.specs.declared.trees.Tree.TheVariants.{rolls-Leaf, rolls-Node}
use Rattle.rmp_recursive.proofs.Parts.{on_ok}
use Rattle.test_recursive.proofs.trees.derived.TreeSerialize.+tree_writing.Goals as goal

pub returns-in-Leaf-clause-value : goal.returns-in-Leaf-clause-value
returns-in-Leaf-clause-value g t c =
    let a = c.in-Leaf.value in
    let is = ap out-Tree (c.in-Leaf.is ∙ sym (rolls-Leaf a)) ∙ out-roll-Tree (Tree-F.Leaf a) in
    on_ok c.serialize_newtype_variant.result _ _ (λ h. tree_fits_in c.args.self.now (Tree-F.Leaf a) is (h)) c.serialize_newtype_variant.ensures.value

pub returns-in-Node-clause-value : goal.returns-in-Node-clause-value
returns-in-Node-clause-value g t c =
    let a = c.in-Node.value in
    let is = ap out-Tree (c.in-Node.is ∙ sym (rolls-Node a)) ∙ out-roll-Tree (Tree-F.Node a) in
    on_ok c.serialize_newtype_variant-in-Node.result _ _ (λ h. tree_fits_in c.args.self.now (Tree-F.Node a) is (all_by _ a.items h))
    c.serialize_newtype_variant-in-Node.ensures.value
