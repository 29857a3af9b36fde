use Rattle.std.proofs.Common.{subst, rules}
use Rattle.std.proofs.lemmas.Bool.{eqb-true}
use Rattle.rmp_decode.specs.LeafTable.{SkipsLeaves}
use Rattle.rmp_decode.proofs.LeafTable.{leaf_skipped}
use Rattle.rmp_decode.proofs.deserializer.skip.skip_leaf.Goals as goal

pub returns-clause-skipped : goal.returns-clause-skipped
returns-clause-skipped g c = λ e.
    leaf_skipped g.R.Source c.args.de.now _ (search rules) (search rules)
    (subst (λ j. SkipsLeaves g.R.Source 1 j c.args.de.now c.skip_leaves.new.de) (eqb-true c.skip_leaves.result 0 e) c.skip_leaves.ensures.skipped)
