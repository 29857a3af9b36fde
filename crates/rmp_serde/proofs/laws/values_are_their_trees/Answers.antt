use Rattle.rmp_serde.proofs.ValueLaws.{values_equal, values_again}
use Rattle.rmp_serde.proofs.laws.values_are_their_trees.Goals as goal

pub returns-clause-equal : goal.returns-clause-equal
returns-clause-equal c = values_equal

pub returns-clause-again : goal.returns-clause-again
returns-clause-again c = values_again
