use Rattle.rmp_serde.specs.ValueLowers.{value_tree}
use Rattle.rmp_serde.proofs.Lowering.{value_spelled, value_only, value_fails}
use Rattle.rmp_serde.proofs.laws.value_is_its_tree.Goals as goal

pub returns-clause-tree : goal.returns-clause-tree
returns-clause-tree c = value_tree

pub returns-clause-bytes : goal.returns-clause-bytes
returns-clause-bytes c = value_spelled

pub returns-clause-only : goal.returns-clause-only
returns-clause-only c = value_only

pub returns-clause-memory : goal.returns-clause-memory
returns-clause-memory c = value_fails
