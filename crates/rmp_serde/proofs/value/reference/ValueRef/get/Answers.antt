use Rattle.rmp_serde.specs.Parts.{tree}
use Rattle.rmp_serde.proofs.Lookup.{shallow_found}
use Rattle.rmp_serde.proofs.value.reference.ValueRef.get.Goals as goal

pub returns-clause-smaller : goal.returns-clause-smaller
returns-clause-smaller c = shallow_found c.value_at.result (tree c.args.self) c.args.key.now c.value_at.ensures.value
