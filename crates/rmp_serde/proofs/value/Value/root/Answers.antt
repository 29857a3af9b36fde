use Rattle.std.proofs.Common.{ap}
use Rattle.rmp_serde.proofs.FlatParts.{node_is}
use Rattle.rmp_serde.proofs.FlatRows.{told_is}
use Rattle.rmp_serde.proofs.value.Value.root.Goals as goal

pub invariant_of-result : goal.invariant_of-result
invariant_of-result c = record { head = ap (λ z. z.0) (node_is c.self.inside.root c.self.inside.parts c.args.self.now 0 c.self.invariant c.self.view_is) }

pub returns : goal.returns
returns c = record { whole = told_is c.args.self.now }
