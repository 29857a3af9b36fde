use Rattle.rmp_serde.proofs.value.reference.ValueRef.node.Goals as goal

pub returns : goal.returns
returns c = record { head = c.args.self.head }
