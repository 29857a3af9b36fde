use Rattle.rmp_decode.proofs.deserializer.peek.table.canonical_leaf_at.Goals as goal

pub returns-in-Some-leaf_in : goal.returns-in-Some-leaf_in
returns-in-Some-leaf_in c = record { head = c.in-Some.head; starts = c.in-Some.ensures; is_leaf = c.in-Some-leaf_in.ensures }
