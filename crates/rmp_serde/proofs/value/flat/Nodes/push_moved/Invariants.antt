use Rattle.std.proofs.Common.{◌≡◌, ◌≤◌, ◌+◌, ◌-◌, ◌++◌, length, take, ℕ, List, vec_len, vec_capacity}
use Rattle.std.specs.Prelude.{map}
use Rattle.rmp_serde.specs.Pushing.{moved}
use Rattle.rmp_serde.specs.declared.value.flat.Node.{Node}
use Rattle.rmp_serde.specs.declared.value.flat.Nodes.{Nodes}
use Rattle.rmp_serde.proofs.value.flat.Nodes.push_moved.Given as goal

-- so many of the nodes were added, and there is room for the others
pub record Adds (old now : Nodes) (row : List Node) (by i : ℕ) : Type 0 where
  pub nodes : now.nodes.items ≡ old.nodes.items ++ map (moved by) (take i row)
  pub bytes : now.bytes ≡ old.bytes
  pub capacity : vec_capacity now.nodes ≡ vec_capacity old.nodes
  pub space : vec_len now.nodes + (length row - i) ≤ vec_capacity now.nodes

abbrev pub invariant-loop-node : goal.invariant-loop-node
invariant-loop-node l = Adds l.fn.self l.self l.row l.by l.node-index
