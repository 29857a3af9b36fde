use Rattle.std.proofs.Common.{◌≡◌, ◌≤◌, ℕ, drop, length}
use Rattle.rmp_serde.specs.Flat.{heads_of, AllTake, IsWithin}
use Rattle.rmp_serde.specs.declared.value.flat.Nodes.{Nodes}
use Rattle.rmp_serde.proofs.value.flat.Nodes.settle.Given as goal

-- the nodes from a place on tell what they take
pub record Settles (start now : Nodes) (at : ℕ) : Type 0 where
  pub heads : heads_of now ≡ heads_of start
  pub bytes : now.bytes ≡ start.bytes
  pub takes : AllTake now.bytes.items (drop at now.nodes.items)
  pub within : IsWithin now
  pub there : at ≤ length now.nodes.items

abbrev pub invariant-loop-at : goal.invariant-loop-at
invariant-loop-at l = Settles l.fn.self l.self l.at

abbrev pub decreases-loop-at : goal.decreases-loop-at
decreases-loop-at l = l.at
