-- What was passed over are canonical heads and their contents, of 32 bytes at most each.
use Rattle.std.proofs.Common.{◌+◌, ◌-◌, ◌*◌, ◌≤◌, drop}
use Rattle.rmp_serde.specs.Places.{TakesNodes}
use Rattle.rmp_serde.proofs.check.short.short_nodes.Given as goal

abbrev pub invariant-small : goal.invariant-small
invariant-small l = record { nodes : TakesNodes l.at 0 l.bytes (drop l.at l.bytes); most : l.at ≤ l.most }

abbrev pub decreases-small : goal.decreases-small
decreases-small l = l.most - l.at

abbrev pub invariant-table : goal.invariant-table
invariant-table l = record {
  nodes : TakesNodes (l.small + (l.block - l.todo)) l.parts l.bytes (drop l.at l.bytes);
  long : l.at ≤ 32 * (l.small + (l.block - l.todo));
  few : l.parts ≤ 30 * (l.block - l.todo);
  most : l.todo ≤ l.block;
  block : l.small + l.block ≤ l.most;
}

abbrev pub decreases-table : goal.decreases-table
decreases-table l = l.todo
