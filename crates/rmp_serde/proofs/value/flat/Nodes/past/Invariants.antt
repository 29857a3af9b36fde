use Rattle.std.proofs.Common.{◌≡◌, ◌+◌, drop}
use Rattle.rmp_serde.specs.Flat.{heads_of, span}
use Rattle.rmp_serde.proofs.value.flat.Nodes.past.Given as goal

-- this many messages were passed
abbrev pub invariant-loop : goal.invariant-loop
invariant-loop l = l.place ≡ l.at + span l.counter (drop l.at (heads_of l.self))
