use Rattle.std.proofs.Common.{◌≡◌, length, take}
use Rattle.rmp_serde.specs.Flat.{heads_of}
use Rattle.rmp_serde.proofs.value.equal.same_parts.Given as goal

-- the heads so far are equal
abbrev pub invariant-loop-i : goal.invariant-loop-i
invariant-loop-i l = (length l.xs.nodes.items ≡ length l.ys.nodes.items) × (take l.i (heads_of l.xs) ≡ take l.i (heads_of l.ys))
