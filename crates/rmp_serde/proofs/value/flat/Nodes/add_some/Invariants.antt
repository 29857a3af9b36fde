use Rattle.std.proofs.Common.{◌≡◌, ◌++◌, take, drop}
use Rattle.rmp_serde.specs.Flat.{heads_of, IsWithin}
use Rattle.rmp_serde.proofs.value.flat.Nodes.add_some.Given as goal

-- so many nodes were copied
abbrev pub invariant-loop-i : goal.invariant-loop-i
invariant-loop-i l = (heads_of l.self ≡ heads_of l.fn.self ++ take l.i (drop l.at (heads_of l.from))) × IsWithin l.self
