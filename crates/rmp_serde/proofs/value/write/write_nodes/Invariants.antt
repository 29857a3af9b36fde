use Rattle.std.proofs.Common.{◌≡◌, ◌∷◌, take}
use Rattle.std.specs.List.{flat_map}
use Rattle.rmp_wire.specs.Writing.{done}
use Rattle.rmp_serde.specs.Flat.{spelled_in}
use Rattle.rmp_serde.specs.TreeWrites.{WritesTree}
use Rattle.rmp_serde.proofs.value.write.write_nodes.Given as goal

-- the nodes so far are written
abbrev pub invariant-loop-at : goal.invariant-loop-at
invariant-loop-at g l = (g.W.Sink.place l.sink ≡ g.W.Sink.place l.fn.sink)
    × WritesTree g.W.Sink (flat_map (spelled_in l.parts.bytes.items) (take l.at (l.root ∷ l.parts.nodes.items))) l.fn.sink l.sink done
