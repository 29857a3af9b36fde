use Rattle.std.proofs.Common.{◌≤◌, map, take, length}
use Rattle.std.specs.List.{flat_map}
use Rattle.rmp_encode.specs.Going.{done}
use Rattle.rmp_encode.specs.Promises.{WritesItems}
use Rattle.rmp_encode.specs.Trees.{number_head}
use Rattle.rmp_encode.proofs.serializer.Serializer.put_numbers.Given as goal

abbrev pub invariant-loop-b : goal.invariant-loop-b
invariant-loop-b g l = record {
  within : l.b-index ≤ length l.fn.bytes;
  items : WritesItems g.W.Sink (map number_head (take l.b-index l.fn.bytes)) (flat_map number_head (take l.b-index l.fn.bytes)) l.fn.self l.self done;
}
