-- The head and the values before the index were written.
use Rattle.std.proofs.Common.{◌≤◌, map, drop, length}
use Rattle.rmp_encode.specs.Ser.{settings_of}
use Rattle.rmp_encode.specs.Trees.{sequence_of, tree_of}
use Rattle.rmp_encode.proofs.Listing.{IsListing}
use Rattle.rmp_encode.proofs.serializer.Serializer.put_list.Given as goal

abbrev pub invariant-loop-value : goal.invariant-loop-value
invariant-loop-value g l = record {
  within : l.value-index ≤ length l.fn.values;
  listing : IsListing g.W.Sink (map (λ x. g.T.Serialize.data_of x (settings_of l.fn.self).human)) g.T.Serialize.is_value g.T.Serialize.refuses
      (tree_of (settings_of l.fn.self) (sequence_of (map (λ x. g.T.Serialize.data_of x (settings_of l.fn.self).human) l.fn.values))) l.fn.values
      (drop l.value-index l.fn.values) l.fn.self l.self;
}
