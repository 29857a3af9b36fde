-- The head was written, and the values up to those that the iterator has left.
use Rattle.std.proofs.Common.{map}
use Rattle.rmp_encode.specs.Ser.{settings_of}
use Rattle.rmp_encode.specs.Trees.{sequence_of, tree_of}
use Rattle.rmp_encode.proofs.Listing.{IsListing}
use Rattle.rmp_encode.proofs.ser.collections.BTreeSetSerialize.serialize.Given as goal

abbrev pub invariant-loop-item : goal.invariant-loop-item
invariant-loop-item g l = record {
  listing : IsListing g.W.Sink (map (λ x. g.T.Serialize.data_of x (settings_of l.fn.se).human)) g.T.Serialize.is_value g.T.Serialize.refuses
      (tree_of (settings_of l.fn.se) (sequence_of (map (λ x. g.T.Serialize.data_of x (settings_of l.fn.se).human) l.fn.self.keys))) l.fn.self.keys
      l.item-iterator l.fn.se l.se;
}
