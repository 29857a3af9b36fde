-- The head was written, and the entries up to those that the iterator has left.
use Rattle.std.specs.Prelude.{◌⊎◌}
use Rattle.rmp_encode.specs.Ser.{settings_of}
use Rattle.rmp_encode.specs.Trees.{in_turn, mapping_of, tree_of}
use Rattle.rmp_encode.proofs.Listing.{IsListing}
use Rattle.rmp_encode.proofs.ser.collections.BTreeMapSerialize.serialize.Given as goal

abbrev pub invariant-loop-key : goal.invariant-loop-key
invariant-loop-key g l = record {
  listing : IsListing g.W.Sink (in_turn (λ k. g.K.Serialize.data_of k (settings_of l.fn.se).human) (λ x. g.V.Serialize.data_of x (settings_of l.fn.se).human))
      (λ e. g.K.Serialize.is_value e.0 × g.V.Serialize.is_value e.1) (λ entry e. g.K.Serialize.refuses entry.0 e ⊎ g.V.Serialize.refuses entry.1 e)
      (tree_of (settings_of l.fn.se) (mapping_of (in_turn (λ k. g.K.Serialize.data_of k (settings_of l.fn.se).human)
      (λ x. g.V.Serialize.data_of x (settings_of l.fn.se).human) l.fn.self.entries))) l.fn.self.entries l.key-iterator l.fn.se l.se;
}
