-- The entries that the iterator has left are still to come, through the same serializer.
use Rattle.std.proofs.Common.{◌≡◌, true, All}
use Rattle.rmp_encode.specs.Opens.{IsOpen, is_map, owed}
use Rattle.rmp_encode.specs.Ser.{settings_of}
use Rattle.rmp_encode.specs.Trees.{in_turn, mapping_of, tree_of}
use Rattle.rmp_encode.specs.Writes.{Keeps}
use Rattle.test_types.proofs.unknown.UnkMapSerialize.serialize.Given as goal

abbrev pub invariant-loop-key : goal.invariant-loop-key
invariant-loop-key g l = record {
  same : l.map.se.ghost_name ≡ l.initial.map.se.ghost_name;
  kind : is_map l.map ≡ true;
  owed : owed l.map ≡ 0;
  writing : IsOpen g.W.Sink l.fn.se (tree_of (settings_of l.fn.se)
      (mapping_of (in_turn (λ k. g.K.Serialize.data_of k (settings_of l.fn.se).human) (λ x. g.V.Serialize.data_of x (settings_of l.fn.se).human)
      l.fn.self.entries.entries))) (in_turn (λ k. g.K.Serialize.data_of k (settings_of l.fn.se).human)
      (λ x. g.V.Serialize.data_of x (settings_of l.fn.se).human) l.key-iterator) l.map;
  keeps : Keeps g.W.Sink l.fn.se l.map.se.now;
  values : All (λ e. g.K.Serialize.is_value e.0 × g.V.Serialize.is_value e.1) l.key-iterator
      → All (λ e. g.K.Serialize.is_value e.0 × g.V.Serialize.is_value e.1) l.fn.self.entries.entries;
}
