-- The head and the numbers before the chunks that are left were written.
use Rattle.std.proofs.Common.{◌≡◌}
use Rattle.std.specs.Slice.Iter.{chunks_rest, chunks_size}
use Rattle.rmp_encode.specs.Ser.{sink_of, settings_of}
use Rattle.rmp_encode.specs.Writes.{Keeps}
use Rattle.rmp_encode.proofs.Packed.{Written}
use Rattle.rmp_encode.proofs.serializer.Serializer.put_pieces.Given as goal

abbrev pub invariant-loop-chunk : goal.invariant-loop-chunk
invariant-loop-chunk g l = record {
  next : (goal.iterator-loop-chunk g).can_next l.chunk-iterator;
  finite : (goal.iterator-loop-chunk g).is_finite l.chunk-iterator;
  size : chunks_size l.chunk-iterator ≡ 64;
  keeps : Keeps g.W.Sink l.fn.self l.self;
  writes : Written g.W.Sink (λ x. g.T.Serialize.data_of x (settings_of l.fn.self).human) l.fn.values (chunks_rest l.chunk-iterator) (sink_of l.fn.self)
      (sink_of l.self);
}
