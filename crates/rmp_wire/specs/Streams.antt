-- What a reader as a source, and a writer as a sink, show.
use Rattle.std.specs.Prelude.{ℕ}
use Rattle.rmp_wire.specs.declared.stream.IoSource.{IoSource}
use Rattle.rmp_wire.specs.declared.stream.IoSink.{IoSink}

-- `source.get_ref()`
abbrev pub reader_of : {R : Type 0} → IoSource R → R
reader_of s = s.reader

-- the source after `*source.get_mut() = reader`
abbrev pub with_reader : {R : Type 0} → IoSource R → R → IoSource R
with_reader s reader = record { reader = reader; faults = s.faults }

-- how many faults of the reader were counted
abbrev pub read_faults : {R : Type 0} → IoSource R → ℕ
read_faults s = s.faults

-- `sink.get_ref()`
abbrev pub writer_of : {W : Type 0} → IoSink W → W
writer_of s = s.writer

-- the sink after `*sink.get_mut() = writer`
abbrev pub with_writer : {W : Type 0} → IoSink W → W → IoSink W
with_writer s writer = record { writer = writer; faults = s.faults }

-- how many faults of the writer were counted
abbrev pub write_faults : {W : Type 0} → IoSink W → ℕ
write_faults s = s.faults
