-- What a source that reads ahead shows.
use Rattle.std.specs.Prelude.{ℕ, List, Option, slice_range}
use Rattle.std.specs.Io.KnownBytes.{prepend_known}
use Rattle.rmp_wire.specs.declared.read_ahead.AheadSource.{AheadSource}
use Rattle.rmp_wire.specs.Streams.{reader_of, read_faults}

-- `source.get_ref()`
abbrev pub reader_after : {R : Type 0} → AheadSource R → R
reader_after s = reader_of s.source

-- `source.buffer()`: the bytes that are buffered and not yet consumed
abbrev pub held_of : {R : Type 0} → AheadSource R → List ℕ
held_of s = slice_range s.held.bytes.items s.held.start s.held.end

-- those, and then the reader's bytes, if it tells them
abbrev pub told_ahead : {R : Type 0} → (R → Option (List ℕ)) → AheadSource R → Option (List ℕ)
told_ahead remaining s = prepend_known (held_of s) (remaining (reader_after s))

-- how many faults of the reader were counted
abbrev pub faults_after : {R : Type 0} → AheadSource R → ℕ
faults_after s = read_faults s.source
