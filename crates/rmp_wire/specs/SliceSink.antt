-- What a sink over a slice shows.
use Rattle.std.specs.Prelude.{ℕ, List, take, drop}
use Rattle.std.specs.Borrow.{GName}
use Rattle.rmp_wire.specs.declared.sink.SliceSink.{SliceSink}

-- the bytes written so far, from the slice's beginning
abbrev pub written_bytes : SliceSink → List ℕ
written_bytes s = take s.at s.buf.now

-- the rest of the slice, after them
abbrev pub unwritten : SliceSink → List ℕ
unwritten s = drop s.at s.buf.now

-- what the slice holds
abbrev pub slice_bytes : SliceSink → List ℕ
slice_bytes s = s.buf.now

-- the reference to the slice
abbrev pub slice_name : SliceSink → GName
slice_name s = s.buf.ghost_name

-- how many faults were counted
abbrev pub slice_faults : SliceSink → ℕ
slice_faults s = s.faults
