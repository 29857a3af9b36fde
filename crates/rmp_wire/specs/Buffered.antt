-- What a source over a buffered reader shows.
use Rattle.std.specs.Prelude.{ℕ}
use Rattle.std.specs.declared.alloc.Global.{Global}
use Rattle.std.specs.declared.io.buffered.BufReader.{BufReader}
use Rattle.rmp_wire.specs.declared.buffered.BufSource.{BufSource}
use Rattle.rmp_wire.specs.Streams.{reader_of, read_faults}

-- `source.get_ref()`
abbrev pub buffer_of : {R : Type 0} → BufSource R → BufReader R Global
buffer_of s = reader_of s.source

-- how many faults of the reader were counted
abbrev pub buffer_faults : {R : Type 0} → BufSource R → ℕ
buffer_faults s = read_faults s.source
