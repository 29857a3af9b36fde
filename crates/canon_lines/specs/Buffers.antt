-- What a sink holds that buffers what is written to it.
use Rattle.std.specs.Prelude.{◌≡◌, ℕ, Bool, true, false, IsTrue, List, Option, Result, Ok, Err}
use Rattle.std.specs.Io.KnownBytes.{append_known}
use Rattle.rmp_wire.specs.Sinks.{next_fault}
use Rattle.rmp_wire.specs.declared.sink.Sink.{Ghosts}
use Rattle.rmp_wire.specs.declared.sink.SinkFault.{SinkFault}
use Rattle.rmp_wire.specs.declared.sink.SinkFault.TheVariants.{Io, Memory}
use Rattle.canon_lines.specs.declared.buffer.BufSink.{BufSink}

-- the bytes that are held
abbrev pub held_in : {W : Type 0} → BufSink W → List ℕ
held_in s = s.held.items

-- the sink that they go to
abbrev pub sink_of : {W : Type 0} → BufSink W → W
sink_of s = s.sink

-- what the sink was told, and then what is held
abbrev pub told_with : {W : Type 0} → Ghosts W → BufSink W → Option (List ℕ)
told_with g s = append_known (g.told s.sink) s.held.items

-- how the count of faults moves where a sink takes bytes: all, or not, or it failed or was out of memory
abbrev pub SendCounts : Bool → ℕ → ℕ → Result Bool SinkFault → Type 0
SendCounts takes_memory old new (Ok true) = new ≡ old
SendCounts takes_memory old new (Ok false) = new ≡ next_fault old
SendCounts takes_memory old new (Err (Io e)) = new ≡ next_fault old
SendCounts takes_memory old new (Err Memory) = (new ≡ old) × IsTrue takes_memory
