-- What a sink does with the bytes that are written to it.
use Rattle.std.specs.Prelude.{◌≡◌, ℕ, ◌+◌, ◌%◌, ◌^◌, ◌<◌, ◌++◌, Bool, IsTrue, List, [], length, Option, Result, Ok, Err, OnOk, IfErr, if◌then◌else◌, ◌==◌}
use Rattle.std.specs.Io.KnownBytes.{Appends}
use Rattle.rmp_wire.specs.declared.sink.SinkFault.{SinkFault}
use Rattle.rmp_wire.specs.declared.sink.SinkFault.TheVariants.{Io, Memory}
use Rattle.rmp_wire.specs.declared.error.IoFault.{IoFault}
use Rattle.rmp_wire.specs.declared.error.ValueWriteError.{ValueWriteError}
use Rattle.rmp_wire.specs.declared.error.ValueWriteError.TheVariants.{InvalidMarkerWrite, InvalidDataWrite, OutOfMemory}

-- the count after one more fault
abbrev pub next_fault : ℕ → ℕ
next_fault n = (n + 1) % 2 ^ 64

-- how the count of faults moves at one `put` of a piece: `Io` is a fault, and so is `Ok(0)` on a piece that isn't empty
abbrev pub PutCounts : Bool → ℕ → ℕ → List ℕ → Result ℕ SinkFault → Type 0
PutCounts takes_memory old new piece (Ok n) =
    (n ≡ 0 → 0 < length piece → new ≡ next_fault old) × (0 < n → new ≡ old) × (length piece ≡ 0 → new ≡ old)
PutCounts takes_memory old new piece (Err (Io e)) = new ≡ next_fault old
PutCounts takes_memory old new piece (Err Memory) = (new ≡ old) × IsTrue takes_memory

-- the error of a fault after n bytes were taken
abbrev pub stopped_after : ℕ → IoFault → ValueWriteError
stopped_after taken fault = if taken == 0 then InvalidMarkerWrite fault else InvalidDataWrite fault

-- why a write stopped once `part` of its bytes was taken: by one fault, before the first byte or after it, or
-- out of memory
abbrev pub StopsAfter : Bool → ℕ → ℕ → List ℕ → ValueWriteError → Type 0
StopsAfter takes_memory old new part (InvalidMarkerWrite fault) = (part ≡ []) × (new ≡ next_fault old)
StopsAfter takes_memory old new part (InvalidDataWrite fault) = (0 < length part) × (new ≡ next_fault old)
StopsAfter takes_memory old new part OutOfMemory = (new ≡ old) × IsTrue takes_memory

-- a beginning of the bytes was taken, and no more of them
pub record PutsPart (takes_memory : Bool) (bytes : List ℕ) (told told' : Option (List ℕ)) (faults faults' : ℕ) (e : ValueWriteError) : Type 0 where
  pub part : List ℕ
  pub rest : List ℕ
  pub split : bytes ≡ part ++ rest
  pub appended : Appends told told' part
  pub cause : StopsAfter takes_memory faults faults' part e

-- At `Ok` all the bytes were taken and no fault was counted. At an error a beginning of them was taken.
pub record Puts {A : Type 0} (takes_memory : Bool) (bytes : List ℕ) (told told' : Option (List ℕ)) (faults faults' : ℕ) (r : Result A ValueWriteError) :
    Type 0 where
  pub whole : OnOk r (Appends told told' bytes)
  pub sound : OnOk r (faults' ≡ faults)
  pub stops : IfErr r (PutsPart takes_memory bytes told told' faults faults')
