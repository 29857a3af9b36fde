-- What a write of a whole tree leaves in its sink.
use Rattle.std.specs.Prelude.{◌≡◌, ℕ, ◌<◌, ◌++◌, Bool, IsTrue, List, length, Option, Result, OnOk, IfErr}
use Rattle.std.specs.Io.KnownBytes.{Appends}
use Rattle.rmp_wire.specs.Sinks.{next_fault}
use Rattle.rmp_wire.specs.declared.sink.Sink.{Ghosts}
use Rattle.rmp_wire.specs.declared.error.ValueWriteError.{ValueWriteError}
use Rattle.rmp_wire.specs.declared.error.ValueWriteError.TheVariants.{InvalidMarkerWrite, InvalidDataWrite, OutOfMemory}

-- Why a write stopped once `part` of the bytes was taken: by one fault, before the first byte of one of the
-- tree's messages or after it, or out of memory.
abbrev pub StopsWithin : Bool → ℕ → ℕ → List ℕ → ValueWriteError → Type 0
StopsWithin takes_memory old new part (InvalidMarkerWrite fault) = new ≡ next_fault old
StopsWithin takes_memory old new part (InvalidDataWrite fault) = (0 < length part) × (new ≡ next_fault old)
StopsWithin takes_memory old new part OutOfMemory = (new ≡ old) × IsTrue takes_memory

-- a beginning of the bytes was taken, and no more of them
pub record TakesPart (takes_memory : Bool) (bytes : List ℕ) (told told' : Option (List ℕ)) (faults faults' : ℕ) (e : ValueWriteError) : Type 0 where
  pub part : List ℕ
  pub rest : List ℕ
  pub split : bytes ≡ part ++ rest
  pub appended : Appends told told' part
  pub cause : StopsWithin takes_memory faults faults' part e

-- At `Ok` all the bytes were taken and no fault was counted. At an error a beginning of them was taken.
pub record TakesTree {A : Type 0} (takes_memory : Bool) (bytes : List ℕ) (told told' : Option (List ℕ)) (faults faults' : ℕ)
    (r : Result A ValueWriteError) : Type 0 where
  pub whole : OnOk r (Appends told told' bytes)
  pub sound : OnOk r (faults' ≡ faults)
  pub stops : IfErr r (TakesPart takes_memory bytes told told' faults faults')

-- the sink took these bytes, or stopped after a beginning of them
abbrev pub WritesTree : {A W : Type 0} → Ghosts W → List ℕ → W → W → Result A ValueWriteError → Type 0
WritesTree g bytes old new r = TakesTree g.takes_memory bytes (g.told old) (g.told new) (g.faults old) (g.faults new) r
