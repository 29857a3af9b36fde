-- What a write leaves in its sink.
use Rattle.std.specs.Prelude.{ℕ, ◌<◌, List, ◌++◌, length, Result, Ok}
use Rattle.rmp_wire.specs.declared.sink.Sink.{Ghosts}
use Rattle.rmp_wire.specs.declared.error.ValueWriteError.{ValueWriteError}
use Rattle.rmp_wire.specs.Sinks.{Puts}

-- the sink took these bytes, or stopped after a beginning of them
abbrev pub Writes : {A W : Type 0} → Ghosts W → List ℕ → W → W → Result A ValueWriteError → Type 0
Writes g bytes old new r = Puts g.takes_memory bytes (g.told old) (g.told new) (g.faults old) (g.faults new) r

-- the result of a write that succeeded
abbrev pub done : Result (Unit {0}) ValueWriteError
done = Ok tt

-- A later piece of an item: together with the bytes written before it, whichever they are, it is a write of
-- both.
abbrev pub WritesContent : {W : Type 0} → Ghosts W → List ℕ → W → W → Result (Unit {0}) ValueWriteError → Type 0
WritesContent {W} g bytes mid new r = (front : List ℕ) (old : W) → 0 < length front → Writes g front old mid done → Writes g (front ++ bytes) old new r
