-- What a run prints.
use Rattle.std.specs.Prelude.{◌≡◌, ℕ, Bool, List, [], ◌∷◌, ◌++◌, ◌⊎◌, IsTrue, Result, Ok, Err, OnOk, IfErr}
use Rattle.std.specs.Io.KnownBytes.{Appends}
use Rattle.std.specs.declared.io.Error.{Error}
use Rattle.rmp_wire.specs.declared.sink.Sink.{Ghosts}
use Rattle.rmp_wire.specs.Sinks.{next_fault}
use Rattle.canon_lines.specs.declared.lines.RunFault.{RunFault}
use Rattle.canon_lines.specs.declared.lines.RunFault.TheVariants.{Input, Output, Memory}
use Rattle.canon_lines.specs.declared.lines.Stop.{Stop}
use Rattle.canon_lines.specs.declared.lines.Stop.TheVariants as stops

-- a line feed ends these bytes
pub record EndsLine (bytes : List ℕ) : Type 0 where
  pub front : List ℕ
  pub ended : bytes ≡ front ++ 10 ∷ []

-- whole lines, or nothing
abbrev pub IsLines : List ℕ → Type 0
IsLines bytes = (bytes ≡ []) ⊎ EndsLine bytes

-- whole lines were written to the sink, without a fault
pub record PutsLines {W : Type 0} (g : Ghosts W) (old new : W) : Type 0 where
  pub lines : List ℕ
  pub whole : IsLines lines
  pub appended : Appends (g.told old) (g.told new) lines
  pub sound : g.faults new ≡ g.faults old

-- a beginning of whole lines was written to the sink
pub record PutsBeginning {W : Type 0} (g : Ghosts W) (old new : W) : Type 0 where
  pub part : List ℕ
  pub rest : List ℕ
  pub whole : IsLines (part ++ rest)
  pub appended : Appends (g.told old) (g.told new) part

-- the sink counted one fault, and has a beginning of whole lines
pub record FailsOutput {W : Type 0} (g : Ghosts W) (old new : W) : Type 0 where
  pub beginning : PutsBeginning g old new
  pub fault : g.faults new ≡ next_fault (g.faults old)

-- the sink was out of memory, and has a beginning of whole lines
pub record LacksMemory {W : Type 0} (g : Ghosts W) (old new : W) : Type 0 where
  pub beginning : PutsBeginning g old new
  pub sound : g.faults new ≡ g.faults old
  pub takes : IsTrue g.takes_memory

-- nothing was written to the sink
pub record PutsNothing {W : Type 0} (g : Ghosts W) (old new : W) : Type 0 where
  pub told : g.told new ≡ g.told old
  pub sound : g.faults new ≡ g.faults old

-- why printing stopped: the sink failed or was out of memory, or memory ran out between two lines
abbrev pub StopsPrinting : {W : Type 0} → Ghosts W → W → W → Stop → Type 0
StopsPrinting g old new stops.Output = FailsOutput g old new
StopsPrinting g old new stops.Memory = PutsLines g old new ⊎ LacksMemory g old new

-- why a run stopped: as for printing, or the input failed, and then nothing is printed
abbrev pub StopsRun : {W : Type 0} → Ghosts W → W → W → RunFault → Type 0
StopsRun g old new (Input e) = PutsNothing g old new
StopsRun g old new (Output e) = FailsOutput g old new
StopsRun g old new Memory = PutsLines g old new ⊎ LacksMemory g old new

-- Whole lines are printed, or a beginning of them if the sink stopped.
pub record PrintsLines {A W : Type 0} (g : Ghosts W) (old new : W) (r : Result A Stop) : Type 0 where
  pub whole : OnOk r (PutsLines g old new)
  pub stops : IfErr r (StopsPrinting g old new)
  pub place : g.place new ≡ g.place old

-- what a run answers, where its lines gave this answer, and the sink this error if it failed
abbrev pub answer_of : Result Bool Stop → Error → Result Bool RunFault
answer_of (Ok accepted) e = Ok accepted
answer_of (Err stops.Output) e = Err (Output e)
answer_of (Err stops.Memory) e = Err Memory

-- The output of a run: whole lines, a beginning of them if the sink stopped, or nothing if the input failed.
pub record PrintsRun {A W : Type 0} (g : Ghosts W) (old new : W) (r : Result A RunFault) : Type 0 where
  pub whole : OnOk r (PutsLines g old new)
  pub stops : IfErr r (StopsRun g old new)
  pub place : g.place new ≡ g.place old
