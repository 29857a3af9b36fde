-- How the input is read.
use Rattle.std.specs.Prelude.{◌≡◌, ◌≢◌, ℕ, IfSome, Result, OnOk, IfErr}
use Rattle.std.specs.Io.KnownBytes.{Consumes}
use Rattle.rmp_wire.specs.declared.source.Source.{Ghosts}
use Rattle.canon_lines.specs.declared.lines.RunFault.{RunFault}
use Rattle.canon_lines.specs.declared.lines.RunFault.TheVariants.{Input, Output, Memory}

-- the source's count of faults changes if the input failed, and only then
abbrev pub CountsInput : ℕ → ℕ → RunFault → Type 0
CountsInput before after (Input e) = after ≢ before
CountsInput before after (Output e) = after ≡ before
CountsInput before after Memory = after ≡ before

-- for a call that prints nothing
abbrev pub StopsReading : ℕ → ℕ → RunFault → Type 0
StopsReading before after (Input e) = after ≢ before
StopsReading before after (Output e) = ⊥
StopsReading before after Memory = after ≡ before

-- The remaining bytes, if the source tells them, are all consumed; a fault of the source ends the run.
pub record ReadsInput {A S : Type 0} (g : Ghosts S) (old new : S) (r : Result A RunFault) : Type 0 where
  pub whole : OnOk r (IfSome (g.ahead old) (Consumes (g.ahead old) (g.ahead new)))
  pub sound : OnOk r (g.faults new ≡ g.faults old)
  pub stops : IfErr r (CountsInput (g.faults old) (g.faults new))
  pub place : g.place new ≡ g.place old
