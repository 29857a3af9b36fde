-- The exit status of a run, by its answer.
use Rattle.std.specs.Prelude.{ℕ, Bool, true, false, Result, Ok, Err}
use Rattle.canon_lines.specs.declared.lines.RunFault.{RunFault}

abbrev pub status_in : Result Bool RunFault → ℕ
status_in (Ok true) = 0
status_in (Ok false) = 1
status_in (Err fault) = 2
