-- Errors that are ends, of reads whose bytes are a beginning of a message.
use Rattle.std.specs.Prelude.{ℕ, List, Some}
use Rattle.rmp_wire.specs.Spelling.{IsBytes}
use Rattle.rmp_decode.specs.Exact.{IsEnd}
use Rattle.rmp_decode.specs.Refusing.{Refusals, Setting}
use Rattle.rmp_decode.specs.declared.error.Error.{Error}
use Rattle.rmp_scan.specs.Scans.{IsBeginning}

-- Where the source had no fault, an error that is an end says that the bytes are a proper beginning of a message.
abbrev pub EndsInside : Refusals → Type 0
EndsInside refuses = (faults : ℕ) (xs : List ℕ) (e : Error) → IsBytes xs → refuses faults faults (Some xs) e → IsEnd e → IsBeginning xs

-- the same in every setting
abbrev pub AlwaysInside : (Setting → Refusals) → Type 0
AlwaysInside refuses = (s : Setting) → EndsInside (refuses s)

-- the error is no end
abbrev pub IsNoEnd : Error → Type 0
IsNoEnd e = IsEnd e → ⊥
