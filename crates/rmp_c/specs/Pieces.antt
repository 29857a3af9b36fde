-- What the statuses of a scan say.
use Rattle.std.specs.Prelude.{◌≡◌, ◌⊎◌, ℕ, List, [], ◌+◌, ◌≤◌, ◌++◌, length, Bool, true, false}
use Rattle.rmp_decode.specs.declared.error.Error.{Error}
use Rattle.rmp_decode.specs.declared.error.Error.TheVariants.{Syntax}
use Rattle.rmp_scan.specs.Completes.{least_of}
use Rattle.rmp_scan.specs.Scans.{MessageEnds, IsBeginning, NoMessage, ReservedAt, IsLonger}
use Rattle.rmp_scan.specs.States.{Holds}
use Rattle.rmp_scan.specs.declared.state.State.{State}

-- so many bytes of the piece end the message, and the scanner waits for the next one
pub record Ends (before piece : List ℕ) (limit : ℕ) (new : State) (used : ℕ) : Type 0 where
  pub ends : MessageEnds (before ++ piece) (length before + used)
  pub short : length before + used ≤ limit
  pub holds : Holds [] new

-- the message goes on after the piece, and what has come of it and what it still wants at least are within the limit
pub record GoesOn (before piece : List ℕ) (limit : ℕ) (new : State) : Type 0 where
  pub begins : IsBeginning (before ++ piece)
  pub holds : Holds (before ++ piece) new
  pub short : length (before ++ piece) + least_of holds.scanner.want ≤ limit

-- the byte c1 is at this offset of the piece where a message is wanted
pub record IsReserved (before piece : List ℕ) (used : ℕ) : Type 0 where
  pub none : NoMessage (before ++ piece)
  pub place : ReservedAt (before ++ piece) (length before + used)

-- what a status says, by the bytes that the scanner had before the piece
pub record Scans (before piece : List ℕ) (limit : ℕ) (new : State) (used status : ℕ) : Type 0 where
  pub ends : status ≡ 0 → Ends before piece limit new used
  pub goes_on : status ≡ 10 → GoesOn before piece limit new
  pub reserved : status ≡ 3 → IsReserved before piece used
  pub longer : status ≡ 11 → IsLonger limit (before ++ piece)
  pub known : (status ≡ 0) ⊎ ((status ≡ 10) ⊎ ((status ≡ 3) ⊎ (status ≡ 11)))

-- the error says that the heads ask for more than the limit
abbrev pub is_too_long : Error → Bool
is_too_long (Syntax text) = true
is_too_long e = false
