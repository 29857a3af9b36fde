-- Where messages end that arrive in pieces.
use Rattle.std.specs.Prelude.{◌≡◌, ◌≢◌, ◌↔◌, ℕ, ◌+◌, ◌*◌, ◌^◌, ◌<◌, ◌≤◌, List, [], ◌∷◌, ◌++◌, length, true, false, Option, Some, Result, Ok, Err}
use Rattle.rmp_wire.specs.Msg.{Msg}
use Rattle.rmp_wire.specs.Spelling.{Spells}
use Rattle.rmp_wire.specs.declared.marker.Marker.TheVariants.{Reserved}
use Rattle.rmp_decode.specs.declared.error.Error.{Error}
use Rattle.rmp_decode.specs.declared.error.Error.TheVariants.{TypeMismatch, Syntax}
use Rattle.rmp_decode.specs.declared.text.Text.TheVariants.{InvalidLength}
use Rattle.rmp_scan.specs.Completes.{Completes, least_of}
use Rattle.rmp_scan.specs.declared.scanner.Scan.{Scan}
use Rattle.rmp_scan.specs.declared.scanner.Scan.TheVariants.{Whole, More}
use Rattle.rmp_scan.specs.declared.scanner.Scanner.{Scanner}

-- these bytes spell a message, in any widths
abbrev pub IsMessage : List ℕ → Type 0
IsMessage bytes = (tree : Msg) × Spells bytes tree

-- the first n bytes spell a message
pub record MessageEnds (input : List ℕ) (n : ℕ) : Type 0 where
  pub bytes : List ℕ
  pub rest : List ℕ
  pub front : input ≡ bytes ++ rest
  pub spelled : IsMessage bytes
  pub long : n ≡ length bytes

-- these bytes and some more, at least one, spell a message
pub record IsBeginning (input : List ℕ) : Type 0 where
  pub rest : List ℕ
  pub some : rest ≢ []
  pub spelled : IsMessage (input ++ rest)

-- no message begins with these bytes, and none ends among them
pub record NoMessage (input : List ℕ) : Type 0 where
  pub ends : (n : ℕ) → MessageEnds input n → ⊥
  pub begins : IsBeginning input → ⊥

-- a message is wanted after so many bytes, and the byte c1 is there
pub record ReservedAt (input : List ℕ) (at : ℕ) : Type 0 where
  pub before : List ℕ
  pub following : List ℕ
  pub front : input ≡ before ++ (0xc1 ∷ following)
  pub place : at ≡ length before
  pub begins : IsBeginning before

-- each message that begins with these bytes, or ends among them, is longer than the limit
pub record IsLonger (limit : ℕ) (input : List ℕ) : Type 0 where
  pub ends : (n : ℕ) → MessageEnds input n → limit < n
  pub begins : (rest : List ℕ) → IsMessage (input ++ rest) → limit < length (input ++ rest)

-- the greatest length of a message that the scanner accepts
abbrev pub limit_of : Scanner → ℕ
limit_of s = s.limit

-- the scanner answers no more
abbrev pub is_refused : Scanner → Type 0
is_refused s = s.refused ≡ true

-- where the byte c1 was
abbrev pub reserved_of : Scanner → Option ℕ
reserved_of s = s.reserved

-- The scanner has these bytes of a message: what completes them is what it wants.
pub record IsAfter (bytes : List ℕ) (s : Scanner) : Type 0 where
  pub ready : s.refused ≡ false
  pub taken : s.taken ≡ length bytes
  pub wants : (rest : List ℕ) → IsMessage (bytes ++ rest) ↔ Completes s.want rest
  pub claims : least_of s.want ≤ 1 + 2 ^ 33 * length bytes

-- so many bytes of a piece end the message, and the scanner is new again
pub record EndsIn (before piece : List ℕ) (limit used : ℕ) (new : Scanner) : Type 0 where
  pub within : used ≤ length piece
  pub ends : MessageEnds (before ++ piece) (length before + used)
  pub short : length before + used ≤ limit
  pub new_again : IsAfter [] new

-- the message goes on after the piece
pub record GoesOn (before piece : List ℕ) (limit : ℕ) (new : Scanner) : Type 0 where
  pub begins : IsBeginning (before ++ piece)
  pub after : IsAfter (before ++ piece) new
  pub short : length (before ++ piece) + least_of new.want ≤ limit

-- the byte c1 is at this offset of the piece where a message is wanted
pub record IsReserved (before piece : List ℕ) (new : Scanner) : Type 0 where
  pub none : NoMessage (before ++ piece)
  pub at : ℕ
  pub place : ReservedAt (before ++ piece) (length before + at)
  pub told : new.reserved ≡ Some at
  pub refused : is_refused new

-- the heads so far ask for more than the limit
pub record IsTooLong (before piece : List ℕ) (limit : ℕ) (new : Scanner) : Type 0 where
  pub longer : IsLonger limit (before ++ piece)
  pub many : limit ≤ 2 ^ 34 * length (before ++ piece) + 1
  pub refused : is_refused new

-- After the end of a message the scanner has no bytes. Where it goes on, it has the piece too, and a message begins with them.
abbrev pub Follows : List ℕ → List ℕ → Scanner → Scan → Type 0
Follows before piece new (Whole used) = IsAfter [] new
Follows before piece new More = IsAfter (before ++ piece) new × IsBeginning (before ++ piece)

-- what a scanner answers that has the bytes before the piece
abbrev pub Scans : List ℕ → List ℕ → ℕ → Scanner → Result Scan Error → Type 0
Scans before piece limit new (Ok (Whole used)) = EndsIn before piece limit used new
Scans before piece limit new (Ok More) = GoesOn before piece limit new
Scans before piece limit new (Err (TypeMismatch marker)) = (marker ≡ Reserved) × IsReserved before piece new
Scans before piece limit new (Err (Syntax text)) = (text ≡ InvalidLength) × IsTooLong before piece limit new
Scans before piece limit new (Err e) = ⊥
