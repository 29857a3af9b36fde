-- Which of a source's remaining bytes each call consumes.
use Rattle.std.specs.Prelude.{◌≡◌, ℕ, ◌<◌, ◌⊎◌, List, ◌++◌, length, Option, IfSome, Result, IfOk, OnOk, IfErr}
use Rattle.std.specs.Borrow.{GName}
use Rattle.std.specs.Io.KnownBytes.{Consumes, Keeps, IsAtEnd}
use Rattle.std.specs.declared.io.ErrorKind.TheVariants.{UnexpectedEof}
use Rattle.rmp_wire.specs.declared.error.IoFault.{IoFault}
use Rattle.rmp_wire.specs.Faults.{fault_kind}
use Rattle.rmp_wire.specs.Sinks.{next_fault}

-- what reads don't change in a source: a reference that it reads through, the bytes that it was made of, or how
-- far past their end it is
pub data Place : Type 0 where
  through : GName → Place
  made_of : List ℕ → Place
  past_end : ℕ → Place

-- fewer than n bytes remain, if the source tells them
abbrev pub IsShort : ℕ → Option (List ℕ) → Type 0
IsShort n ahead = IfSome ahead (λ xs. length xs < n)

-- these bytes begin the remaining ones, if the source tells them
abbrev pub IsFront : List ℕ → Option (List ℕ) → Type 0
IsFront front ahead = IfSome ahead (λ xs. (rest : List ℕ) × (xs ≡ front ++ rest))

-- exactly n bytes were consumed
pub record Skips (n : ℕ) (old new : Option (List ℕ)) : Type 0 where
  pub bytes : List ℕ
  pub long : length bytes ≡ n
  pub taken : Consumes old new bytes

-- fewer than n of the next bytes were consumed
pub record TakesPart (n : ℕ) (old new : Option (List ℕ)) : Type 0 where
  pub part : List ℕ
  pub short : length part < n
  pub taken : Consumes old new part

-- at most one fault was counted (before, after)
abbrev pub AtMostOne : ℕ → ℕ → Type 0
AtMostOne before after = (after ≡ before) ⊎ (after ≡ next_fault before)

-- What a failed call that needs n bytes leaves: fewer bytes were consumed, and at most one fault was counted
-- (before, after). If there was none, fewer bytes remained, of which all or none were consumed, and the call says that the
-- input ended.
pub record TakesShort (n : ℕ) (old new : Option (List ℕ)) (before after : ℕ) (fault : IoFault) : Type 0 where
  pub part : TakesPart n old new
  pub counts : AtMostOne before after
  pub short : after ≡ before → IsShort n old
  pub rest : after ≡ before → Keeps old new ⊎ IsAtEnd new
  pub end : after ≡ before → fault_kind fault ≡ UnexpectedEof

-- A call that needs n bytes consumes all of them, with no fault of the source, or fails.
pub record TakesInto {A : Type 0} (bytes : List ℕ) (old new : Option (List ℕ)) (before after : ℕ) (r : Result A IoFault) : Type 0 where
  pub ok : OnOk r (Consumes old new bytes)
  pub sound : OnOk r (after ≡ before)
  pub err : IfErr r (TakesShort (length bytes) old new before after)

-- a call that needs n bytes, and returns them
pub record Takes (n : ℕ) (old new : Option (List ℕ)) (before after : ℕ) (r : Result (List ℕ) IoFault) : Type 0 where
  pub ok : IfOk r (Consumes old new)
  pub sound : OnOk r (after ≡ before)
  pub err : IfErr r (TakesShort n old new before after)
