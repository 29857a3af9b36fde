-- The errors of writing that come from rmp_wire, and the texts of the refusals.
use Rattle.std.specs.Prelude.{◌≡◌, ◌⊎◌, ℕ, List, codes, Result, Ok, Err}
use Rattle.rmp_wire.specs.declared.error.ValueWriteError.{ValueWriteError}
use Rattle.rmp_wire.specs.declared.error.ValueWriteError.TheVariants as wire
use Rattle.rmp_encode.specs.declared.error.Error.{Error}
use Rattle.rmp_encode.specs.declared.error.Error.TheVariants as errors

-- out of memory is an error of its own, and each other error is kept
abbrev pub error_of : ValueWriteError → Error
error_of wire.OutOfMemory = errors.OutOfMemory
error_of fault = errors.InvalidValueWrite fault

-- the text for a length that has no head
abbrev pub IsLength : List ℕ → Type 0
IsLength t = t ≡ codes "length past 32 bits"

-- the text for a newtype struct with the name of an extension
abbrev pub IsNoTuple : List ℕ → Type 0
IsNoTuple t = t ≡ codes "expected tuple"

-- why a value has no message tree that fits: the texts of the error
abbrev pub IsReason : List ℕ → Type 0
IsReason t = IsLength t ⊎ IsNoTuple t

-- the refusal of the name of an extension: nothing is written
abbrev pub RefusesName : {A S : Type 0} → S → S → Result A Error → Type 0
RefusesName old new (Ok u) = ⊥
RefusesName old new (Err (errors.InvalidDataModel t)) = IsNoTuple t.now × (new ≡ old)
RefusesName old new (Err e) = ⊥

-- the refusal of a length
abbrev pub IsTooLong : Error → Type 0
IsTooLong (errors.InvalidDataModel t) = IsLength t.now
IsTooLong e = ⊥

abbrev pub answer_of : {A : Type 0} → Result A ValueWriteError → Result A Error
answer_of (Ok x) = Ok x
answer_of (Err e) = Err (error_of e)
