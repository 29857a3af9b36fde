-- Whose error a write answers: the sink's or memory's, that of a length, or a part's.
use Rattle.std.specs.Prelude.{◌≡◌, ℕ, ◌≤◌, ◌^◌, ◌⊎◌, List, [], ◌∷◌, length, map, nat_le, T, Result, Ok, Err}
use Rattle.std.specs.Borrow.{Bor}
use Rattle.std.specs.List.{Any, list_any}
use Rattle.rmp_encode.specs.declared.error.Error.{Error}
use Rattle.rmp_encode.specs.declared.error.Error.TheVariants.{InvalidValueWrite, UnknownLength, InvalidDataModel, DepthLimitExceeded, Syntax, OutOfMemory}
use Rattle.rmp_encode.specs.Errors.{IsLength}

-- what is known of an error
abbrev pub Errors : Type 1
Errors = Error → Type 0

-- nothing is known of it
abbrev pub any_error : Errors
any_error e = Unit {0}

-- The error of the sink or of memory. Under P a length is past 32 bits, and its words are allowed too.
abbrev pub OfLength : Type 0 → Errors
OfLength P (InvalidValueWrite fault) = Unit {0}
OfLength P UnknownLength = ⊥
OfLength P (InvalidDataModel t) = P × IsLength t.now
OfLength P DepthLimitExceeded = ⊥
OfLength P (Syntax t) = ⊥
OfLength P OutOfMemory = Unit {0}

-- the error of the sink or of memory alone
abbrev pub OfSink : Errors
OfSink = OfLength ⊥

-- the refusal of a length: nothing is written
abbrev pub RefusesLength : {A S : Type 0} → S → S → Result A Error → Type 0
RefusesLength old new (Ok u) = ⊥
RefusesLength old new (Err (InvalidDataModel t)) = IsLength t.now × (new ≡ old)
RefusesLength old new (Err e) = ⊥

-- one of these lengths is past 32 bits: of lengths that are known, this computes
abbrev pub AnyLong : List ℕ → Type 0
AnyLong lens = T (list_any (nat_le (2 ^ 32)) lens)

-- the lengths of names
abbrev pub lengths : List (Bor (List ℕ)) → List ℕ
lengths names = map (λ name. length name.now) names

-- of some parts: the error of one of them, or of the sink, or of memory; under P of a length too
abbrev pub OfParts : Type 0 → List Errors → Errors
OfParts P [] e = OfLength P e
OfParts P (part ∷ parts) e = part e ⊎ OfParts P parts e

-- of values of one type: the error of one of them, or of the sink, or of memory, or of their number
abbrev pub OfItems : {A : Type 0} → (A → Errors) → List A → Errors
OfItems refuses items e = OfLength (2 ^ 32 ≤ length items) e ⊎ Any (λ x. refuses x e) items

-- of the keys and values of a map
abbrev pub OfEntries : {K V : Type 0} → (K → Errors) → (V → Errors) → List (K × V) → Errors
OfEntries keys values entries = OfItems (λ entry e. keys entry.0 e ⊎ values entry.1 e) entries
