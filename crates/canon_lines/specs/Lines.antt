-- The lines of the input.
use Rattle.std.specs.Prelude.{◌≡◌, ℕ, ◌==◌, ◌||◌, Bool, false, not, List, [], Option, None, Some, All, filter, IsOk}
use Rattle.std.specs.Borrow.{Bor}
use Rattle.std.specs.List.{slice_split}
use Rattle.std.specs.Str.Lines.{strip_carriage_return}
use Rattle.hex.specs.Hex.{decode_of}

-- the bytes between line feeds, before the first and after the last
abbrev pub lines_in : List ℕ → List (List ℕ)
lines_in input = slice_split (λ b. b == 10) input

-- the lines of the bytes after a line's end: none if there is no end
abbrev pub lines_left : Option (Bor (List ℕ)) → List (List ℕ)
lines_left None = []
lines_left (Some text) = lines_in text.now

-- no line ends in these bytes
abbrev pub NoEnd : List ℕ → Type 0
NoEnd bytes = All (λ b. (b == 10) ≡ false) bytes

-- a space or a tab
abbrev pub is_blank : ℕ → Bool
is_blank b = b == 32 || b == 9

-- a line without one carriage return at its end, and without blanks
abbrev pub digits_in : List ℕ → List ℕ
digits_in line = filter (λ b. not (is_blank b)) (strip_carriage_return line)

-- the line is hex, or blank
abbrev pub IsHex : List ℕ → Type 0
IsHex line = IsOk (decode_of (digits_in line))
