-- How many parts a list or a map has, and whether writing them may allocate. The parts of a map are its keys
-- and values in turn.
use Rattle.std.specs.Prelude.{ℕ, ◌-◌, ◌/◌, ◌^◌, ◌||◌, List, [], ◌∷◌, Bool, true, false}

-- the most parts that a head can count; the last of a map's has no value
abbrev pub most : Bool → ℕ
most true = 2 ^ 33 - 1
most false = 2 ^ 32 - 1

-- the number that the head of these parts states
abbrev pub size_at : Bool → ℕ → ℕ
size_at true n = n / 2
size_at false n = n

-- one of these holds; for example, one of several parts allocates
abbrev pub one_of : List Bool → Bool
one_of [] = false
one_of (b ∷ bs) = b || one_of bs
