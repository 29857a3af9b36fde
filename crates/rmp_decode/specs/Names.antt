-- Which of several names a message selects.
use Rattle.std.specs.Prelude.{◌≡◌, ℕ, suc, ℤ, pos, negsuc, Bool, true, false, List, [], ◌∷◌, map, length, Option, Some, None, cond, nat_lt}
use Rattle.std.specs.Borrow.{Bor}
use Rattle.std.specs.Option.{option_map}
use Rattle.std.specs.Str.{bytes_eq}
use Rattle.rmp_wire.specs.declared.head.Head.{Head}
use Rattle.rmp_wire.specs.declared.head.Head.TheVariants.{Whole, Text, Bin}
use Rattle.rmp_wire.specs.Msg.{Msg, nil, truth, whole, float32, float64, text, bin, list, extension}
use Rattle.rmp_wire.specs.Msg.{map as mapping}

-- the bytes of texts
abbrev pub bytes_of : List (Bor (List ℕ)) → List (List ℕ)
bytes_of names = map (λ s. s.now) names

-- The place with this number, if there are more names, and otherwise none (`Some None`). `None` for a number below zero.
abbrev pub place_below : ℕ → ℤ → Option (Option ℕ)
place_below many (pos n) = Some (cond (nat_lt n many) (Some n) None)
place_below many (negsuc n) = None

-- the place of the first name that a text is
abbrev pub place_of : List (List ℕ) → List ℕ → Option ℕ
place_of [] s = None
place_of (n ∷ names) s = cond (bytes_eq n s) (Some 0) (option_map suc (place_of names s))

-- Which name a message is: the first that a text or bytes are, or the one in a number's place; or none of them (`Some None`).
-- `None` for a message that can't be a name.
abbrev pub name_of : List (List ℕ) → Msg → Option (Option ℕ)
name_of names (whole z) = place_below (length names) z
name_of names (text s) = Some (place_of names s)
name_of names (bin s) = Some (place_of names s)
name_of names m = None

-- the message says this
abbrev pub IsName : List (List ℕ) → Msg → Option ℕ → Type 0
IsName names m o = name_of names m ≡ Some o

-- the name isn't among these
abbrev pub is_new : List (List ℕ) → List ℕ → Bool
is_new [] s = true
is_new (n ∷ names) s = cond (bytes_eq n s) false (is_new names s)

-- no name is there twice
abbrev pub distinct : List (List ℕ) → Bool
distinct [] = true
distinct (s ∷ names) = cond (is_new names s) (distinct names) false

-- the head of a text, of bytes, or of a number from 0 on
abbrev pub IsNameHead : Head → Type 0
IsNameHead (Text n) = Unit {0}
IsNameHead (Bin n) = Unit {0}
IsNameHead (Whole (pos n)) = Unit {0}
IsNameHead h = ⊥
