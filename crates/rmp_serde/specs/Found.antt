-- What a key or a JSON Pointer (RFC 6901) finds in a message.
use Rattle.std.specs.Prelude.{ℕ, ◌^◌, List, [], ◌∷◌, length, slice_index, Bool, ◌&&◌, ◌||◌, ◌==◌, nat_lt, if◌then◌else◌}
use Rattle.std.specs.Prelude.{Option, Some, None, option_map, option_and_then}
use Rattle.std.specs.List.{find, slice_split}
use Rattle.std.specs.Str.{all_ascii_digits}
use Rattle.std.specs.Str.Parse.{digits_value}
use Rattle.rmp_wire.specs.Msg.{Msg, text, list, map}
use Rattle.rmp_serde.specs.Equal.{msg_eq}
use Rattle.rmp_serde.specs.PairsLeft.{pairs_in_turn}
use Rattle.rmp_serde.specs.Parts.{item_of}

-- the value of the first pair whose key is this text
abbrev pub value_in : List (Msg × Msg) → List ℕ → Option Msg
value_in ps key = option_map (λ p. p.1) (find (λ p. msg_eq p.0 (text key)) ps)

-- the value of this key in a map; any other kind has none
abbrev pub value_of : Msg → List ℕ → Option Msg
value_of m key = value_in (pairs_in_turn m) key

-- ---- JSON Pointer (RFC 6901); "/" is 47, "0" 48, "1" 49, and "~" 126

-- digits alone, with no 0 before others (section 4, "array-index")
abbrev pub is_index : List ℕ → Bool
is_index t = all_ascii_digits t && (length t == 1 || nat_lt 48 (slice_index t 0))

-- the number that a token is, if it is an index; no list has an index of 2^64 or more
abbrev pub index_of : List ℕ → Option ℕ
index_of t = if is_index t && nat_lt (digits_value 10 t) (2 ^ 64) then Some (digits_value 10 t) else None

-- "~1" means "/", and "~0" means "~" (section 4)
abbrev pub unescaped : List ℕ → List ℕ
unescaped [] = []
unescaped (x ∷ []) = x ∷ []
unescaped (x ∷ y ∷ s) = if x == 126 && y == 49 then 47 ∷ unescaped s
    else (if x == 126 && y == 48 then 126 ∷ unescaped s else x ∷ unescaped (y ∷ s))

-- the part of a message that a token names (section 4)
abbrev pub part_named : Msg → List ℕ → Option Msg
part_named (list ms) t = option_and_then (item_of (list ms)) (index_of t)
part_named (map ps) t = value_of (map ps) (unescaped t)
part_named _ t = None

-- the part that tokens lead to, each from the part that those before it lead to
abbrev pub followed : Msg → List (List ℕ) → Option Msg
followed m [] = Some m
followed m (t ∷ ts) = option_and_then (λ n. followed n ts) (part_named m t)

-- what is between the slashes of a text, before the first and after the last
abbrev pub between_slashes : List ℕ → List (List ℕ)
between_slashes p = slice_split (λ b. b == 47) p

-- the part that tokens lead to, where nothing comes before the first slash (section 3)
abbrev pub pointed_by : Msg → List (List ℕ) → Option Msg
pointed_by m ([] ∷ ts) = followed m ts
pointed_by m _ = None

-- the part that a pointer names
abbrev pub pointed : Msg → List ℕ → Option Msg
pointed m p = pointed_by m (between_slashes p)
