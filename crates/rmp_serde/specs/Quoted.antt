-- A text as a JSON string. (RFC 8259, section 7.)
use Rattle.std.specs.Prelude.{ℕ, ◌==◌, ◌||◌, nat_lt, Bool, if◌then◌else◌, List, [], ◌∷◌, ◌++◌, flat_map, codes}
use Rattle.hex.specs.Hex.{encode_lower}

-- a byte that a JSON string can't hold as it is: a control character, a quotation mark or a backslash
abbrev pub is_escaped : ℕ → Bool
is_escaped b = nat_lt b 32 || (b == 34 || b == 92)

-- what stands for such a byte after the backslash
abbrev pub escape_name : ℕ → List ℕ
escape_name b =
    if b == 34 then codes "\""
    else if b == 92 then codes "\\"
    else if b == 8 then codes "b"
    else if b == 12 then codes "f"
    else if b == 10 then codes "n"
    else if b == 13 then codes "r"
    else if b == 9 then codes "t"
    else codes "u00" ++ encode_lower (b ∷ [])

-- the text of a byte
abbrev pub in_string : ℕ → List ℕ
in_string b = if is_escaped b then 92 ∷ escape_name b else b ∷ []

-- a text between quotation marks
abbrev pub quoted : List ℕ → List ℕ
quoted s = codes "\"" ++ flat_map in_string s ++ codes "\""
