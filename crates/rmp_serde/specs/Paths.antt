-- The path from a message to one of its parts, as people read it.
use Rattle.std.specs.Prelude.{◌≡◌, ◌==◌, ℕ, suc, ◌+◌, ◌*◌, ◌-◌, ◌<◌, ◌≤◌, List, [], ◌∷◌, ◌++◌, length, take, drop, flat_map, codes, decimal}
use Rattle.std.specs.Prelude.{Option, None, Bool, true, false, nat_lt, ◌&&◌, ◌||◌, if◌then◌else◌}
use Rattle.std.specs.Char.{is_ascii_alphanumeric}
use Rattle.std.specs.List.{list_all}
use Rattle.std.specs.String.{string_bytes}
use Rattle.rmp_wire.specs.Msg.{Msg, text}
use Rattle.rmp_wire.specs.Spelling.{Spells}
use Rattle.rmp_decode.specs.Law.{Begins, Readable}
use Rattle.rmp_path.specs.Places.{is_map_turn, before_of, start_of_part, start_before}
use Rattle.rmp_path.specs.declared.location.Location.{Location}
use Rattle.rmp_path.specs.declared.turn.Turn.{Turn}
use Rattle.rmp_serde.specs.Parts.{text_of}
use Rattle.rmp_serde.specs.Quoted.{quoted}
use Rattle.rmp_serde.specs.Read.{reads_value}
use Rattle.rmp_serde.specs.TreeText.{tree_text}
use Rattle.rmp_serde.specs.declared.path.Path.{Path}
use Rattle.rmp_serde.specs.declared.path.Step.{Step}
use Rattle.rmp_serde.specs.declared.path.Step.TheVariants as step

abbrev pub message_of : Path → ℕ
message_of p = p.message

abbrev pub place_of : Path → ℕ
place_of p = p.place

abbrev pub steps_of : Path → List Step
steps_of p = p.steps.items

-- the bytes of the part before the one that the turn is to: of a value those of its key
abbrev pub bytes_before : List ℕ → Turn → List ℕ
bytes_before input t = take (start_of_part t - start_before t) (drop (start_before t) input)

-- a beginning of the bytes spells a message of which P holds
abbrev pub KeyIs : (Msg → Type 0) → List ℕ → Type 0
KeyIs P bytes = (m : Msg) × P m × Begins Spells (λ k. reads_value k m) 1024 bytes

-- the turn is to the value of the pair that has so many before it
pub record IsValueTurn (t : Turn) (pairs : ℕ) : Type 0 where
  pub in_map : is_map_turn t ≡ true
  pub before : before_of t ≡ suc (2 * pairs)

-- the step says which part the turn is to
abbrev pub IsStep : List ℕ → Turn → Step → Type 0
IsStep input t (step.Index n) = (is_map_turn t ≡ false) × (n ≡ before_of t)
IsStep input t (step.Key s) = ((n : ℕ) × IsValueTurn t n) × KeyIs (λ m. m ≡ text (string_bytes s)) (bytes_before input t)
IsStep input t (step.Other s) = ((n : ℕ) × IsValueTurn t n) × KeyIs (λ m. (text_of m ≡ None) × (string_bytes s ≡ tree_text m)) (bytes_before input t)
IsStep input t (step.Value n) = IsValueTurn t n
    × (start_before t ≤ start_of_part t → start_of_part t ≤ length input → Begins Spells (Readable reads_value) 1024 (bytes_before input t) → ⊥)
IsStep input t (step.KeyOf n) = (is_map_turn t ≡ true) × (before_of t ≡ 2 * n)

-- a step for each turn
abbrev pub AreSteps : List ℕ → List Turn → List Step → Type 0
AreSteps input [] [] = Unit {0}
AreSteps input (t ∷ ts) (s ∷ ss) = IsStep input t s × AreSteps input ts ss
AreSteps input _ _ = ⊥

-- the path to the part that was located
pub record IsPathOf (input : List ℕ) (found : Location) (p : Path) : Type 0 where
  pub message : p.message ≡ found.message
  pub place : p.place ≡ found.place
  pub steps : AreSteps input found.turns.items p.steps.items

-- ---- the text of a path

-- a letter, a digit, `_` or `-`
abbrev pub is_plain_byte : ℕ → Bool
is_plain_byte b = is_ascii_alphanumeric b || (b == 95 || b == 45)

-- such bytes alone, and at least one
abbrev pub is_plain : List ℕ → Bool
is_plain s = nat_lt 0 (length s) && list_all is_plain_byte s

-- a key that is a text: as it is, or as a JSON string
abbrev pub key_name : List ℕ → List ℕ
key_name s = if is_plain s then s else quoted s

abbrev pub step_text : Step → List ℕ
step_text (step.Index n) = codes "[" ++ decimal n ++ codes "]"
step_text (step.Key s) = codes "." ++ key_name (string_bytes s)
step_text (step.Other s) = codes "." ++ string_bytes s
step_text (step.Value n) = codes "{value " ++ decimal n ++ codes "}"
step_text (step.KeyOf n) = codes "{key " ++ decimal n ++ codes "}"

-- the texts of its steps, in order
abbrev pub path_text : Path → List ℕ
path_text p = flat_map step_text (steps_of p)
