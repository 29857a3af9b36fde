-- The first message of a line's bytes, and its text.
use Rattle.std.specs.Prelude.{◌≡◌, ◌≤◌, ℕ, Bool, true, false, List, [], ◌∷◌, ◌++◌, ⊤, length, flat_map}
use Rattle.rmp_wire.specs.declared.head.Head.{Head}
use Rattle.rmp_wire.specs.Heads.{canon_head, fits_head}
use Rattle.rmp_wire.specs.Spelling.{IsBytes, Spells, canon, Fits}
use Rattle.rmp_serde.specs.Msg.{Msg, depth}
use Rattle.rmp_serde.specs.Read.{AllTextsUtf8}
use Rattle.rmp_serde.specs.TreeText.{tree_text}
use Rattle.canon_lines.specs.Messages.{message_text}
use Rattle.canon_lines.specs.Prints.{IsAccepted}
use Rattle.canon_lines.specs.declared.leaf.Separator.{Separator}
use Rattle.canon_lines.specs.declared.leaf.Separator.TheVariants.{Nothing, Comma, Equals}

-- the first n bytes spell a message that a line may hold, and this is its text
pub record TellsFirst (n : ℕ) (bytes text : List ℕ) : Type 0 where
  pub message : Msg
  pub front : List ℕ
  pub rest : List ℕ
  pub split : bytes ≡ front ++ rest
  pub long : n ≡ length front
  pub spelled : Spells front message
  pub accepted : IsAccepted message
  pub told : text ≡ message_text message

-- the bytes begin with the canonical head of this kind and number, and this is what follows it
pub record BeginsHead (h : Head) (rest bytes : List ℕ) : Type 0 where
  pub fits : fits_head h
  pub split : bytes ≡ canon_head h ++ rest

-- a message without parts has this head and this payload, and its tree as text was appended
pub record TellsLeaf (h : Head) (payload old new : List ℕ) : Type 0 where
  pub message : Msg
  pub leaf : depth message ≡ 0
  pub utf8 : AllTextsUtf8 message
  pub spelled : canon message ≡ canon_head h ++ payload
  pub fits : fits_head h → IsBytes payload → Fits message
  pub told : new ≡ old ++ tree_text message

-- the bytes begin with a payload that follows this head, and their message's tree as text was appended
pub record TakesContent (h : Head) (bytes rest old new : List ℕ) : Type 0 where
  pub payload : List ℕ
  pub split : bytes ≡ payload ++ rest
  pub leaf : TellsLeaf h payload old new

-- the bytes begin with the canonical spelling of a message that nests no deeper than this, and its tree as text was appended
pub record TakesMessage (deepest : ℕ) (bytes rest old new : List ℕ) : Type 0 where
  pub message : Msg
  pub deep : depth message ≤ deepest
  pub utf8 : AllTextsUtf8 message
  pub fits : Fits message
  pub split : bytes ≡ canon message ++ rest
  pub told : new ≡ old ++ tree_text message

-- ---- the parts of a list or a map, none of which has parts

abbrev pub separator_text : Separator → List ℕ
separator_text Nothing = []
separator_text Comma = 44 ∷ []
separator_text Equals = 61 ∷ []

-- what comes before the next part: in a map keys and values take turns
abbrev pub next_separator : Bool → Separator → Separator
next_separator true Nothing = Equals
next_separator true Comma = Equals
next_separator _ _ = Comma

-- the texts of parts, each after what separates it from the one before
abbrev pub parts_text : Bool → Separator → List Msg → List ℕ
parts_text is_map separator [] = []
parts_text is_map separator (m ∷ ms) = separator_text separator ++ (tree_text m ++ parts_text is_map (next_separator is_map separator) ms)

abbrev pub opening : Bool → List ℕ
opening true = 123 ∷ []
opening false = 91 ∷ []

abbrev pub closing : Bool → List ℕ
closing true = 125 ∷ []
closing false = 93 ∷ []

-- a message without parts
pub record IsLeaf (m : Msg) : Type 0 where
  pub deep : depth m ≡ 0
  pub utf8 : AllTextsUtf8 m
  pub fits : Fits m

abbrev pub AreLeaves : List Msg → Type 0
AreLeaves [] = ⊤
AreLeaves (m ∷ ms) = IsLeaf m × AreLeaves ms

-- the bytes begin with the canonical spellings of so many messages without parts, whose text was appended, up to a separator
pub record TakesParts (is_map : Bool) (n : ℕ) (separator : Separator) (bytes rest old new : List ℕ) : Type 0 where
  pub parts : List Msg
  pub many : length parts ≡ n
  pub leaves : AreLeaves parts
  pub split : bytes ≡ flat_map canon parts ++ rest
  pub told : (ms : List Msg) → new ++ parts_text is_map separator ms ≡ old ++ parts_text is_map Nothing (parts ++ ms)

-- the same of all of them, between brackets
pub record TakesRow (is_map : Bool) (n : ℕ) (bytes rest old new : List ℕ) : Type 0 where
  pub parts : List Msg
  pub many : length parts ≡ n
  pub leaves : AreLeaves parts
  pub split : bytes ≡ flat_map canon parts ++ rest
  pub told : new ≡ old ++ (opening is_map ++ (parts_text is_map Nothing parts ++ closing is_map))
