-- The lists and maps whose text isn't complete, and what remains of it.
use Rattle.std.specs.Prelude.{◌≡◌, ℕ, suc, ◌+◌, ◌*◌, Bool, true, false, List, [], ◌∷◌, ◌++◌, length, codes, Option, None, Some}
use Rattle.std.specs.Fmt.{HasWritten, signed_decimal}
use Rattle.std.specs.declared.fmt.Formatter.{Formatter}
use Rattle.std.specs.Int.{to_be_bytes, w32, w64}
use Rattle.hex.specs.Hex.{encode_lower}
use Rattle.rmp_wire.specs.declared.head.Head.{Head}
use Rattle.rmp_wire.specs.declared.head.Head.TheVariants.{Nil, Truth, Whole, F32Bits, F64Bits, Text, Bin, Array, Map, Ext}
use Rattle.rmp_wire.specs.Msg.{Msg}
use Rattle.rmp_serde.specs.PartsLeft.{parts_left}
use Rattle.rmp_serde.specs.Tokens.{tokens}
use Rattle.rmp_serde.specs.TreeText.{tree_text}
use Rattle.rmp_serde.specs.declared.value.text.Open.{Open}
use Rattle.rmp_serde.specs.declared.value.text.Sign.{Sign}
use Rattle.rmp_serde.specs.declared.value.text.Sign.TheVariants.{Nothing, Comma, Equals}

-- the text of a head and its content; of a list or a map, the opening bracket
abbrev pub head_text : Head → List ℕ → List ℕ
head_text Nil s = codes "nil"
head_text (Truth true) s = codes "true"
head_text (Truth false) s = codes "false"
head_text (Whole z) s = signed_decimal z
head_text (F32Bits n) s = codes "f32:" ++ encode_lower (to_be_bytes w32 n)
head_text (F64Bits n) s = codes "f64:" ++ encode_lower (to_be_bytes w64 n)
head_text (Text len) s = codes "t:" ++ encode_lower s
head_text (Bin len) s = codes "b:" ++ encode_lower s
head_text (Array n) s = codes "["
head_text (Map n) s = codes "{"
head_text (Ext len tag) s = codes "x(" ++ signed_decimal tag ++ codes "):" ++ encode_lower s

abbrev pub sign_text : Sign → List ℕ
sign_text Nothing = []
sign_text Comma = codes ","
sign_text Equals = codes "="

-- the punctuation before the next part: in a map keys and values take turns
abbrev pub next_sign : Bool → Sign → Sign
next_sign true Nothing = Equals
next_sign true Comma = Equals
next_sign _ _ = Comma

abbrev pub bracket_of : Bool → List ℕ
bracket_of true = codes "}"
bracket_of false = codes "]"

-- the text of the parts that remain, and the closing bracket
abbrev pub text_left : Bool → Sign → List Msg → List ℕ
text_left is_map sign [] = bracket_of is_map
text_left is_map sign (m ∷ ms) = sign_text sign ++ (tree_text m ++ text_left is_map (next_sign is_map sign) ms)

-- the text that remains of nested lists and maps, the outermost first
abbrev pub texts_left : List Open → List ℕ
texts_left [] = []
texts_left (o ∷ os) = texts_left os ++ text_left o.is_map o.sign (parts_left o.parts)

-- the number of heads in messages
abbrev pub heads_among : List Msg → ℕ
heads_among [] = 0
heads_among (m ∷ ms) = length (tokens m) + heads_among ms

-- how many turns of a loop over parts and brackets remain, at most
abbrev pub turns_left : List Open → ℕ
turns_left [] = 0
turns_left (o ∷ os) = suc (2 * heads_among (parts_left o.parts)) + turns_left os

-- Text was written. Followed by what remains of the lists and maps that are open then, it is this text,
-- followed by what remained before.
pub record WritesToward {W : Type 0} (took : W → List ℕ → W → Type 0) (old : Formatter W) (before : List Open) (wanted : List ℕ) (after : List Open)
    (new : Formatter W) : Type 0 where
  pub text : List ℕ
  pub written : HasWritten took old text new
  pub whole : text ++ texts_left after ≡ wanted ++ texts_left before

-- The beginning of a message's text was written, up to its parts, which remain.
pub record BeginsParts {W : Type 0} (took : W → List ℕ → W → Type 0) (old : Formatter W) (m : Msg) (o : Open) (new : Formatter W) : Type 0 where
  pub text : List ℕ
  pub written : HasWritten took old text new
  pub whole : tree_text m ≡ text ++ text_left o.is_map o.sign (parts_left o.parts)

-- a message's text was written, or that of a list or a map up to its parts
abbrev pub Begins : {W : Type 0} → (W → List ℕ → W → Type 0) → Formatter W → Msg → Option Open → Formatter W → Type 0
Begins took old m None new = HasWritten took old (tree_text m) new
Begins took old m (Some o) new = BeginsParts took old m o new
