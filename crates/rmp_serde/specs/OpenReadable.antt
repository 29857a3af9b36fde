-- The lists and maps whose readable text isn't complete, and what remains of it.
use Rattle.std.specs.Prelude.{◌≡◌, ℕ, suc, Bool, true, false, List, [], ◌∷◌, ◌++◌, codes, Option, None, Some}
use Rattle.std.specs.Fmt.{HasWritten}
use Rattle.std.specs.declared.fmt.Formatter.{Formatter}
use Rattle.rmp_wire.specs.Msg.{Msg, nil, truth, whole, float32, float64, text, bin, list, map, extension}
use Rattle.rmp_wire.specs.Spelling.{head_of}
use Rattle.rmp_serde.specs.OpenParts.{head_text, next_sign, bracket_of}
use Rattle.rmp_serde.specs.PartsLeft.{parts_left}
use Rattle.rmp_serde.specs.Quoted.{quoted}
use Rattle.rmp_serde.specs.Readable.{gap, colon, key_text, readable}
use Rattle.rmp_serde.specs.declared.value.text.Open.{Open}
use Rattle.rmp_serde.specs.declared.value.text.Sign.{Sign}
use Rattle.rmp_serde.specs.declared.value.text.Sign.TheVariants.{Nothing, Comma, Equals}
use Rattle.rmp_serde.specs.declared.value.text.readable.Layout.{Layout}

-- the text of a head and its content; of a list or a map, the opening bracket
abbrev pub readable_head : Msg → List ℕ
readable_head nil = codes "null"
readable_head (text s) = quoted s
readable_head (truth t) = head_text (head_of (truth t)) []
readable_head (whole z) = head_text (head_of (whole z)) []
readable_head (float32 n) = head_text (head_of (float32 n)) []
readable_head (float64 n) = head_text (head_of (float64 n)) []
readable_head (bin s) = head_text (head_of (bin s)) s
readable_head (list ms) = codes "["
readable_head (map ps) = codes "{"
readable_head (extension tag s) = head_text (head_of (extension tag s)) s

-- what comes before a part that is inside of d lists and maps
abbrev pub sign_in : Layout → ℕ → Sign → List ℕ
sign_in l d Nothing = gap l d
sign_in l d Comma = codes "," ++ gap l d
sign_in l d Equals = colon l

-- the closing bracket of a list or a map inside of d others, and what comes before it
abbrev pub end_in : Layout → ℕ → Bool → Sign → List ℕ
end_in l d is_map Nothing = bracket_of is_map
end_in l d is_map Comma = gap l d ++ bracket_of is_map
end_in l d is_map Equals = gap l d ++ bracket_of is_map

-- in a map keys and values take turns, and a value follows its sign
abbrev pub is_key : Bool → Sign → Bool
is_key true Nothing = true
is_key true Comma = true
is_key _ _ = false

-- the text of a key or of another part
abbrev pub part_text : Layout → ℕ → Bool → Msg → List ℕ
part_text l d true m = key_text m
part_text l d false m = readable l d m

-- the text of the parts that remain of a list or a map inside of d others, and its end
abbrev pub left_of : Layout → ℕ → Bool → Sign → List Msg → List ℕ
left_of l d is_map sign [] = end_in l d is_map sign
left_of l d is_map sign (m ∷ ms) = sign_in l (suc d) sign ++ (part_text l (suc d) (is_key is_map sign) m ++ left_of l d is_map (next_sign is_map sign) ms)

-- the text that remains of nested lists and maps, the outermost first
abbrev pub all_left : Layout → ℕ → List Open → List ℕ
all_left l d [] = []
all_left l d (o ∷ os) = all_left l (suc d) os ++ left_of l d o.is_map o.sign (parts_left o.parts)

-- Text was written. Followed by what remains of the lists and maps that are open then, it is this text.
pub record WritesUpTo {W : Type 0} (took : W → List ℕ → W → Type 0) (l : Layout) (old : Formatter W) (wanted : List ℕ) (after : List Open)
    (new : Formatter W) : Type 0 where
  pub text : List ℕ
  pub written : HasWritten took old text new
  pub whole : text ++ all_left l 0 after ≡ wanted

-- The beginning of a part's text was written, up to its own parts, which remain.
pub record BeginsInside {W : Type 0} (took : W → List ℕ → W → Type 0) (old : Formatter W) (all : Layout → ℕ → List ℕ) (o : Open) (new : Formatter W)
    : Type 0 where
  pub text : List ℕ
  pub written : HasWritten took old text new
  pub whole : (l : Layout) (d : ℕ) → all l d ≡ text ++ left_of l d o.is_map o.sign (parts_left o.parts)

-- a part's text was written, or that of a list or a map up to its parts
abbrev pub BeginsPart : {W : Type 0} → (W → List ℕ → W → Type 0) → Formatter W → Bool → Msg → Option Open → Formatter W → Type 0
BeginsPart took old key m None new = (l : Layout) (d : ℕ) → HasWritten took old (part_text l d key m) new
BeginsPart took old key m (Some o) new = BeginsInside took old (λ l d. part_text l d key m) o new
