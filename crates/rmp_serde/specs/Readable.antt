-- A message as people read it: JSON, where JSON has words for it.
use Rattle.std.specs.Prelude.{ℕ, zero, suc, List, [], ◌∷◌, ◌++◌, codes}
use Rattle.rmp_wire.specs.Msg.{Msg, nil, truth, whole, float32, float64, text, bin, list, map, extension, Msgs, no_items, item, Pairs, no_pairs, pair}
use Rattle.rmp_serde.specs.Parts.{tree}
use Rattle.rmp_serde.specs.Quoted.{quoted}
use Rattle.rmp_serde.specs.TreeText.{tree_text}
use Rattle.rmp_serde.specs.declared.value.text.readable.Layout.{Layout}
use Rattle.rmp_serde.specs.declared.value.text.readable.Layout.TheVariants.{Line, Indented}
use Rattle.rmp_serde.specs.declared.value.text.readable.Readable.{Readable}

-- two spaces for each list or map around
abbrev pub spaces : ℕ → List ℕ
spaces zero = []
spaces (suc d) = codes "  " ++ spaces d

-- what comes before a part: nothing, or the end of the line and the part's indent
abbrev pub gap : Layout → ℕ → List ℕ
gap Line d = []
gap Indented d = codes "\n" ++ spaces d

abbrev pub colon : Layout → List ℕ
colon Line = codes ":"
colon Indented = codes ": "

-- the texts of the parts after the first, each after a comma, and what comes before the closing bracket
abbrev pub after_first : Layout → ℕ → List (List ℕ) → List ℕ
after_first l d [] = gap l d
after_first l d (t ∷ ts) = codes "," ++ gap l (suc d) ++ t ++ after_first l d ts

-- the texts of all parts of a list or a map that is itself inside of d others
abbrev pub spread : Layout → ℕ → List (List ℕ) → List ℕ
spread l d [] = []
spread l d (t ∷ ts) = gap l (suc d) ++ t ++ after_first l d ts

-- a text is quoted, and any other key is as its tree's text has it
abbrev pub key_text : Msg → List ℕ
key_text (text s) = quoted s
key_text m = tree_text m

-- the text of a message inside of d lists and maps
unfoldable mutual
  pub readable : Layout → ℕ → Msg → List ℕ
  readable l d nil = codes "null"
  readable l d (text s) = quoted s
  readable l d (list ms) = codes "[" ++ spread l d (readable_items l (suc d) ms) ++ codes "]"
  readable l d (map ps) = codes "{" ++ spread l d (readable_pairs l (suc d) ps) ++ codes "}"
  readable l d (truth t) = tree_text (truth t)
  readable l d (whole z) = tree_text (whole z)
  readable l d (float32 n) = tree_text (float32 n)
  readable l d (float64 n) = tree_text (float64 n)
  readable l d (bin s) = tree_text (bin s)
  readable l d (extension tag s) = tree_text (extension tag s)

  -- the text of each item
  pub readable_items : Layout → ℕ → Msgs → List (List ℕ)
  readable_items l d no_items = []
  readable_items l d (item m ms) = readable l d m ∷ readable_items l d ms

  -- the text of each pair
  pub readable_pairs : Layout → ℕ → Pairs → List (List ℕ)
  readable_pairs l d no_pairs = []
  readable_pairs l d (pair k v ps) = (key_text k ++ colon l ++ readable l d v) ∷ readable_pairs l d ps

-- a message on one line
abbrev pub readable_text : Msg → List ℕ
readable_text m = readable Line 0 m

-- a message with a line for each part
abbrev pub pretty_text : Msg → List ℕ
pretty_text m = readable Indented 0 m

-- the message of a text that is to be printed, and its layout
abbrev pub message_in : Readable → Msg
message_in r = tree r.value

abbrev pub layout_in : Readable → Layout
layout_in r = r.layout
