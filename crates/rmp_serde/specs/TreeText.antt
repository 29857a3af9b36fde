-- A message as text.
use Rattle.std.specs.Prelude.{ℕ, List, [], ◌∷◌, ◌++◌, true, false, codes}
use Rattle.std.specs.Fmt.{signed_decimal}
use Rattle.std.specs.List.{join_with_byte}
use Rattle.std.specs.Int.{to_be_bytes, w32, w64}
use Rattle.hex.specs.Hex.{encode_lower}
use Rattle.rmp_wire.specs.Msg.{Msg, nil, truth, whole, float32, float64, text, bin, list, map, extension, Msgs, no_items, item, Pairs, no_pairs, pair}

-- texts in order, with a comma between each two
abbrev pub with_commas : List (List ℕ) → List ℕ
with_commas texts = join_with_byte 44 texts

-- Numbers are decimal; bits and bytes are lower-case hex.
unfoldable mutual
  pub tree_text : Msg → List ℕ
  tree_text nil = codes "nil"
  tree_text (truth true) = codes "true"
  tree_text (truth false) = codes "false"
  tree_text (whole z) = signed_decimal z
  tree_text (float32 n) = codes "f32:" ++ encode_lower (to_be_bytes w32 n)
  tree_text (float64 n) = codes "f64:" ++ encode_lower (to_be_bytes w64 n)
  tree_text (text s) = codes "t:" ++ encode_lower s
  tree_text (bin s) = codes "b:" ++ encode_lower s
  tree_text (list ms) = codes "[" ++ with_commas (item_texts ms) ++ codes "]"
  tree_text (map ps) = codes "{" ++ with_commas (pair_texts ps) ++ codes "}"
  tree_text (extension tag s) = codes "x(" ++ signed_decimal tag ++ codes "):" ++ encode_lower s

  -- the text of each item
  pub item_texts : Msgs → List (List ℕ)
  item_texts no_items = []
  item_texts (item m ms) = tree_text m ∷ item_texts ms

  -- the text of each pair
  pub pair_texts : Pairs → List (List ℕ)
  pair_texts no_pairs = []
  pair_texts (pair k v ps) = (tree_text k ++ codes "=" ++ tree_text v) ∷ pair_texts ps
