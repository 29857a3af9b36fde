-- What a value is read from.
use Rattle.std.specs.Prelude.{◌≡◌, ⊤}
use Rattle.std.specs.Str.{IsUtf8}
use Rattle.rmp_wire.specs.Msg.{Msg, nil, truth, whole, float32, float64, text, bin, list, map, extension, Msgs, no_items, item, Pairs, no_pairs, pair}

-- every text in the message is UTF-8
abbrev mutual
  pub AllTextsUtf8 : Msg → Type 0
  AllTextsUtf8 nil = ⊤
  AllTextsUtf8 (truth t) = ⊤
  AllTextsUtf8 (whole z) = ⊤
  AllTextsUtf8 (float32 n) = ⊤
  AllTextsUtf8 (float64 n) = ⊤
  AllTextsUtf8 (text s) = IsUtf8 s
  AllTextsUtf8 (bin s) = ⊤
  AllTextsUtf8 (list ms) = ItemsUtf8 ms
  AllTextsUtf8 (map ps) = PairsUtf8 ps
  AllTextsUtf8 (extension tag s) = ⊤

  pub ItemsUtf8 : Msgs → Type 0
  ItemsUtf8 no_items = ⊤
  ItemsUtf8 (item m ms) = AllTextsUtf8 m × ItemsUtf8 ms

  pub PairsUtf8 : Pairs → Type 0
  PairsUtf8 no_pairs = ⊤
  PairsUtf8 (pair k v ps) = AllTextsUtf8 k × AllTextsUtf8 v × PairsUtf8 ps

-- the tree itself, whose texts must be UTF-8
abbrev pub reads_value : Msg → Msg → Type 0
reads_value m v = (v ≡ m) × AllTextsUtf8 m
