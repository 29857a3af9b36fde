-- The heads of a message in the order of its spelling, and the message that is built from them. (MessagePack
-- specification, "Formats".)
use Rattle.std.specs.Prelude.{ℕ, zero, suc, List, [], ◌∷◌, ◌++◌, length, drop}
use Rattle.rmp_wire.specs.declared.head.Head.{Head}
use Rattle.rmp_wire.specs.declared.head.Head.TheVariants.{Nil, Truth, Whole, F32Bits, F64Bits, Text, Bin, Array, Map, Ext}
use Rattle.rmp_wire.specs.Heads.{canon_head}
use Rattle.rmp_wire.specs.Msg.{
  Msg,
  nil,
  truth,
  whole,
  float32,
  float64,
  text,
  bin,
  list,
  map,
  extension,
  Msgs,
  no_items,
  item,
  Pairs,
  no_pairs,
  pair,
  count,
  count_pairs,
}

-- a head and its content: what one node of a flat tree holds
abbrev pub Token : Type 0
Token = Head × List ℕ

-- the heads of a message, each with its content, in the order of the spelling
abbrev mutual
  pub tokens : Msg → List Token
  tokens nil = (Nil, []) ∷ []
  tokens (truth t) = (Truth t, []) ∷ []
  tokens (whole z) = (Whole z, []) ∷ []
  tokens (float32 n) = (F32Bits n, []) ∷ []
  tokens (float64 n) = (F64Bits n, []) ∷ []
  tokens (text s) = (Text (length s), s) ∷ []
  tokens (bin s) = (Bin (length s), s) ∷ []
  tokens (list ms) = (Array (count ms), []) ∷ tokens_all ms
  tokens (map ps) = (Map (count_pairs ps), []) ∷ tokens_pairs ps
  tokens (extension tag s) = (Ext (length s) tag, s) ∷ []

  pub tokens_all : Msgs → List Token
  tokens_all no_items = []
  tokens_all (item m ms) = tokens m ++ tokens_all ms

  pub tokens_pairs : Pairs → List Token
  tokens_pairs no_pairs = []
  tokens_pairs (pair k v ps) = tokens k ++ (tokens v ++ tokens_pairs ps)

-- the canonical bytes of such heads
abbrev pub canon_tokens : List Token → List ℕ
canon_tokens [] = []
canon_tokens (t ∷ ts) = canon_head t.0 ++ (t.1 ++ canon_tokens ts)

-- keys and values in turn
abbrev pub flat_pairs : Pairs → Msgs
flat_pairs no_pairs = no_items
flat_pairs (pair k v ps) = item k (item v (flat_pairs ps))

-- ---- a tree from its heads: from the last head to the first, each list and map takes its parts from the
-- messages that were made

-- the first n of them
abbrev pub first_items : ℕ → Msgs → Msgs
first_items zero ms = no_items
first_items (suc n) no_items = no_items
first_items (suc n) (item m ms) = item m (first_items n ms)

-- all but the first n
abbrev pub past_items : ℕ → Msgs → Msgs
past_items zero ms = ms
past_items (suc n) no_items = no_items
past_items (suc n) (item m ms) = past_items n ms

-- the first n keys and values
abbrev pub first_pairs : ℕ → Msgs → Pairs
first_pairs zero ms = no_pairs
first_pairs (suc n) no_items = no_pairs
first_pairs (suc n) (item k no_items) = no_pairs
first_pairs (suc n) (item k (item v ms)) = pair k v (first_pairs n ms)

-- all but the first n keys and values
abbrev pub past_pairs : ℕ → Msgs → Msgs
past_pairs zero ms = ms
past_pairs (suc n) no_items = no_items
past_pairs (suc n) (item k no_items) = no_items
past_pairs (suc n) (item k (item v ms)) = past_pairs n ms

-- adds a head before the messages that were made
abbrev pub put_head : Head → List ℕ → Msgs → Msgs
put_head Nil s ms = item nil ms
put_head (Truth t) s ms = item (truth t) ms
put_head (Whole z) s ms = item (whole z) ms
put_head (F32Bits n) s ms = item (float32 n) ms
put_head (F64Bits n) s ms = item (float64 n) ms
put_head (Text n) s ms = item (text s) ms
put_head (Bin n) s ms = item (bin s) ms
put_head (Array n) s ms = item (list (first_items n ms)) (past_items n ms)
put_head (Map n) s ms = item (map (first_pairs n ms)) (past_pairs n ms)
put_head (Ext n tag) s ms = item (extension tag s) ms

-- the messages, in order, that have these heads
abbrev pub built : List Token → Msgs
built [] = no_items
built (t ∷ ts) = put_head t.0 t.1 (built ts)

-- the first of them
abbrev pub first_tree : Msgs → Msg
first_tree no_items = nil
first_tree (item m ms) = m

-- the messages from a head of a message on, in order
abbrev pub row_from : Msg → ℕ → Msgs
row_from m at = built (drop at (tokens m))
