-- The heads of a tree tell the tree.
use Rattle.std.proofs.Common.{◌≡◌, ◌∙◌, sym, ap, refl, List, [], ◌++◌, length, append_assoc}
use Rattle.std.proofs.lemmas.List.{append-nil}
use Rattle.rmp_wire.specs.declared.head.Head.TheVariants.{Text, Bin, Array, Map, Ext}
use Rattle.rmp_wire.specs.Heads.{canon_head}
use Rattle.rmp_wire.specs.Spelling.{canon, canon_all, canon_pairs}
use Rattle.rmp_wire.specs.Msg.{
  Msg,
  nil,
  truth,
  whole,
  float32,
  float64,
  text,
  bin,
  list,
  map,
  extension,
  Msgs,
  no_items,
  item,
  Pairs,
  no_pairs,
  pair,
  count,
  count_pairs,
}
use Rattle.rmp_decode.proofs.Rows.{append}
use Rattle.rmp_serde.specs.Tokens.{
  Token,
  tokens,
  tokens_all,
  tokens_pairs,
  canon_tokens,
  flat_pairs,
  first_items,
  past_items,
  first_pairs,
  past_pairs,
  put_head,
  built,
  first_tree,
}

first_all : (ms ks : Msgs) → first_items (count ms) (append ms ks) ≡ ms
first_all no_items ks = refl
first_all (item m ms) ks = ap (λ z. item m z) (first_all ms ks)

past_all : (ms ks : Msgs) → past_items (count ms) (append ms ks) ≡ ks
past_all no_items ks = refl
past_all (item m ms) ks = past_all ms ks

first_each : (ps : Pairs) (ks : Msgs) → first_pairs (count_pairs ps) (append (flat_pairs ps) ks) ≡ ps
first_each no_pairs ks = refl
first_each (pair k v ps) ks = ap (λ z. pair k v z) (first_each ps ks)

past_each : (ps : Pairs) (ks : Msgs) → past_pairs (count_pairs ps) (append (flat_pairs ps) ks) ≡ ks
past_each no_pairs ks = refl
past_each (pair k v ps) ks = past_each ps ks

-- what is built from a tree's heads is the tree, and then what is built from the rest
mutual
  pub built_tree : (m : Msg) (x : List Token) → built (tokens m ++ x) ≡ item m (built x)
  built_tree nil x = refl
  built_tree (truth t) x = refl
  built_tree (whole z) x = refl
  built_tree (float32 n) x = refl
  built_tree (float64 n) x = refl
  built_tree (text s) x = refl
  built_tree (bin s) x = refl
  built_tree (list ms) x = ap (put_head (Array (count ms)) []) (built_all ms x)
      ∙ ap (λ z. item (list z) (past_items (count ms) (append ms (built x)))) (first_all ms (built x))
      ∙ ap (λ z. item (list ms) z) (past_all ms (built x))
  built_tree (map ps) x = ap (put_head (Map (count_pairs ps)) []) (built_each ps x)
      ∙ ap (λ z. item (map z) (past_pairs (count_pairs ps) (append (flat_pairs ps) (built x)))) (first_each ps (built x))
      ∙ ap (λ z. item (map ps) z) (past_each ps (built x))
  built_tree (extension tag s) x = refl

  pub built_all : (ms : Msgs) (x : List Token) → built (tokens_all ms ++ x) ≡ append ms (built x)
  built_all no_items x = refl
  built_all (item m ms) x = ap built (append_assoc (tokens m) (tokens_all ms) x) ∙ built_tree m (tokens_all ms ++ x)
      ∙ ap (λ z. item m z) (built_all ms x)

  built_each : (ps : Pairs) (x : List Token) → built (tokens_pairs ps ++ x) ≡ append (flat_pairs ps) (built x)
  built_each no_pairs x = refl
  built_each (pair k v ps) x =
      ap built (append_assoc (tokens k) (tokens v ++ tokens_pairs ps) x ∙ ap (λ z. tokens k ++ z) (append_assoc (tokens v) (tokens_pairs ps) x))
      ∙ built_tree k (tokens v ++ (tokens_pairs ps ++ x)) ∙ ap (λ z. item k z) (built_tree v (tokens_pairs ps ++ x)
      ∙ ap (λ z. item v z) (built_each ps x))

-- a tree's heads tell it
pub tree_told : (m : Msg) → first_tree (built (tokens m)) ≡ m
tree_told m = ap (λ z. first_tree (built z)) (sym (append-nil (tokens m))) ∙ ap first_tree (built_tree m [])

-- the canonical spelling is that of the heads
mutual
  pub canon_told : (m : Msg) (x : List Token) → canon m ++ canon_tokens x ≡ canon_tokens (tokens m ++ x)
  canon_told nil x = refl
  canon_told (truth t) x = refl
  canon_told (whole z) x = refl
  canon_told (float32 n) x = refl
  canon_told (float64 n) x = refl
  canon_told (text s) x = append_assoc (canon_head (Text (length s))) s (canon_tokens x)
  canon_told (bin s) x = append_assoc (canon_head (Bin (length s))) s (canon_tokens x)
  canon_told (list ms) x = append_assoc (canon_head (Array (count ms))) (canon_all ms) (canon_tokens x)
      ∙ ap (λ z. canon_head (Array (count ms)) ++ z) (canon_told_all ms x)
  canon_told (map ps) x = append_assoc (canon_head (Map (count_pairs ps))) (canon_pairs ps) (canon_tokens x)
      ∙ ap (λ z. canon_head (Map (count_pairs ps)) ++ z) (canon_told_pairs ps x)
  canon_told (extension tag s) x = append_assoc (canon_head (Ext (length s) tag)) s (canon_tokens x)

  pub canon_told_all : (ms : Msgs) (x : List Token) → canon_all ms ++ canon_tokens x ≡ canon_tokens (tokens_all ms ++ x)
  canon_told_all no_items x = refl
  canon_told_all (item m ms) x = append_assoc (canon m) (canon_all ms) (canon_tokens x) ∙ ap (λ z. canon m ++ z) (canon_told_all ms x)
      ∙ canon_told m (tokens_all ms ++ x) ∙ ap canon_tokens (sym (append_assoc (tokens m) (tokens_all ms) x))

  canon_told_pairs : (ps : Pairs) (x : List Token) → canon_pairs ps ++ canon_tokens x ≡ canon_tokens (tokens_pairs ps ++ x)
  canon_told_pairs no_pairs x = refl
  canon_told_pairs (pair k v ps) x =
      append_assoc (canon k) (canon v ++ canon_pairs ps) (canon_tokens x)
      ∙ ap (λ z. canon k ++ z) (append_assoc (canon v) (canon_pairs ps) (canon_tokens x) ∙ ap (λ z. canon v ++ z) (canon_told_pairs ps x)
      ∙ canon_told v (tokens_pairs ps ++ x)) ∙ canon_told k (tokens v ++ (tokens_pairs ps ++ x))
      ∙ ap canon_tokens (ap (λ z. tokens k ++ z) (sym (append_assoc (tokens v) (tokens_pairs ps) x))
      ∙ sym (append_assoc (tokens k) (tokens v ++ tokens_pairs ps) x))
