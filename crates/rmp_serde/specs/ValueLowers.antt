-- A value lowers to its own tree.
use Rattle.std.proofs.Common.{◌≡◌, Some, refl, sym, ap, subst}
use Rattle.std.specs.Prelude.{IsSomeAnd}
use Rattle.rmp_wire.specs.Msg.{Msg, nil, truth, whole, float32, float64, text, bin, list, map, extension, Msgs, no_items, item, Pairs, no_pairs, pair}
use Rattle.rmp_encode.specs.Data.{lower, lower_parts, lower_entries}
use Rattle.rmp_encode.specs.Trees.{tree_of}
use Rattle.rmp_encode.specs.declared.settings.Settings.{Settings}
use Rattle.rmp_serde.specs.Read.{AllTextsUtf8, reads_value}
use Rattle.rmp_round_trip.specs.RoundTrip.{LowersTo}
use Rattle.rmp_serde.specs.ValueData.{value_data, values_data, pairs_data}

mutual
  unfolding lower value_data

  pub lower_value : (s : Settings) (m : Msg) → lower s (value_data m) ≡ m
  lower_value s nil = refl
  lower_value s (truth t) = refl
  lower_value s (whole z) = refl
  lower_value s (float32 n) = refl
  lower_value s (float64 n) = refl
  lower_value s (text t) = refl
  lower_value s (bin t) = refl
  lower_value s (list ms) = ap list (lower_values s ms)
  lower_value s (map ps) = ap map (lower_pairs s ps)
  lower_value s (extension tag t) = refl

  lower_values : (s : Settings) (ms : Msgs) → lower_parts s (values_data ms) ≡ ms
  lower_values s no_items = refl
  lower_values s (item m ms) = λ i. item (lower_value s m i) (lower_values s ms i)

  lower_pairs : (s : Settings) (ps : Pairs) → lower_entries s (pairs_data ps) ≡ ps
  lower_pairs s no_pairs = refl
  lower_pairs s (pair k v ps) = λ i. pair (lower_value s k i) (lower_value s v i) (lower_pairs s ps i)

-- the tree of a value
pub value_tree : (s : Settings) (m : Msg) → tree_of s (Some (value_data m)) ≡ Some m
value_tree s m = ap Some (lower_value s m)

pub value_row : (s : Settings) (m : Msg) → AllTextsUtf8 m → LowersTo s (Some (value_data m)) (λ k. reads_value k m)
value_row s m u = subst (λ t. IsSomeAnd t (λ k. reads_value k m)) (sym (value_tree s m)) (refl, u)

pub value_only : (s : Settings) (m : Msg) → LowersTo s (Some (value_data m)) (λ k. (w : Msg) → reads_value k w → m ≡ w)
value_only s m = subst (λ t. IsSomeAnd t (λ k. (w : Msg) → reads_value k w → m ≡ w)) (sym (value_tree s m)) (λ w r. sym r.0)
