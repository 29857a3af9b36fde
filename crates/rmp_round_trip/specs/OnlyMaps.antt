-- What sets and maps lower to is read as nothing else, where that holds of their keys and values.
use Rattle.std.proofs.Common.{◌≡◌, List, [], ◌∷◌, Option}
use Rattle.std.specs.Cmp.{IsTotalOrder}
use Rattle.std.specs.List.Sorted.{IsStrictlySortedBy}
use Rattle.std.specs.Map.{keys_of}
use Rattle.std.specs.declared.cmp.Ordering.{Ordering}
use Rattle.std.specs.declared.cmp.Ordering.TheVariants.{Equal}
use Rattle.rmp_wire.specs.Msg.{Msg, Pairs, no_pairs, pair, nil, truth, whole, float32, float64, text, bin, list, extension}
use Rattle.rmp_wire.specs.Msg.{map as mapping}
use Rattle.rmp_encode.specs.Data.{Data}
use Rattle.rmp_encode.specs.declared.settings.Settings.{Settings}
use Rattle.rmp_decode.specs.Maps.{Collects, OfMap, ReadsEntries, ReadsPairs}
use Rattle.rmp_decode.specs.Rows.{ReadsEach}
use Rattle.rmp_decode.specs.Seq.{OfRow}
use Rattle.rmp_decode.specs.Sets.{CollectsKeys, ReadsKeys}
use Rattle.rmp_round_trip.specs.AlikeOrder.{same_map, same_set}
use Rattle.rmp_round_trip.specs.OnlyRows.{each_only, lowers_then, row_both}
use Rattle.rmp_round_trip.specs.RoundTrip.{LowersTo, Only, Alike, AlikeEntries, AlikePairs}

map_both : (Q S : Pairs → Type 0) (X : Type 0) (m : Msg) → OfMap Q m → OfMap S m → ((ps : Pairs) → Q ps → S ps → X) → X
map_both Q S X nil q r f = absurd q
map_both Q S X (truth t) q r f = absurd q
map_both Q S X (whole z) q r f = absurd q
map_both Q S X (float32 n) q r f = absurd q
map_both Q S X (float64 n) q r f = absurd q
map_both Q S X (text t) q r f = absurd q
map_both Q S X (bin t) q r f = absurd q
map_both Q S X (list ms) q r f = absurd q
map_both Q S X (mapping ps) q r f = f ps q r
map_both Q S X (extension tag t) q r f = absurd q

module _ {K V : Type 0} (keys : Msg → K → Type 0) (values : Msg → V → Type 0) (same_key : K → K → Type 0) (same_value : V → V → Type 0) where
  pairs_only : (ps : Pairs) (es fs : List (K × V)) → ReadsPairs (Only keys same_key) (Only values same_value) ps es → ReadsPairs keys values ps fs
      → AlikePairs same_key same_value es fs
  pairs_only no_pairs [] [] q r = tt
  pairs_only no_pairs [] (f ∷ fs) q r = absurd r
  pairs_only no_pairs (e ∷ es) fs q r = absurd q
  pairs_only (pair k v ps) [] fs q r = absurd q
  pairs_only (pair k v ps) (e ∷ es) [] q r = absurd r
  pairs_only (pair k v ps) (e ∷ es) (f ∷ fs) q r = ((q.0 f.0 r.0, q.1 f.1 r.1), pairs_only ps es fs q.2 r.2)

  pub map_only : (s : Settings) (d : Option Data) {W : Type 0} (entries : W → List (K × V)) (cmp : K → K → Ordering) (es : List (K × V))
      → LowersTo s d (OfMap (λ ps. ReadsPairs (Only keys same_key) (Only values same_value) ps es))
      → LowersTo s d (λ m. (w : W) → ReadsEntries cmp keys values (entries w) m → AlikeEntries cmp same_key same_value es (entries w))
  map_only s d {W} entries cmp es h = lowers_then s d (OfMap (λ ps. ReadsPairs (Only keys same_key) (Only values same_value) ps es))
      (λ m. (w : W) → ReadsEntries cmp keys values (entries w) m → AlikeEntries cmp same_key same_value es (entries w))
      h (λ m q w r. map_both (λ ps. ReadsPairs (Only keys same_key) (Only values same_value) ps es)
      (λ ps. (ns : List (K × V)) × ReadsPairs keys values ps ns × Collects cmp ns (entries w)) (AlikeEntries cmp same_key same_value es (entries w)) m q r
      (λ ps a b. (b.0, pairs_only ps es b.0 a b.1, b.2)))

  -- of entries in order, the same entries
  pub entries_only : (s : Settings) (d : Option Data) {W : Type 0} (entries : W → List (K × V)) {cmp : K → K → Ordering} → IsTotalOrder cmp
      → ((a b : K) → same_key a b → cmp a b ≡ Equal) → (es : List (K × V)) → IsStrictlySortedBy cmp (keys_of es)
      → LowersTo s d (OfMap (λ ps. ReadsPairs (Only keys same_key) (Only values same_value) ps es))
      → LowersTo s d (λ m. (w : W) → ReadsEntries cmp keys values (entries w) m → AlikePairs same_key same_value es (entries w))
  entries_only s d {W} entries {cmp} o equal es sorted h =
      lowers_then s d (λ m. (w : W) → ReadsEntries cmp keys values (entries w) m → AlikeEntries cmp same_key same_value es (entries w))
      (λ m. (w : W) → ReadsEntries cmp keys values (entries w) m → AlikePairs same_key same_value es (entries w))
      (map_only s d entries cmp es h) (λ m q w r. same_map o same_key same_value equal es (entries w) sorted (q w r))

-- of keys in order, the same keys
pub set_only : (s : Settings) (d : Option Data) {K W : Type 0} (keys : W → List K) {cmp : K → K → Ordering} → IsTotalOrder cmp → (reads : Msg → K → Type 0)
    (same : K → K → Type 0) → ((a b : K) → same a b → cmp a b ≡ Equal) → (ks : List K) → IsStrictlySortedBy cmp ks
    → LowersTo s d (OfRow (λ ms. ReadsEach (Only reads same) ms ks))
    → LowersTo s d (λ m. (w : W) → ReadsKeys cmp reads (keys w) m → Alike same ks (keys w))
set_only s d {K} {W} keys {cmp} o reads same equal ks sorted h = lowers_then s d (OfRow (λ ms. ReadsEach (Only reads same) ms ks))
    (λ m. (w : W) → ReadsKeys cmp reads (keys w) m → Alike same ks (keys w))
    h (λ m q w r. row_both (λ ms. ReadsEach (Only reads same) ms ks)
    (λ ms. (ns : List K) × ReadsEach reads ms ns × CollectsKeys cmp ns (keys w)) (Alike same ks (keys w)) m q r
    (λ ms a b. same_set o same equal ks (keys w) sorted (b.0, each_only reads same ms ks b.0 a b.1, b.2)))
