-- What recursive types share that hold themselves in maps: the readings of the entries, and what holds of each value.
use Rattle.std.proofs.Common.{◌≡◌, refl, ap, ℕ, zero, suc, List, [], ◌∷◌, All, Option}
use Rattle.std.proofs.Common as common
use Rattle.std.proofs.lemmas.List.Elements.{All-nil, All-cons, All-head, All-tail}
use Rattle.std.specs.List.{AllByRecursion}
use Rattle.std.specs.List.Sorted.{IsStrictlySortedBy}
use Rattle.std.specs.Map.{keys_of}
use Rattle.std.specs.declared.cmp.Ordering.{Ordering}
use Rattle.rmp_wire.specs.Msg.{Msg, nil, truth, whole, float32, float64, text, bin, list, map, extension, Pairs, no_pairs, pair}
use Rattle.rmp_encode.specs.Data.{Data}
use Rattle.rmp_encode.specs.Trees.{in_turn}
use Rattle.rmp_decode.specs.Maps.{OfMap, ReadsPairs, Collects, ReadsEntries}
use Rattle.rmp_recursive.specs.Parts.{InSteps, both_in}

-- what is known of the entries: of each key and value, and that the keys are in order
abbrev pub EntriesFit : {K V : Type 0} → (K → K → Ordering) → (K → Type 0) → (V → Type 0) → List (K × V) → Type 0
EntriesFit {K} {V} cmp key fits es = AllByRecursion (λ (e : K × V). key e.0 × fits e.1) es × IsStrictlySortedBy cmp (keys_of es)

-- a map of whose pairs more is said
of_map_as : (P Q : Pairs → Type 0) → ((ps : Pairs) → P ps → Q ps) → (m : Msg) → OfMap P m → OfMap Q m
of_map_as P Q f nil h = h
of_map_as P Q f (truth t) h = h
of_map_as P Q f (whole z) h = h
of_map_as P Q f (float32 n) h = h
of_map_as P Q f (float64 n) h = h
of_map_as P Q f (text s) h = h
of_map_as P Q f (bin s) h = h
of_map_as P Q f (list ms) h = h
of_map_as P Q f (map ps) h = f ps h
of_map_as P Q f (extension tag s) h = h

of_map_in : (P : Pairs → Type 0) (Q : ℕ → Pairs → Type 0) → ((ps : Pairs) → P ps → (n : ℕ) × Q n ps) → (m : Msg) → OfMap P m → (n : ℕ) × OfMap (Q n) m
of_map_in P Q f nil h = absurd h
of_map_in P Q f (truth t) h = absurd h
of_map_in P Q f (whole z) h = absurd h
of_map_in P Q f (float32 n) h = absurd h
of_map_in P Q f (float64 n) h = absurd h
of_map_in P Q f (text s) h = absurd h
of_map_in P Q f (bin s) h = absurd h
of_map_in P Q f (list ms) h = absurd h
of_map_in P Q f (map ps) h = f ps h
of_map_in P Q f (extension tag s) h = absurd h

module _ {K V : Type 0} (cmp : K → K → Ordering) (keys : Msg → K → Type 0) where
  pairs_as : (P Q : Msg → V → Type 0) → ((m : Msg) (v : V) → P m v → Q m v) → (ps : Pairs) (es : List (K × V)) → ReadsPairs keys P ps es
      → ReadsPairs keys Q ps es
  pairs_as P Q f no_pairs [] h = tt
  pairs_as P Q f no_pairs (e ∷ es) h = absurd h
  pairs_as P Q f (pair k v ps) [] h = absurd h
  pairs_as P Q f (pair k v ps) (e ∷ es) h = (h.0, f v e.1 h.1, pairs_as P Q f ps es h.2)

  pub map_as : (P Q : Msg → V → Type 0) → ((m : Msg) (v : V) → P m v → Q m v) → (m : Msg) (es : List (K × V)) → ReadsEntries cmp keys P es m
      → ReadsEntries cmp keys Q es m
  map_as P Q f m es h = of_map_as (λ ps. (ns : List (K × V)) × ReadsPairs keys P ps ns × Collects cmp ns es)
      (λ ps. (ns : List (K × V)) × ReadsPairs keys Q ps ns × Collects cmp ns es) (λ ps i. (i.0, pairs_as P Q f ps i.0 i.1, i.2)) m h

  -- each value in its number of steps, so all in one
  module _ (P : ℕ → Msg → V → Type 0) (up : (n : ℕ) (m : Msg) (v : V) → P n m v → P (suc n) m v) where
    pairs_in : (ps : Pairs) (es : List (K × V)) → ReadsPairs keys (InSteps P) ps es → (n : ℕ) × ReadsPairs keys (P n) ps es
    pairs_in no_pairs [] h = (zero, tt)
    pairs_in no_pairs (e ∷ es) h = absurd h
    pairs_in (pair k v ps) [] h = absurd h
    pairs_in (pair k v ps) (e ∷ es) h =
        let i = pairs_in ps es h.2 in
        let j = both_in (λ n. P n v e.1) (λ n. ReadsPairs keys (P n) ps es) (λ n. up n v e.1) (λ n. pairs_as (P n) (P (suc n)) (up n) ps es) h.1.0 h.1.1
        i.0 i.1 in
        (j.0, (h.0, j.1.0, j.1.1))

    pub map_in : (m : Msg) (es : List (K × V)) → ReadsEntries cmp keys (InSteps P) es m → (n : ℕ) × ReadsEntries cmp keys (P n) es m
    map_in m es h = of_map_in (λ ps. (ns : List (K × V)) × ReadsPairs keys (InSteps P) ps ns × Collects cmp ns es)
        (λ n ps. (ns : List (K × V)) × ReadsPairs keys (P n) ps ns × Collects cmp ns es)
        (λ ps i. let j = pairs_in ps i.0 i.1 in (j.0, (i.0, j.1, i.2))) m h

-- ---- values of entries

module _ {K X T : Type 0} (at : X → T) where
  abbrev valued : List (K × X) → List (K × T)
  valued es = common.map {B = K × T} (λ (e : K × X). (e.0, at e.1)) es

  pub entries_hold : (P : T → Type 0) → ((x : X) → P (at x)) → (es : List (K × X)) → All (λ (e : K × T). P e.1) (valued es)
  entries_hold P h [] = All-nil (λ (e : K × T). P e.1)
  entries_hold P h (e ∷ es) = All-cons (λ (e : K × T). P e.1) (e.0, at e.1) (valued es) (h e.1) (entries_hold P h es)

  keys_same : (es : List (K × X)) → keys_of es ≡ keys_of (valued es)
  keys_same [] = refl
  keys_same (e ∷ es) = ap (λ ks. e.0 ∷ ks) (keys_same es)

  each_through : (key : K → Type 0) (k : T → Type 0) (es : List (K × X)) → AllByRecursion (λ (e : K × X). key e.0 × k (at e.1)) es
      ≡ AllByRecursion (λ (e : K × T). key e.0 × k e.1) (valued es)
  each_through key k [] = refl
  each_through key k (e ∷ es) = ap (λ t. (key e.0 × k (at e.1)) × t) (each_through key k es)

  pub entries_through : (cmp : K → K → Ordering) (key : K → Type 0) (k : T → Type 0) (es : List (K × X)) → EntriesFit cmp key (λ x. k (at x)) es
      ≡ EntriesFit cmp key k (valued es)
  entries_through cmp key k es = λ i. each_through key k es i × IsStrictlySortedBy cmp (keys_same es i)

-- what follows for each value from what is known of it
pub entries_from : {K V : Type 0} (key : K → Type 0) (P Q : V → Type 0) (es : List (K × V)) → All (λ (e : K × V). P e.1 → Q e.1) es
    → AllByRecursion (λ (e : K × V). key e.0 × P e.1) es → All (λ (e : K × V). key e.0 × Q e.1) es
entries_from {K} {V} key P Q [] h fit = All-nil (λ (e : K × V). key e.0 × Q e.1)
entries_from {K} {V} key P Q (e ∷ es) h fit = All-cons (λ (e : K × V). key e.0 × Q e.1) e es
    (fit.0.0, All-head (λ (e : K × V). P e.1 → Q e.1) e es h fit.0.1)
    (entries_from key P Q es (All-tail (λ (e : K × V). P e.1 → Q e.1) e es h) fit.1)

-- entries of which each value is written so
pub turns_mapped : {K V : Type 0} (k : K → Option Data) (d : V → Option Data) (es : List (K × V))
    → in_turn k (λ x. x) (common.map {B = K × Option Data} (λ (e : K × V). (e.0, d e.1)) es) ≡ in_turn k d es
turns_mapped k d [] = refl
turns_mapped k d (e ∷ es) = ap (λ ds. k e.0 ∷ (d e.1 ∷ ds)) (turns_mapped k d es)
