-- What lists, tuples and options lower to is read as nothing else, where that holds of their parts.
use Rattle.std.proofs.Common.{ℕ, List, [], ◌∷◌, Option, None, Some}
use Rattle.std.specs.Prelude.{IsSomeAnd}
use Rattle.rmp_wire.specs.Msg.{Msg, Msgs, no_items, item, nil, truth, whole, float32, float64, text, bin, list, map, extension}
use Rattle.rmp_encode.specs.Data.{Data}
use Rattle.rmp_encode.specs.Trees.{tree_of}
use Rattle.rmp_encode.specs.declared.settings.Settings.{Settings}
use Rattle.rmp_decode.specs.Arrays.{Exactly}
use Rattle.rmp_decode.specs.Options.{IsOption}
use Rattle.rmp_decode.specs.Rows.{ReadsEach, NoMore, AndThen}
use Rattle.rmp_decode.specs.Seq.{OfRow}
use Rattle.rmp_round_trip.specs.RoundTrip.{LowersTo, Only, Alike, AlikeOption}

some_then : (o : Option Msg) (P Q : Msg → Type 0) → IsSomeAnd o P → ((m : Msg) → P m → Q m) → IsSomeAnd o Q
some_then None P Q h f = absurd h
some_then (Some m) P Q h f = f m h

-- what follows of the tree
pub lowers_then : (s : Settings) (d : Option Data) (P Q : Msg → Type 0) → LowersTo s d P → ((m : Msg) → P m → Q m) → LowersTo s d Q
lowers_then s d P Q h f = some_then (tree_of s d) P Q h f

-- ---- two facts of the same items

pub row_both : (Q S : Msgs → Type 0) (X : Type 0) (m : Msg) → OfRow Q m → OfRow S m → ((ms : Msgs) → Q ms → S ms → X) → X
row_both Q S X nil q r f = absurd q
row_both Q S X (truth t) q r f = absurd q
row_both Q S X (whole z) q r f = absurd q
row_both Q S X (float32 n) q r f = absurd q
row_both Q S X (float64 n) q r f = absurd q
row_both Q S X (text t) q r f = absurd q
row_both Q S X (bin t) q r f = f _ q r
row_both Q S X (list ms) q r f = f ms q r
row_both Q S X (map ps) q r f = absurd q
row_both Q S X (extension tag t) q r f = absurd q

module _ {V : Type 0} (reads : Msg → V → Type 0) (same : V → V → Type 0) (v w : V) where
  -- an item, and then the others
  pub item_only : (Q S : Msgs → Type 0) (X : Type 0) → ((ms : Msgs) → Q ms → S ms → X) → (ms : Msgs) → AndThen (λ m. Only reads same m v) Q ms
      → AndThen (λ m. reads m w) S ms → same v w × X
  item_only Q S X f no_items q r = absurd q
  item_only Q S X f (item m ms) q r = (q.0 w r.0, f ms q.1 r.1)

  -- the last item
  pub last_only : (ms : Msgs) → AndThen (λ m. Only reads same m v) NoMore ms → AndThen (λ m. reads m w) NoMore ms → same v w
  last_only no_items q r = absurd q
  last_only (item m ms) q r = q.0 w r.0

-- what holds a value, and is read as it
pub inside_only : (s : Settings) (d : Option Data) {V W : Type 0} (f : W → V) (reads : Msg → V → Type 0) (same : V → V → Type 0) (v : V)
    → LowersTo s d (λ m. Only reads same m v) → LowersTo s d (λ m. (w : W) → reads m (f w) → same v (f w))
inside_only s d {V} {W} f reads same v h =
    lowers_then s d (λ m. Only reads same m v) (λ m. (w : W) → reads m (f w) → same v (f w)) h (λ m q w r. q (f w) r)

-- ---- lists

pub each_only : {V : Type 0} (reads : Msg → V → Type 0) (same : V → V → Type 0) (ms : Msgs) (vs ws : List V)
    → ReadsEach (Only reads same) ms vs → ReadsEach reads ms ws → Alike same vs ws
each_only reads same no_items [] [] q r = tt
each_only reads same no_items [] (w ∷ ws) q r = absurd r
each_only reads same no_items (v ∷ vs) ws q r = absurd q
each_only reads same (item m ms) [] ws q r = absurd q
each_only reads same (item m ms) (v ∷ vs) [] q r = absurd r
each_only reads same (item m ms) (v ∷ vs) (w ∷ ws) q r = (q.0 w r.0, each_only reads same ms vs ws q.1 r.1)

module _ (s : Settings) (d : Option Data) {V W : Type 0} (items : W → List V) (reads : Msg → V → Type 0) (same : V → V → Type 0) (vs : List V) where
  -- a type that is a list of its items
  pub list_only : LowersTo s d (OfRow (λ ms. ReadsEach (Only reads same) ms vs))
      → LowersTo s d (λ m. (w : W) → OfRow (λ ms. ReadsEach reads ms (items w)) m → Alike same vs (items w))
  list_only h = lowers_then s d (OfRow (λ ms. ReadsEach (Only reads same) ms vs))
      (λ m. (w : W) → OfRow (λ ms. ReadsEach reads ms (items w)) m → Alike same vs (items w))
      h (λ m q w r. row_both (λ ms. ReadsEach (Only reads same) ms vs) (λ ms. ReadsEach reads ms (items w)) (Alike same vs (items w)) m q r
      (λ ms a b. each_only reads same ms vs (items w) a b))

-- an array of n
pub array_only : (s : Settings) (d : Option Data) {V : Type 0} (n : ℕ) (reads : Msg → V → Type 0) (same : V → V → Type 0) (vs : List V)
    → LowersTo s d (OfRow (λ ms. ReadsEach (Only reads same) ms vs)) → LowersTo s d (λ m. (ws : List V) → OfRow (Exactly n reads ws) m → Alike same vs ws)
array_only s d {V} n reads same vs h = lowers_then s d (OfRow (λ ms. ReadsEach (Only reads same) ms vs))
    (λ m. (ws : List V) → OfRow (Exactly n reads ws) m → Alike same vs ws)
    h (λ m q ws r. row_both (λ ms. ReadsEach (Only reads same) ms vs) (Exactly n reads ws) (Alike same vs ws) m q r
    (λ ms a b. each_only reads same ms vs ws a b.1))

-- ---- options

option_both : {V : Type 0} (reads : Msg → V → Type 0) (same : V → V → Type 0) (v w : Option V) (m : Msg)
    → IsOption (Only reads same) m v → IsOption reads m w → AlikeOption same v w
option_both reads same None None m q r = tt
option_both reads same None (Some w) m q r = absurd (r.0 q)
option_both reads same (Some v) None m q r = absurd (q.0 r)
option_both reads same (Some v) (Some w) m q r = q.1 w r.1

pub option_only : (s : Settings) (d : Option Data) {V : Type 0} (reads : Msg → V → Type 0) (same : V → V → Type 0) (v : Option V)
    → LowersTo s d (λ m. IsOption (Only reads same) m v) → LowersTo s d (λ m. (w : Option V) → IsOption reads m w → AlikeOption same v w)
option_only s d {V} reads same v h = lowers_then s d (λ m. IsOption (Only reads same) m v) (λ m. (w : Option V) → IsOption reads m w → AlikeOption same v w)
    h (λ m q w r. option_both reads same v w m q r)
