-- What recursive types share that hold themselves in maps, and are read as they were written.
use Rattle.std.proofs.Common.{◌≡◌, ◌∙◌, refl, sym, ap, Bool, true, false, List, [], ◌∷◌, All, Option, None, Some}
use Rattle.std.proofs.lemmas.List.Elements.{All-head, All-tail}
use Rattle.std.proofs.lemmas.Map.{lookup-none}
use Rattle.std.proofs.lemmas.Map.Entries.{lookup_head, lookup_tail, none_past_head, none_below_head}
use Rattle.std.proofs.lemmas.Map.Keys.{sorted_tail, IsDistinct-from_sorted}
use Rattle.std.specs.BTreeMap.{is_at}
use Rattle.std.specs.Cmp.{IsTotalOrder, eq_by_cmp_equiv, tied_itself}
use Rattle.std.specs.List.{AllByRecursion}
use Rattle.std.specs.List.Sorted.{IsStrictlySortedBy}
use Rattle.std.specs.Map.{keys_of, lookup}
use Rattle.std.specs.Option.{unwrap_or}
use Rattle.std.specs.Ordering.{bool_cmp, eq_by_cmp, is_eq, ordering_reverse}
use Rattle.std.specs.Prelude.{IsSome}
use Rattle.std.specs.declared.cmp.Ordering.{Ordering}
use Rattle.std.specs.declared.cmp.Ordering.TheVariants.{Less, Equal, Greater}
use Rattle.rmp_encode.specs.Data.{Data, mapping, entry}
use Rattle.rmp_encode.specs.Trees.{entries_of, in_turn, mapping_of}
use Rattle.rmp_round_trip.specs.MapRounds.{same_entries}
use Rattle.rmp_round_trip.specs.RoundTrip.{AlikeEntries, AlikePairs}
use Rattle.rmp_round_trip.specs.Rounds.{mapped_some}

-- ---- no map is refused

entry_some : (k v : Option Data) (ds : List (Option Data)) → IsSome k → IsSome v → IsSome (entries_of ds) → IsSome (entries_of (k ∷ v ∷ ds))
entry_some None v ds h i hs = absurd (let e : false ≡ true = h in cc)
entry_some (Some k) None ds h i hs = absurd (let e : false ≡ true = i in cc)
entry_some (Some k) (Some v) ds h i hs = mapped_some (entry k v) (entries_of ds) hs

turns_data : {K V : Type 0} (k : K → Option Data) (d : V → Option Data) → ((q : K) → IsSome (k q)) → (es : List (K × V))
    → All (λ (e : K × V). IsSome (d e.1)) es → IsSome (entries_of (in_turn k d es))
turns_data k d hk [] h = refl
turns_data {K} {V} k d hk (e ∷ es) h = entry_some (k e.0) (d e.1) (in_turn k d es) (hk e.0) (All-head (λ (e : K × V). IsSome (d e.1)) e es h)
    (turns_data k d hk es (All-tail (λ (e : K × V). IsSome (d e.1)) e es h))

pub mapping_data : {K V : Type 0} (k : K → Option Data) (d : V → Option Data) → ((q : K) → IsSome (k q)) → (es : List (K × V))
    → All (λ (e : K × V). IsSome (d e.1)) es → IsSome (mapping_of (in_turn k d es))
unfolding mapping_of
mapping_data k d hk es h = mapped_some mapping (entries_of (in_turn k d es)) (turns_data k d hk es h)

-- ---- keys in order: equal look-ups give entries that are written alike

some_or_none : {X : Type 0} (x : X) (a b : Option X) → a ≡ Some x → a ≡ b → b ≡ None → ⊥
some_or_none x a b p q r = cc

module _ {K V : Type 0} {cmp : K → K → Ordering} (o : IsTotalOrder cmp) where
  abbrev found : List (K × V) → K → Option V
  found es q = lookup (is_at (cmp q)) es

  at_head : (x : K × V) (xs : List (K × V)) → found (x ∷ xs) x.0 ≡ Some x.1
  at_head x xs = lookup_head (is_at (cmp x.0)) x xs (ap is_eq (tied_itself o x.0))

  past_head : (q : K) (x : K × V) (xs : List (K × V)) → IsStrictlySortedBy cmp (keys_of (x ∷ xs)) → eq_by_cmp cmp q x.0 ≡ true → found xs q ≡ None
  past_head q x xs s t = lookup-none (is_at (cmp q)) xs (none_past_head (eq_by_cmp_equiv o) q x xs (IsDistinct-from_sorted cmp _ s) t)

  module _ (x y : K × V) (xs ys : List (K × V)) (s : IsStrictlySortedBy cmp (keys_of (x ∷ xs))) (t : IsStrictlySortedBy cmp (keys_of (y ∷ ys)))
      (h : (q : K) → found (x ∷ xs) q ≡ found (y ∷ ys) q) where
    by_heads : (r : Ordering) → cmp x.0 y.0 ≡ r → cmp x.0 y.0 ≡ Equal
    by_heads Less p = absurd (some_or_none x.1 _ _ (at_head x xs) (h x.0) (lookup-none _ (y ∷ ys) (none_below_head o x.0 y ys t p)))
    by_heads Equal p = p
    by_heads Greater p = absurd (some_or_none y.1 _ _ (at_head y ys) (sym (h y.0))
        (lookup-none _ (x ∷ xs) (none_below_head o y.0 x xs s (o.antisymm y.0 x.0 ∙ ap ordering_reverse p))))

    heads : cmp x.0 y.0 ≡ Equal
    heads = by_heads (cmp x.0 y.0) refl

    values : x.1 ≡ y.1
    values = ap (λ u. unwrap_or u x.1) (sym (at_head x xs) ∙ h x.0 ∙ lookup_head (is_at (cmp x.0)) y ys (ap is_eq heads))

    tails : (q : K) → found xs q ≡ found ys q
    tails q = go (eq_by_cmp cmp q x.0) refl
      where
        same : eq_by_cmp cmp q y.0 ≡ eq_by_cmp cmp q x.0
        same = let e = eq_by_cmp_equiv o in e.symm q y.0 ∙ sym (e.congr x.0 y.0 q (ap is_eq heads)) ∙ e.symm x.0 q

        go : (b : Bool) → eq_by_cmp cmp q x.0 ≡ b → found xs q ≡ found ys q
        go true b = past_head q x xs s b ∙ sym (past_head q y ys t (same ∙ b))
        go false b = sym (lookup_tail (is_at (cmp q)) x xs b) ∙ h q ∙ lookup_tail (is_at (cmp q)) y ys (same ∙ b)

  turns_found : (k : K → Option Data) (d : V → Option Data) → ((q r : K) → cmp q r ≡ Equal → k q ≡ k r) → (es fs : List (K × V))
      → IsStrictlySortedBy cmp (keys_of es) → IsStrictlySortedBy cmp (keys_of fs) → ((q : K) → found es q ≡ found fs q) → in_turn k d es ≡ in_turn k d fs
  turns_found k d same [] [] s t h = refl
  turns_found k d same [] (y ∷ ys) s t h = absurd (some_or_none y.1 _ _ (at_head y ys) (sym (h y.0)) refl)
  turns_found k d same (x ∷ xs) [] s t h = absurd (some_or_none x.1 _ _ (at_head x xs) (h x.0) refl)
  turns_found k d same (x ∷ xs) (y ∷ ys) s t h =
      let r = turns_found k d same xs ys (sorted_tail cmp x.0 (keys_of xs) s) (sorted_tail cmp y.0 (keys_of ys) t) (tails x y xs ys s t h) in
      λ i. same x.0 y.0 (heads x y xs ys s t h) i ∷ (d (values x y xs ys s t h i) ∷ r i)

pub exact_truth : (a b : Bool) → bool_cmp a b ≡ Equal → a ≡ b
exact_truth true true e = refl
exact_truth true false e = absurd (let f : Greater ≡ Equal = e in cc)
exact_truth false true e = absurd (let f : Less ≡ Equal = e in cc)
exact_truth false false e = refl

-- ---- maps of the same content are written alike: their keys are told apart by what f says of them, in this order

module _ {K V B : Type 0} (f : K → B) (order : B → B → Ordering) (o : IsTotalOrder (λ (q r : K). order (f q) (f r)))
    (exact : (a b : B) → order a b ≡ Equal → a ≡ b) (k : B → Option Data) (d : V → Option Data) where
  abbrev cmp : K → K → Ordering
  cmp q r = order (f q) (f r)

  abbrev AlikeValues : List (K × V) → List (K × V) → Type 0
  AlikeValues es fs = AlikePairs (λ (q r : K). f q ≡ f r) (λ (v w : V). d v ≡ d w) es fs

  turns_alike : (es fs : List (K × V)) → AlikeValues es fs → in_turn (λ q. k (f q)) d es ≡ in_turn (λ q. k (f q)) d fs
  turns_alike [] [] h = refl
  turns_alike [] (y ∷ ys) h = absurd h
  turns_alike (x ∷ xs) [] h = absurd h
  turns_alike (x ∷ xs) (y ∷ ys) h = λ i. k (h.0.0 i) ∷ (h.0.1 i ∷ turns_alike xs ys h.1 i)

  above : (q r : K) → f q ≡ f r → (es fs : List (K × V)) → AlikeValues es fs → AllByRecursion (λ y. cmp q y ≡ Less) (keys_of es)
      → AllByRecursion (λ y. cmp r y ≡ Less) (keys_of fs)
  above q r e [] [] h a = tt
  above q r e [] (y ∷ ys) h a = absurd h
  above q r e (x ∷ xs) [] h a = absurd h
  above q r e (x ∷ xs) (y ∷ ys) h a = (sym (λ i. order (e i) (h.0.0 i)) ∙ a.0, above q r e xs ys h.1 a.1)

  sorted_alike : (es fs : List (K × V)) → AlikeValues es fs → IsStrictlySortedBy cmp (keys_of es) → IsStrictlySortedBy cmp (keys_of fs)
  unfolding IsStrictlySortedBy
  sorted_alike [] [] h s = tt
  sorted_alike [] (y ∷ ys) h s = absurd h
  sorted_alike (x ∷ xs) [] h s = absurd h
  sorted_alike (x ∷ xs) (y ∷ ys) h s = (above x.0 y.0 h.0.0 xs ys h.1 s.0, sorted_alike xs ys h.1 s.1)

  pub maps_alike : (es fs : List (K × V)) → IsStrictlySortedBy cmp (keys_of es)
      → AlikeEntries cmp (λ (q r : K). f q ≡ f r) (λ (v w : V). d v ≡ d w) es fs → in_turn (λ q. k (f q)) d es ≡ in_turn (λ q. k (f q)) d fs
  maps_alike es fs s (ns, h, c) =
      let t = sorted_alike es ns h s in
      turns_alike es ns h ∙ turns_found o (λ q. k (f q)) d (λ q r e. ap k (exact (f q) (f r) e)) ns fs t c.ordered
      (λ q. (same_entries o ns t).last q ∙ sym (c.last q))
