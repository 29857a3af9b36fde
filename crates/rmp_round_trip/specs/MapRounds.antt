-- What sets and maps lower to is read as those sets and maps.
use Rattle.std.proofs.Common.{◌≡◌, List, [], ◌∷◌, ◌++◌, Bool, true, false, Option, None, Some, refl, sym, ◌∙◌, ap, subst, map, All, cond}
use Rattle.std.specs.Prelude.{◌≢◌, IsSome, reverse}
use Rattle.std.specs.BTreeMap.{is_at}
use Rattle.std.specs.Cmp.{IsTotalOrder}
use Rattle.std.specs.List.{AllByRecursion}
use Rattle.std.specs.List.Sorted.{IsStrictlySortedBy}
use Rattle.std.specs.Map.{keys_of, lookup}
use Rattle.std.specs.Option.{option_map, option_or}
use Rattle.std.specs.Ordering.{is_eq}
use Rattle.std.specs.declared.cmp.Ordering.{Ordering}
use Rattle.std.specs.declared.cmp.Ordering.TheVariants.{Less, Equal, Greater}
use Rattle.std.proofs.lemmas.List.{reverse-append}
use Rattle.std.proofs.lemmas.List.Elements.{All-head, All-tail}
use Rattle.rmp_wire.specs.Msg as msg
use Rattle.rmp_wire.specs.Msg.{Msg, Msgs, Pairs}
use Rattle.rmp_encode.specs.Data.{Data, mapping, Entries, no_entries, entry, lower, lower_entries}
use Rattle.rmp_encode.specs.Trees.{tree_of, entries_of, in_turn, mapping_of, sequence_of}
use Rattle.rmp_encode.specs.declared.settings.Settings.{Settings}
use Rattle.rmp_decode.specs.Maps.{Collects, OfMap, ReadsEntries, ReadsPairs}
use Rattle.rmp_decode.specs.Rows.{ReadsEach}
use Rattle.rmp_decode.specs.Sets.{CollectsKeys, ReadsKeys}
use Rattle.rmp_round_trip.specs.RoundTrip.{LowersTo}
use Rattle.rmp_round_trip.specs.Rounds.{each_row, mapped_some, rows_map, sequence_row}

none_is : false ≡ true → ⊥
none_is h = cc

entry_some : (k v : Option Data) (ds : List (Option Data)) → IsSome k → IsSome v → IsSome (entries_of ds) → IsSome (entries_of (k ∷ v ∷ ds))
entry_some None v ds h i hs = absurd (none_is h)
entry_some (Some k) None ds h i hs = absurd (none_is i)
entry_some (Some k) (Some v) ds h i hs = mapped_some (entry k v) (entries_of ds) hs

turns_some : {K V : Type 0} (k : K → Option Data) (v : V → Option Data) → ((x : K) → IsSome (k x)) → ((x : V) → IsSome (v x)) → (es : List (K × V))
    → IsSome (entries_of (in_turn k v es))
turns_some k v hk hv [] = refl
turns_some k v hk hv (e ∷ es) = entry_some (k e.0) (v e.1) (in_turn k v es) (hk e.0) (hv e.1) (turns_some k v hk hv es)

pub mapping_some : {K V : Type 0} (k : K → Option Data) (v : V → Option Data) → ((x : K) → IsSome (k x)) → ((x : V) → IsSome (v x)) → (es : List (K × V))
    → IsSome (mapping_of (in_turn k v es))
unfolding mapping_of
mapping_some k v hk hv es = mapped_some mapping (entries_of (in_turn k v es)) (turns_some k v hk hv es)

-- ---- keys and entries that are in order are those that they make

same_keys : {K : Type 0} (cmp : K → K → Ordering) (ks : List K) → IsStrictlySortedBy cmp ks → CollectsKeys cmp ks ks
same_keys cmp ks h = record { ordered = h; first = λ q. refl }

module _ {K V : Type 0} {cmp : K → K → Ordering} (o : IsTotalOrder cmp) where
  none_above : (q k : K) → cmp q k ≡ Equal → (es : List (K × V)) → AllByRecursion (λ y. cmp k y ≡ Less) (keys_of es) → lookup (is_at (cmp q)) es ≡ None
  none_above q k e [] a = refl
  none_above q k e (f ∷ es) a = ap (λ r. cond (is_eq r) (Some f.1) (lookup (is_at (cmp q)) es)) (o.congr q k f.0 e ∙ a.0) ∙ none_above q k e es a.1

  lookup_after : (p : K → Bool) (es : List (K × V)) (k : K) (v : V) → lookup p (es ++ (k, v) ∷ []) ≡ option_or (lookup p es) (cond (p k) (Some v) None)
  lookup_after p [] k v = refl
  lookup_after p (e ∷ es) k v = found (p e.0) e.1 (lookup p (es ++ (k, v) ∷ [])) (lookup p es) (cond (p k) (Some v) None) (lookup_after p es k v)
    where
      found : (b : Bool) (x : V) (f g z : Option V) → f ≡ option_or g z → cond b (Some x) f ≡ option_or (cond b (Some x) g) z
      found true x f g z e = refl
      found false x f g z e = e

  or_none : (g : Option V) → g ≡ option_or g None
  or_none None = refl
  or_none (Some x) = refl

  first_or_last : (q k : K) (v : V) (es : List (K × V)) (r : Ordering) → cmp q k ≡ r → AllByRecursion (λ y. cmp k y ≡ Less) (keys_of es)
      → cond (is_eq r) (Some v) (lookup (is_at (cmp q)) es) ≡ option_or (lookup (is_at (cmp q)) es) (cond (is_eq r) (Some v) None)
  first_or_last q k v es Less e a = or_none _
  first_or_last q k v es Equal e a = sym (ap (λ f. option_or f (Some v)) (none_above q k e es a))
  first_or_last q k v es Greater e a = or_none _

  -- of keys in order each is found from the end too
  from_after : (q : K) (es : List (K × V)) → IsStrictlySortedBy cmp (keys_of es) → lookup (is_at (cmp q)) es ≡ lookup (is_at (cmp q)) (reverse es)
  unfolding IsStrictlySortedBy
  from_after q [] h = refl
  from_after q (e ∷ es) h =
      first_or_last q e.0 e.1 es (cmp q e.0) refl h.0
      ∙ ap (λ f. option_or f (cond (is_eq (cmp q e.0)) (Some e.1) None)) (from_after q es h.1)
      ∙ sym (ap (lookup (is_at (cmp q))) (reverse-append (e ∷ []) es) ∙ lookup_after (is_at (cmp q)) (reverse es) e.0 e.1)

  pub same_entries : (es : List (K × V)) → IsStrictlySortedBy cmp (keys_of es) → Collects cmp es es
  same_entries es h = record { ordered = h; first = λ q. refl; last = λ q. from_after q es h }

module _ (s : Settings) where
  pub set_row : {K : Type 0} (k : K → Option Data) (is_key : K → Type 0) (keys : Msg → K → Type 0)
      → ((x : K) → is_key x → LowersTo s (k x) (λ m. keys m x)) → (cmp : K → K → Ordering) (ks : List K) → IsStrictlySortedBy cmp ks → All is_key ks
      → LowersTo s (sequence_of (map k ks)) (λ m. ReadsKeys cmp keys ks m)
  set_row {K} k is_key keys h cmp ks o a =
      sequence_row s (map k ks) (λ ms. (ns : List K) × ReadsEach keys ms ns × CollectsKeys cmp ns ks)
      (rows_map s (map k ks) (λ ms. ReadsEach keys ms ks) (λ ms. (ns : List K) × ReadsEach keys ms ns × CollectsKeys cmp ns ks)
      (λ ms each. (ks, each, same_keys cmp ks o)) (each_row s k is_key keys h ks a))

  -- the keys and values aren't refused, and Q holds of the pairs that they lower to
  record Turns (ds : List (Option Data)) (Q : Pairs → Type 0) : Type 0 where
    pub entries : Entries
    pub is : entries_of ds ≡ Some entries
    pub holds : Q (lower_entries s entries)

  turns_cons : {K V : Type 0} (keys : Msg → K → Type 0) (values : Msg → V → Type 0) (e : K × V) (es : List (K × V)) (k v : Option Data)
      (ds : List (Option Data)) → LowersTo s k (λ m. keys m e.0) → LowersTo s v (λ m. values m e.1) → Turns ds (λ ps. ReadsPairs keys values ps es)
      → Turns (k ∷ v ∷ ds) (λ ps. ReadsPairs keys values ps (e ∷ es))
  unfolding lower_entries
  turns_cons keys values e es None v ds h i r = absurd h
  turns_cons keys values e es (Some k) None ds h i r = absurd i
  turns_cons keys values e es (Some k) (Some v) ds h i r =
      record { entries = entry k v r.entries; is = ap (option_map (entry k v)) r.is; holds = (h, i, r.holds) }

  module _ {K V : Type 0} (k : K → Option Data) (v : V → Option Data) (is_key : K → Type 0) (is_value : V → Type 0) (keys : Msg → K → Type 0)
      (values : Msg → V → Type 0) (hk : (x : K) → is_key x → LowersTo s (k x) (λ m. keys m x))
      (hv : (x : V) → is_value x → LowersTo s (v x) (λ m. values m x)) where
    turns : (es : List (K × V)) → All (λ e. is_key e.0 × is_value e.1) es → Turns (in_turn k v es) (λ ps. ReadsPairs keys values ps es)
    unfolding lower_entries
    turns [] a = record { entries = no_entries; is = refl; holds = tt }
    turns (e ∷ es) a =
        let h = All-head (λ e. is_key e.0 × is_value e.1) e es a in
        turns_cons keys values e es (k e.0) (v e.1) (in_turn k v es) (hk e.0 h.0) (hv e.1 h.1)
        (turns es (All-tail (λ e. is_key e.0 × is_value e.1) e es a))

    pub pairs_row : (es : List (K × V)) → All (λ e. is_key e.0 × is_value e.1) es
        → LowersTo s (mapping_of (in_turn k v es)) (OfMap (λ ps. ReadsPairs keys values ps es))
    unfolding lower mapping_of
    pairs_row es a =
        let t = turns es a in subst (λ z. LowersTo s (option_map mapping z) (OfMap (λ ps. ReadsPairs keys values ps es))) (sym t.is) t.holds

    pub map_row : {cmp : K → K → Ordering} → IsTotalOrder cmp → (es : List (K × V)) → IsStrictlySortedBy cmp (keys_of es)
        → All (λ e. is_key e.0 × is_value e.1) es → LowersTo s (mapping_of (in_turn k v es)) (λ m. ReadsEntries cmp keys values es m)
    unfolding lower mapping_of
    map_row {cmp} o es h a =
        let t = turns es a in
        subst (λ z. LowersTo s (option_map mapping z) (λ m. ReadsEntries cmp keys values es m)) (sym t.is) (es, t.holds, same_entries o es h)

  map_under : (o : Option Entries) → tree_of s (option_map mapping o) ≢ Some msg.nil
  unfolding lower
  map_under None e = cc
  map_under (Some es) e = cc

  pub map_other : (ds : List (Option Data)) → tree_of s (mapping_of ds) ≢ Some msg.nil
  unfolding mapping_of
  map_other ds = map_under (entries_of ds)
