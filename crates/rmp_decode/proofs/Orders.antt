-- What the insertion of keys in turn leaves.
use Rattle.std.proofs.Common.{◌≡◌, ◌∙◌, sym, ap, refl, Bool, true, false, cond, List, [], ◌∷◌, ◌++◌, Option, None, Some}
use Rattle.std.proofs.lemmas.List.{reverse-append}
use Rattle.std.proofs.lemmas.List.Folds.{find-append}
use Rattle.std.specs.BTreeMap.{insert_entry, is_at}
use Rattle.std.specs.BTreeSet.{insert_key}
use Rattle.std.specs.Cmp.{IsTotalOrder}
use Rattle.std.specs.List.{AllByRecursion, find}
use Rattle.std.specs.List.Sorted.{IsStrictlySortedBy}
use Rattle.std.specs.Map.{keys_of, lookup, lookup_key}
use Rattle.std.specs.Option.{option_or}
use Rattle.std.specs.Ordering.{is_eq, match_ordering, ordering_reverse}
use Rattle.std.specs.declared.alloc.Global.{Global}
use Rattle.std.specs.declared.cmp.Ordering.{Ordering}
use Rattle.std.specs.declared.collections.BTreeMap.{BTreeMap}
use Rattle.std.specs.declared.collections.BTreeSet.{BTreeSet}
use Rattle.std.specs.declared.cmp.Ordering.TheVariants.{Less, Equal, Greater}
use Rattle.rmp_wire.specs.Msg.{Msg, Msgs}
use Rattle.rmp_decode.specs.Maps.{Collects}
use Rattle.rmp_decode.specs.Rows.{ReadsEach}
use Rattle.rmp_decode.specs.Sets.{CollectsKeys}

-- the elements of a set, and the entries of a map, as they are collected
abbrev pub SetOf : {K : Type 0} → (K → K → Ordering) → (Msg → K → Type 0) → BTreeSet K Global → Msgs → Type 0
SetOf {K} cmp reads v ms = (ns : List K) × ReadsEach reads ms ns × CollectsKeys cmp ns v.keys

abbrev pub MapOf : {K V : Type 0} → (K → K → Ordering) → BTreeMap K V Global → List (K × V) → Type 0
MapOf cmp v ns = Collects cmp ns v.entries

or_none : {X : Type 0} (p : Option X) → option_or p None ≡ p
or_none None = refl
or_none (Some x) = refl

after_first : {X : Type 0} (b : Bool) (x : X) (f p z : Option X) → f ≡ option_or p z → cond b (Some x) f ≡ option_or (cond b (Some x) p) z
after_first true x f p z e = refl
after_first false x f p z e = e

reversed : (r : Ordering) → is_eq (ordering_reverse r) ≡ is_eq r
reversed Less = refl
reversed Equal = refl
reversed Greater = refl

module _ {K : Type 0} {cmp : K → K → Ordering} (o : IsTotalOrder cmp) where
  none_above : (q k : K) → cmp q k ≡ Equal → (ks : List K) → AllByRecursion (λ y. cmp k y ≡ Less) ks → find (is_at (cmp q)) ks ≡ None
  none_above q k e [] a = refl
  none_above q k e (y ∷ ks) a = ap (λ r. cond (is_eq r) (Some y) (find (is_at (cmp q)) ks)) (o.congr q k y e ∙ a.0) ∙ none_above q k e ks a.1

  above_all : (k x : K) → cmp k x ≡ Less → (ks : List K) → AllByRecursion (λ y. cmp x y ≡ Less) ks → AllByRecursion (λ y. cmp k y ≡ Less) ks
  above_all k x l [] a = tt
  above_all k x l (y ∷ ks) a = (o.trans k x y l a.0, above_all k x l ks a.1)

  place : (q k x : K) (xs : List K) (r t : Ordering) → cmp k x ≡ r → cmp q k ≡ t → AllByRecursion (λ y. cmp x y ≡ Less) xs
      → find (is_at (cmp q)) (insert_key cmp xs k) ≡ option_or (find (is_at (cmp q)) xs) (cond (is_eq t) (Some k) None)
      → find (is_at (cmp q)) (match_ordering r (k ∷ x ∷ xs) (x ∷ xs) (x ∷ insert_key cmp xs k)) ≡ option_or (find (is_at (cmp q)) (x ∷ xs))
      (cond (is_eq t) (Some k) None)
  place q k x xs Less Less h e a i = ap (λ r. cond (is_eq r) (Some k) (find (is_at (cmp q)) (x ∷ xs))) e ∙ sym (or_none (find (is_at (cmp q)) (x ∷ xs)))
  place q k x xs Less Equal h e a i =
      let n = none_above q k e (x ∷ xs) (h, above_all k x h xs a) in
      ap (λ r. cond (is_eq r) (Some k) (find (is_at (cmp q)) (x ∷ xs))) e ∙ sym (ap (λ f. option_or f (Some k)) n)
  place q k x xs Less Greater h e a i = ap (λ r. cond (is_eq r) (Some k) (find (is_at (cmp q)) (x ∷ xs))) e ∙ sym (or_none (find (is_at (cmp q)) (x ∷ xs)))
  place q k x xs Equal Less h e a i = sym (or_none (find (is_at (cmp q)) (x ∷ xs)))
  place q k x xs Equal Equal h e a i =
      let f = ap (λ r. cond (is_eq r) (Some x) (find (is_at (cmp q)) xs)) (o.congr q k x e ∙ h) in
      f ∙ sym (ap (λ z. option_or z (Some k)) f)
  place q k x xs Equal Greater h e a i = sym (or_none (find (is_at (cmp q)) (x ∷ xs)))
  place q k x xs Greater t h e a i = after_first (is_eq (cmp q x)) x (find (is_at (cmp q)) (insert_key cmp xs k)) (find (is_at (cmp q)) xs)
      (cond (is_eq t) (Some k) None) i

  -- an equal key stays, and a new one is found
  find_insert : (q k : K) (ks : List K) → IsStrictlySortedBy cmp ks
      → find (is_at (cmp q)) (insert_key cmp ks k) ≡ option_or (find (is_at (cmp q)) ks) (cond (is_eq (cmp q k)) (Some k) None)
  unfolding IsStrictlySortedBy
  find_insert q k [] s = refl
  find_insert q k (x ∷ xs) s = place q k x xs (cmp k x) (cmp q k) refl refl s.0 (find_insert q k xs s.1)

  -- one element more
  pub keys_more : (ns ks ls : List K) (k : K) → CollectsKeys cmp ns ks → ls ≡ insert_key cmp ks k → IsStrictlySortedBy cmp ls
      → CollectsKeys cmp (ns ++ k ∷ []) ls
  keys_more ns ks ls k c e s = record {
    ordered = s;
    first = λ q. ap (find (is_at (cmp q))) e ∙ find_insert q k ks c.ordered ∙ ap (λ z. option_or z (cond (is_eq (cmp q k)) (Some k) None)) (c.first q)
        ∙ sym (find-append (is_at (cmp q)) ns (k ∷ []));
  }

  module _ {V : Type 0} where
    find_keys : (p : K → Bool) (es : List (K × V)) → lookup_key p es ≡ find p (keys_of es)
    find_keys p [] = refl
    find_keys p (e ∷ es) = ap (λ z. cond (p e.0) (Some e.0) z) (find_keys p es)

    keys_placed : (k : K) (v : V) (e : K × V) (es fs : List (K × V)) (r : Ordering)
        → keys_of (match_ordering r ((k, v) ∷ e ∷ es) ((e.0, v) ∷ es) (e ∷ fs)) ≡ match_ordering r (k ∷ e.0 ∷ keys_of es) (e.0 ∷ keys_of es)
        (e.0 ∷ keys_of fs)
    keys_placed k v e es fs Less = refl
    keys_placed k v e es fs Equal = refl
    keys_placed k v e es fs Greater = refl

    keys_inserted : (k : K) (v : V) (es : List (K × V)) → keys_of (insert_entry cmp es k v) ≡ insert_key cmp (keys_of es) k
    keys_inserted k v [] = refl
    keys_inserted k v (e ∷ es) = keys_placed k v e es (insert_entry cmp es k v) (cmp k e.0)
        ∙ ap (λ z. match_ordering (cmp k e.0) (k ∷ e.0 ∷ keys_of es) (e.0 ∷ keys_of es) (e.0 ∷ z)) (keys_inserted k v es)

    keys_appended : (ns ms : List (K × V)) → keys_of (ns ++ ms) ≡ keys_of ns ++ keys_of ms
    keys_appended [] ms = refl
    keys_appended (n ∷ ns) ms = ap (λ z. n.0 ∷ z) (keys_appended ns ms)

    pub entries_none : (es : List (K × V)) → es ≡ [] → Collects cmp [] es
    unfolding IsStrictlySortedBy
    entries_none es e = rw e (record { ordered = tt; first = λ q. refl; last = λ q. refl })

    -- one pair more
    pub entries_more : (ns es fs : List (K × V)) (k : K) (v : V) → Collects cmp ns es → fs ≡ insert_entry cmp es k v → IsStrictlySortedBy cmp (keys_of fs)
        → ((q : K) → lookup (is_at (cmp q)) fs ≡ cond (is_eq (cmp k q)) (Some v) (lookup (is_at (cmp q)) es))
        → Collects cmp (ns ++ (k, v) ∷ []) fs
    entries_more ns es fs k v c e s u = record {
      ordered = s;
      first = λ q.
          find_keys (is_at (cmp q)) fs ∙ ap (λ z. find (is_at (cmp q)) (keys_of z)) e ∙ ap (find (is_at (cmp q))) (keys_inserted k v es)
          ∙ find_insert q k (keys_of es) c.ordered
          ∙ ap (λ z. option_or z (cond (is_eq (cmp q k)) (Some k) None)) (sym (find_keys (is_at (cmp q)) es) ∙ c.first q ∙ find_keys (is_at (cmp q)) ns)
          ∙ sym (find-append (is_at (cmp q)) (keys_of ns) (k ∷ []))
          ∙ ap (find (is_at (cmp q))) (sym (keys_appended ns ((k, v) ∷ []))) ∙ sym (find_keys (is_at (cmp q)) (ns ++ (k, v) ∷ []));
      last = λ q.
          u q ∙ ap (λ b. cond b (Some v) (lookup (is_at (cmp q)) es)) (sym (ap is_eq (o.antisymm q k) ∙ reversed (cmp k q)))
          ∙ ap (λ z. cond (is_eq (cmp q k)) (Some v) z) (c.last q) ∙ ap (lookup (is_at (cmp q))) (sym (reverse-append ns ((k, v) ∷ [])));
    }
