-- Values of the same content are equal in the order of their type, and what makes sets and maps of keys of that content.
use Rattle.std.proofs.Common.{◌≡◌, ◌∙◌, refl, sym, ap, subst, List, [], ◌∷◌, Option, None, Some, cond}
use Rattle.std.specs.BTreeMap.{is_at}
use Rattle.std.specs.Cmp.{IsTotalOrder, alike_right, tied_itself}
use Rattle.std.specs.Cmp.Lexicographic.{slice_cmp}
use Rattle.std.specs.List.{AllByRecursion, find}
use Rattle.std.specs.List.Sorted.{IsStrictlySortedBy}
use Rattle.std.specs.Map.{keys_of, lookup, lookup_key}
use Rattle.std.specs.Option.{option_cmp, unwrap_or}
use Rattle.std.specs.Ordering.{is_eq, ordering_reverse, ordering_then}
use Rattle.std.specs.declared.cmp.Ordering.{Ordering}
use Rattle.std.specs.declared.cmp.Ordering.TheVariants.{Less, Equal, Greater}
use Rattle.rmp_round_trip.specs.MapRounds.{same_entries}
use Rattle.rmp_round_trip.specs.RoundTrip.{Alike, AlikeEntries, AlikeKeys, AlikeOption, AlikePairs}

-- ---- equal in an order

pub tied : {B : Type 0} (cmp : B → B → Ordering) → IsTotalOrder cmp → (a b : B) → a ≡ b → cmp a b ≡ Equal
tied cmp o a b e = ap (cmp a) (sym e) ∙ tied_itself o a

pub then_tied : (a b : Ordering) → a ≡ Equal → b ≡ Equal → ordering_then a b ≡ Equal
then_tied a b p q = ap (λ r. ordering_then r b) p ∙ q

module _ {V : Type 0} (same : V → V → Type 0) (cmp : V → V → Ordering) (equal : (v w : V) → same v w → cmp v w ≡ Equal) where
  pub row_tied : (vs ws : List V) → Alike same vs ws → slice_cmp cmp vs ws ≡ Equal
  row_tied [] [] a = refl
  row_tied [] (w ∷ ws) a = absurd a
  row_tied (v ∷ vs) [] a = absurd a
  row_tied (v ∷ vs) (w ∷ ws) a = then_tied (cmp v w) (slice_cmp cmp vs ws) (equal v w a.0) (row_tied vs ws a.1)

  pub option_tied : (v w : Option V) → AlikeOption same v w → option_cmp cmp v w ≡ Equal
  option_tied None None a = refl
  option_tied None (Some w) a = absurd a
  option_tied (Some v) None a = absurd a
  option_tied (Some v) (Some w) a = equal v w a

pub pairs_tied : {K V : Type 0} (keys : K → K → Type 0) (values : V → V → Type 0) (cmp : K → K → Ordering) (order : V → V → Ordering)
    → ((a b : K) → keys a b → cmp a b ≡ Equal) → ((v w : V) → values v w → order v w ≡ Equal) → (es fs : List (K × V)) → AlikePairs keys values es fs
    → slice_cmp (λ (e f : K × V). ordering_then (cmp e.0 f.0) (order e.1 f.1)) es fs ≡ Equal
pairs_tied {K} {V} keys values cmp order key_equal equal es fs a =
    row_tied (λ (e f : K × V). keys e.0 f.0 × values e.1 f.1) (λ (e f : K × V). ordering_then (cmp e.0 f.0) (order e.1 f.1))
    (λ e f h. then_tied (cmp e.0 f.0) (order e.1 f.1) (key_equal e.0 f.0 h.0) (equal e.1 f.1 h.1)) es fs a

-- ---- what rises by its keys, and is found alike by each key, is the same, as far as it is found

some_or_none : {X : Type 0} (x : X) (a b : Option X) → a ≡ Some x → a ≡ b → b ≡ None → ⊥
some_or_none x a b p q r = cc

module _ {X K F : Type 0} {cmp : K → K → Ordering} (o : IsTotalOrder cmp) (key : X → K) (view : X → F) where
  -- what the first says whose key is equal to q
  abbrev seek : K → List X → Option F
  seek q [] = None
  seek q (x ∷ xs) = cond (is_eq (cmp q (key x))) (Some (view x)) (seek q xs)

  abbrev Above : K → List X → Type 0
  Above q xs = AllByRecursion (λ y. cmp q (key y) ≡ Less) xs

  abbrev Rising : List X → Type 0
  Rising [] = Unit {0}
  Rising (x ∷ xs) = Above (key x) xs × Rising xs

  none_above : (q : K) (xs : List X) → Above q xs → seek q xs ≡ None
  none_above q [] a = refl
  none_above q (x ∷ xs) a = ap (λ r. cond (is_eq r) (Some (view x)) (seek q xs)) a.0 ∙ none_above q xs a.1

  above_lower : (q k : K) (xs : List X) → cmp q k ≡ Less → Above k xs → Above q xs
  above_lower q k [] p a = tt
  above_lower q k (x ∷ xs) p a = (o.trans q k (key x) p a.0, above_lower q k xs p a.1)

  above_tied : (q k : K) (xs : List X) → cmp q k ≡ Equal → Above k xs → Above q xs
  above_tied q k [] p a = tt
  above_tied q k (x ∷ xs) p a = (o.congr q k (key x) p ∙ a.0, above_tied q k xs p a.1)

  at_head : (x : X) (xs : List X) → seek (key x) (x ∷ xs) ≡ Some (view x)
  at_head x xs = ap (λ r. cond (is_eq r) (Some (view x)) (seek (key x) xs)) (tied_itself o (key x))

  module _ (x y : X) (xs ys : List X) (s : Rising (x ∷ xs)) (t : Rising (y ∷ ys)) (h : (q : K) → seek q (x ∷ xs) ≡ seek q (y ∷ ys)) where
    by_heads : (r : Ordering) → cmp (key x) (key y) ≡ r → cmp (key x) (key y) ≡ Equal
    by_heads Equal p = p
    by_heads Less p =
        absurd (some_or_none (view x) _ _ (at_head x xs) (h (key x)) (none_above (key x) (y ∷ ys) (p, above_lower (key x) (key y) ys p t.0)))
    by_heads Greater p =
        let q = o.antisymm (key y) (key x) ∙ ap ordering_reverse p in
        absurd (some_or_none (view y) _ _ (at_head y ys) (sym (h (key y))) (none_above (key y) (x ∷ xs) (q, above_lower (key y) (key x) xs q s.0)))

    heads : cmp (key x) (key y) ≡ Equal
    heads = by_heads (cmp (key x) (key y)) refl

    views : view x ≡ view y
    views = ap (λ u. unwrap_or u (view x))
        (sym (at_head x xs) ∙ h (key x) ∙ ap (λ r. cond (is_eq r) (Some (view y)) (seek (key x) ys)) heads)

    tails : (q : K) → seek q xs ≡ seek q ys
    tails q = go (cmp q (key x)) refl
      where
        other : cmp q (key y) ≡ cmp q (key x)
        other = sym (alike_right o (key x) (key y) q heads)

        past : cmp q (key x) ≡ Equal → seek q xs ≡ seek q ys
        past p = none_above q xs (above_tied q (key x) xs p s.0) ∙ sym (none_above q ys (above_tied q (key y) ys (other ∙ p) t.0))

        both : (r : Ordering) → cmp q (key x) ≡ r → cond (is_eq r) (Some (view x)) (seek q xs) ≡ cond (is_eq r) (Some (view y)) (seek q ys)
        both r p = sym (ap (λ c. cond (is_eq c) (Some (view x)) (seek q xs)) p) ∙ h q ∙ ap (λ c. cond (is_eq c) (Some (view y)) (seek q ys)) (other ∙ p)

        go : (r : Ordering) → cmp q (key x) ≡ r → seek q xs ≡ seek q ys
        go Equal p = past p
        go Less p = both Less p
        go Greater p = both Greater p

  same_found : (xs ys : List X) → Rising xs → Rising ys → ((q : K) → seek q xs ≡ seek q ys) → Alike (λ (x y : X). view x ≡ view y) xs ys
  same_found [] [] s t h = tt
  same_found [] (y ∷ ys) s t h = absurd (some_or_none (view y) _ _ (at_head y ys) (sym (h (key y))) refl)
  same_found (x ∷ xs) [] s t h = absurd (some_or_none (view x) _ _ (at_head x xs) (h (key x)) refl)
  same_found (x ∷ xs) (y ∷ ys) s t h = (views x y xs ys s t h, same_found xs ys s.1 t.1 (tails x y xs ys s t h))

  -- of the same keys, in an order that doesn't tell them apart
  rising_alike : {same : X → X → Type 0} → ((x y : X) → same x y → cmp (key x) (key y) ≡ Equal) → (xs ys : List X) → Alike same xs ys → Rising xs → Rising ys
  rising_alike {same} equal [] [] a s = tt
  rising_alike {same} equal [] (y ∷ ys) a s = absurd a
  rising_alike {same} equal (x ∷ xs) [] a s = absurd a
  rising_alike {same} equal (x ∷ xs) (y ∷ ys) a s = (above x y (equal x y a.0) xs ys a.1 s.0, rising_alike equal xs ys a.1 s.1)
    where
      above : (x y : X) → cmp (key x) (key y) ≡ Equal → (us ws : List X) → Alike same us ws → Above (key x) us → Above (key y) ws
      above x y e [] [] a s = tt
      above x y e [] (w ∷ ws) a s = absurd a
      above x y e (u ∷ us) [] a s = absurd a
      above x y e (u ∷ us) (w ∷ ws) a s =
          (sym (o.congr (key x) (key y) (key w) e) ∙ sym (alike_right o (key u) (key w) (key x) (equal u w a.0)) ∙ s.0, above x y e us ws a.1 s.1)

-- ---- sets

module _ {K : Type 0} {cmp : K → K → Ordering} (o : IsTotalOrder cmp) where
  keys_rise : (ks : List K) → IsStrictlySortedBy cmp ks → Rising o (λ (k : K). k) (λ (k : K). k) ks
  unfolding IsStrictlySortedBy
  keys_rise [] s = tt
  keys_rise (k ∷ ks) s = (s.0, keys_rise ks s.1)

  seek_key : (q : K) (ks : List K) → find (is_at (cmp q)) ks ≡ seek o (λ (k : K). k) (λ (k : K). k) q ks
  seek_key q [] = refl
  seek_key q (k ∷ ks) = ap (cond (is_eq (cmp q k)) (Some k)) (seek_key q ks)

  keys_found : (same : K → K → Type 0) (ks ns ls : List K) → Alike same ks ns → Alike (λ (k l : K). k ≡ l) ns ls → Alike same ks ls
  keys_found same [] [] [] a b = tt
  keys_found same [] [] (l ∷ ls) a b = absurd b
  keys_found same [] (n ∷ ns) ls a b = absurd a
  keys_found same (k ∷ ks) [] ls a b = absurd a
  keys_found same (k ∷ ks) (n ∷ ns) [] a b = absurd b
  keys_found same (k ∷ ks) (n ∷ ns) (l ∷ ls) a b = (subst (same k) b.0 a.0, keys_found same ks ns ls a.1 b.1)

  -- of keys in order, whatever is made of keys of their content are keys of their content
  pub same_set : (same : K → K → Type 0) → ((a b : K) → same a b → cmp a b ≡ Equal) → (ks ls : List K) → IsStrictlySortedBy cmp ks
      → AlikeKeys cmp same ks ls → Alike same ks ls
  same_set same equal ks ls s (ns, a, c) =
      let t = rising_alike o (λ (k : K). k) (λ (k : K). k) equal ks ns a (keys_rise ks s) in
      keys_found same ks ns ls a (same_found o (λ (k : K). k) (λ (k : K). k) ns ls t (keys_rise ls c.ordered)
      (λ q. sym (seek_key q ns) ∙ sym (c.first q) ∙ seek_key q ls))

-- ---- maps

module _ {K V : Type 0} {cmp : K → K → Ordering} (o : IsTotalOrder cmp) where
  module _ {F : Type 0} (view : K × V → F) where
    entries_rise : (es : List (K × V)) → IsStrictlySortedBy cmp (keys_of es) → Rising o (λ (e : K × V). e.0) view es
    unfolding IsStrictlySortedBy
    entries_rise [] s = tt
    entries_rise (e ∷ []) s = (tt, tt)
    entries_rise (e ∷ f ∷ es) s = (above e.0 (f ∷ es) s.0, entries_rise (f ∷ es) s.1)
      where
        above : (q : K) (es : List (K × V)) → AllByRecursion (λ y. cmp q y ≡ Less) (keys_of es) → Above o (λ (e : K × V). e.0) view q es
        above q [] s = tt
        above q (e ∷ es) s = (s.0, above q es s.1)

    entries_sorted : (es : List (K × V)) → Rising o (λ (e : K × V). e.0) view es → IsStrictlySortedBy cmp (keys_of es)
    unfolding IsStrictlySortedBy
    entries_sorted [] s = tt
    entries_sorted (e ∷ es) s = (above e.0 es s.0, entries_sorted es s.1)
      where
        above : (q : K) (es : List (K × V)) → Above o (λ (e : K × V). e.0) view q es → AllByRecursion (λ y. cmp q y ≡ Less) (keys_of es)
        above q [] s = tt
        above q (e ∷ es) s = (s.0, above q es s.1)

  seek_first : (q : K) (es : List (K × V)) → lookup_key (is_at (cmp q)) es ≡ seek o (λ (e : K × V). e.0) (λ (e : K × V). e.0) q es
  seek_first q [] = refl
  seek_first q (e ∷ es) = ap (cond (is_eq (cmp q e.0)) (Some e.0)) (seek_first q es)

  seek_value : (q : K) (es : List (K × V)) → lookup (is_at (cmp q)) es ≡ seek o (λ (e : K × V). e.0) (λ (e : K × V). e.1) q es
  seek_value q [] = refl
  seek_value q (e ∷ es) = ap (cond (is_eq (cmp q e.0)) (Some e.1)) (seek_value q es)

  entries_found : (keys : K → K → Type 0) (values : V → V → Type 0) (es ns fs : List (K × V)) → AlikePairs keys values es ns
      → Alike (λ (e f : K × V). e.0 ≡ f.0) ns fs → Alike (λ (e f : K × V). e.1 ≡ f.1) ns fs → AlikePairs keys values es fs
  entries_found keys values [] [] [] a b c = tt
  entries_found keys values [] [] (f ∷ fs) a b c = absurd b
  entries_found keys values [] (n ∷ ns) fs a b c = absurd a
  entries_found keys values (e ∷ es) [] fs a b c = absurd a
  entries_found keys values (e ∷ es) (n ∷ ns) [] a b c = absurd b
  entries_found keys values (e ∷ es) (n ∷ ns) (f ∷ fs) a b c =
      ((subst (keys e.0) b.0 a.0.0, subst (values e.1) c.0 a.0.1), entries_found keys values es ns fs a.1 b.1 c.1)

  -- of entries in order, whatever is made of pairs of their content are entries of their content
  pub same_map : (keys : K → K → Type 0) (values : V → V → Type 0) → ((a b : K) → keys a b → cmp a b ≡ Equal) → (es fs : List (K × V))
      → IsStrictlySortedBy cmp (keys_of es) → AlikeEntries cmp keys values es fs → AlikePairs keys values es fs
  same_map keys values equal es fs s (ns, a, c) =
      let first = λ (e : K × V). e.0 in
      let last = λ (e : K × V). e.1 in
      let t = rising_alike o first first (λ e f h. equal e.0 f.0 h.0) es ns a (entries_rise first es s) in
      let u = rising_alike o first last (λ e f h. equal e.0 f.0 h.0) es ns a (entries_rise last es s) in
      let n = same_entries o ns (entries_sorted first ns t) in
      entries_found keys values es ns fs a
      (same_found o first first ns fs t (entries_rise first fs c.ordered) (λ q. sym (seek_first q ns) ∙ sym (c.first q) ∙ seek_first q fs))
      (same_found o first last ns fs u (entries_rise last fs c.ordered)
      (λ q. sym (seek_value q ns) ∙ n.last q ∙ sym (c.last q) ∙ seek_value q fs))
