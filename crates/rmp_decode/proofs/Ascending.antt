-- Keys that ascend: with one more after them, and with one that is put before those of a set.
use Rattle.std.proofs.Common.{◌≡◌, ◌∙◌, sym, ap, subst, refl, arith, ℕ, zero, suc, ◌+◌, ◌-◌, List, [], ◌∷◌, ◌++◌, length, None, Some}
use Rattle.std.proofs.lemmas.List.{append-nil, append_assoc}
use Rattle.std.specs.BTreeSet.{insert_key}
use Rattle.std.specs.Cmp.{IsTotalOrder}
use Rattle.std.specs.List.{AllByRecursion, slice_get}
use Rattle.std.specs.List.Sorted.{IsStrictlySortedBy}
use Rattle.std.specs.Ordering.{match_ordering, ordering_reverse}
use Rattle.std.specs.declared.cmp.Ordering.{Ordering}
use Rattle.std.specs.declared.cmp.Ordering.TheVariants.{Less}

of_last : {K : Type 0} (P : K → Type 0) (ks : List K) (k : K) → AllByRecursion P (ks ++ k ∷ []) → P k
of_last P [] k a = a.0
of_last P (x ∷ ks) k a = of_last P ks k a.1

one_more : {K : Type 0} (P : K → Type 0) (ks : List K) (k : K) → AllByRecursion P ks → P k → AllByRecursion P (ks ++ k ∷ [])
one_more P [] k a p = (p, tt)
one_more P (x ∷ ks) k a p = (a.0, one_more P ks k a.1 p)

there_is_a_last : {A : Type 0} (x : A) (xs : List A) → slice_get (x ∷ xs) (length xs) ≡ None → ⊥
there_is_a_last x [] e = absurd cc
there_is_a_last x (y ∷ xs) e = there_is_a_last y xs e

same_some : {A : Type 0} (P : A → Type 0) (x y : A) → Some x ≡ Some y → P y → P x
same_some P x y e p = let same : x ≡ y = cc in rw same p

module _ {K : Type 0} {cmp : K → K → Ordering} (o : IsTotalOrder cmp) where
  -- a key above the last one is above all
  after_last : (ks : List K) (i : ℕ) (l k : K) → slice_get ks i ≡ Some l → i + 1 ≡ length ks → cmp l k ≡ Less
      → IsStrictlySortedBy cmp ks → IsStrictlySortedBy cmp (ks ++ k ∷ [])
  unfolding IsStrictlySortedBy
  after_last [] i l k e n h s = absurd (omega (arith, n))
  after_last (x ∷ []) zero l k e n h s = ((same_some (λ y. cmp y k ≡ Less) x l e h, tt), (tt, tt))
  after_last (x ∷ y ∷ ks) zero l k e n h s = absurd (omega (arith, n))
  after_last (x ∷ []) (suc i) l k e n h s = absurd (omega (arith, n))
  after_last (x ∷ y ∷ ks) (suc i) l k e n h s =
      let rest = after_last (y ∷ ks) i l k e (omega (arith, n)) h s.1 in
      let below = o.trans x y k s.0.0 (of_last (λ z. cmp y z ≡ Less) ks k rest.0) in
      (one_more (λ z. cmp x z ≡ Less) (y ∷ ks) k s.0 below, rest)

  pub after_all : (ks : List K) (l k : K) → slice_get ks (length ks - 1) ≡ Some l → cmp l k ≡ Less
      → IsStrictlySortedBy cmp ks → IsStrictlySortedBy cmp (ks ++ k ∷ [])
  after_all [] l k e h s = absurd cc
  after_all (x ∷ ks) l k e h s = after_last (x ∷ ks) (length (x ∷ ks) - 1) l k e (omega arith) h s

  pub after_none : (ks : List K) (k : K) → slice_get ks (length ks - 1) ≡ None → IsStrictlySortedBy cmp (ks ++ k ∷ [])
  unfolding IsStrictlySortedBy
  after_none [] k e = (tt, tt)
  after_none (x ∷ ks) k e =
      let last : length (x ∷ ks) - 1 ≡ length ks = omega arith in
      absurd (there_is_a_last x ks (ap (slice_get (x ∷ ks)) (sym last) ∙ e))

  -- a key above all goes after them
  insert_key_after : (ks : List K) (k : K) → IsStrictlySortedBy cmp (ks ++ k ∷ []) → insert_key cmp ks k ≡ ks ++ k ∷ []
  unfolding IsStrictlySortedBy
  insert_key_after [] k s = refl
  insert_key_after (x ∷ ks) k s =
      ap (λ r. match_ordering r (k ∷ x ∷ ks) (x ∷ ks) (x ∷ insert_key cmp ks k))
      (o.antisymm k x ∙ ap ordering_reverse (of_last (λ z. cmp x z ≡ Less) ks k s.0))
      ∙ ap (λ z. x ∷ z) (insert_key_after ks k s.1)

  -- the last key of a row goes before those that came after it
  insert_key_in_front : (rs : List K) (k : K) (ks : List K) → IsStrictlySortedBy cmp ((rs ++ k ∷ []) ++ ks) → insert_key cmp ks k ≡ k ∷ ks
  unfolding IsStrictlySortedBy
  insert_key_in_front [] k [] s = refl
  insert_key_in_front [] k (x ∷ ks) s = ap (λ r. match_ordering r (k ∷ x ∷ ks) (x ∷ ks) (x ∷ insert_key cmp ks k)) s.0.0
  insert_key_in_front (r ∷ rs) k ks s = insert_key_in_front rs k ks s.1

  -- a row with one more key after it, and nothing in the set
  pub keys_after : (row ks fs : List K) (k : K) → ks ≡ [] → IsStrictlySortedBy cmp (row ++ ks)
      → (IsStrictlySortedBy cmp row → IsStrictlySortedBy cmp (row ++ k ∷ [])) → fs ≡ row ++ k ∷ [] → fs ++ ks ≡ insert_key cmp (row ++ ks) k
  keys_after row ks fs k n s b e =
      let plain : row ++ ks ≡ row = ap (λ z. row ++ z) n ∙ append-nil row in
      let more = insert_key_after row k (b (subst (IsStrictlySortedBy cmp) plain s)) in
      ap (λ z. fs ++ z) n ∙ append-nil fs ∙ e ∙ sym more ∙ ap (λ z. insert_key cmp z k) (sym plain)

  -- the last key of a row was put into the set
  pub settled_key : (row rest ks fs all : List K) (k : K) → row ≡ rest ++ k ∷ [] → row ++ ks ≡ all
      → IsStrictlySortedBy cmp all → fs ≡ insert_key cmp ks k → rest ++ fs ≡ all
  settled_key row rest ks fs all k p w s e =
      let whole : (rest ++ k ∷ []) ++ ks ≡ all = ap (λ z. z ++ ks) (sym p) ∙ w in
      let front = insert_key_in_front rest k ks (subst (IsStrictlySortedBy cmp) (sym whole) s) in
      ap (λ z. rest ++ z) (e ∙ front) ∙ sym (append_assoc rest (k ∷ []) ks) ∙ whole
