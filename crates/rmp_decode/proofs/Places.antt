-- Places that are emptied one after another, by calls that answer what they held.
use Rattle.std.proofs.Common.{◌≡◌, ◌≢◌, ◌∙◌, sym, ap, subst, ℕ, zero, suc, ◌+◌, ◌<◌, ◌≤◌, arith, List, [], ◌∷◌, length, map, slice_index_or}
use Rattle.std.proofs.Common.{slice_set, Option, Some, None}
use Rattle.std.specs.Array.{index_steps, IsFromFnResultFrom}
use Rattle.std.specs.Fn.{Mut, Called}
use Rattle.std.specs.Iterator.{Yields}
use Rattle.std.specs.List.{FoldsTo}
use Rattle.std.proofs.lemmas.List.{get_or-set_other, get_or-map, ext_get_or, length-map}

module _ {F A : Type 0} (places : F → List (Option A)) (g : Mut F (ℕ × Unit {0}) A)
    (said : (p : F) (i : ℕ) (y : A) (q : F) → Called g p (i, tt) y q
    → (slice_index_or (places p) i None ≡ Some y) × (places q ≡ slice_set (places p) i None)) where
  -- the places that aren't reached yet are as they were
  pub later : (n : ℕ) (xs : List ℕ) (i t : ℕ) (p q : F) → Yields (index_steps n) i xs t → FoldsTo (λ p x q. (y : A) × Called g p (x, tt) y q) p xs q
      → (j : ℕ) → t ≤ j → (i ≤ t) × (slice_index_or (places q) j None ≡ slice_index_or (places p) j None)
  later n [] i t p q ys fs j le = (omega (arith, ys), ap (λ z. slice_index_or (places z) j None) (sym fs))
  later n (x ∷ xs) i t p q ys fs j le =
      let s = ys.1 in
      let r = later n xs ys.0 t fs.0 q ys.2 fs.2 j le in
      let d = said p x fs.1.0 fs.0 fs.1.1 in
      let o : j ≢ x = λ e. omega (arith, e, r.0, s.1, s.2, le) in
      (omega (arith, r.0, s.2), r.1 ∙ ap (λ z. slice_index_or z j None) d.1 ∙ get_or-set_other (places p) x j None None o)

  -- what each place held is what its call answered
  held : (n i : ℕ) (p : F) (ys : List A) → IsFromFnResultFrom g p ys i n → (k : ℕ) (d : A) → k < n
      → slice_index_or (places p) (i + k) None ≡ Some (slice_index_or ys (i + k) d)
  held zero i p ys e k d l = absurd (omega (arith, l))
  held (suc n) i p ys e zero d l =
      let here : slice_index_or (places p) i None ≡ Some (slice_index_or ys i d) = (said p i e.1 e.0 e.3).0 ∙ ap Some (sym (e.2.1 d)) in
      subst (λ z. slice_index_or (places p) z None ≡ Some (slice_index_or ys z d)) (omega arith) here
  held (suc n) i p ys e (suc k) d l =
      let o : i + 1 + k ≢ i = omega arith in
      let rest = ap (λ z. slice_index_or z (i + 1 + k) None) (said p i e.1 e.0 e.3).1 ∙ get_or-set_other (places p) i (i + 1 + k) None None o in
      subst (λ z. slice_index_or (places p) z None ≡ Some (slice_index_or ys z d)) (omega arith) (sym rest ∙ held n (i + 1) e.0 ys e.4 k d (omega arith))

  -- so together they are what the places held
  pub held_all : (n : ℕ) (p : F) (ys : List A) → length ys ≡ n → length (places p) ≡ n → IsFromFnResultFrom g p ys 0 n → map Some ys ≡ places p
  held_all n p ys l k e =
      let some : A → Option A = λ y. Some y in
      let long : length (map some ys) ≡ length ys = length-map ys some in
      ext_get_or None (map some ys) (places p) (omega (arith, l, k, long)) (λ i u. at ys l e i (omega (arith, u, long)))
    where
      at : (ys : List A) → length ys ≡ n → IsFromFnResultFrom g p ys 0 n → (i : ℕ) → i < length ys
          → slice_index_or (map (λ y. Some y) ys) i None ≡ slice_index_or (places p) i None
      at [] l e i u = absurd (omega (arith, u))
      at (y ∷ ys) l e i u =
          let h = held n 0 p (y ∷ ys) e i y (omega (arith, u, l)) in
          get_or-map (λ y. Some y) (y ∷ ys) i y None u ∙ sym
          (subst (λ z. slice_index_or (places p) z None ≡ Some (slice_index_or (y ∷ ys) z y)) (omega arith) h)
