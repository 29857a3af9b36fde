-- Lines and their digits.
use Rattle.std.proofs.Common.{ℕ, ◌+◌, ◌<◌, List, [], ◌∷◌, ◌++◌, All, map, take, get_or, suc, length, sym, subst, arith}
use Rattle.std.proofs.lemmas.List.{map_more}
use Rattle.std.proofs.lemmas.List.Elements.{All-push, All-cons}

abbrev pub Split : {B : Type 0} → (B → Type 0) → List B → B → Type 0
Split P ys y = All P ys × P y

All-split : {B : Type 0} (P : B → Type 0) (ys : List B) (y : B) → All P (ys ++ y ∷ []) → Split P ys y
All-split P [] y h = (λ k d lt. absurd (omega arith), h 0 y (omega arith))
All-split P (x ∷ xs) y h =
    let t = All-split P xs y (λ k d lt. h (suc k) d (omega (arith, lt))) in
    (All-cons P x xs (h 0 x (omega arith)) t.0, t.1)

module _ {A B : Type 0} (P : B → Type 0) (v : A → B) (xs : List A) (i : ℕ) (d : A) (within : i < length xs) where
  -- one more element
  pub All-more : All P (map v (take i xs)) → P (v (get_or xs i d)) → All P (map v (take (i + 1) xs))
  All-more h p = subst (All P) (sym (map_more v xs i d within)) (All-push P (map v (take i xs)) (v (get_or xs i d)) h p)

  -- one element less, and the last one
  pub All-less : All P (map v (take (i + 1) xs)) → Split P (map v (take i xs)) (v (get_or xs i d))
  All-less h = All-split P (map v (take i xs)) (v (get_or xs i d)) (subst (All P) (map_more v xs i d within) h)

pub All-front : {A B : Type 0} (P : B → Type 0) (v : A → B) (xs : List A) (i : ℕ) → i < length xs → All P (map v (take (i + 1) xs)) → All P (map v (take i xs))
All-front P v [] i within h = absurd (omega arith)
All-front P v (x ∷ xs) i within h = (All-less P v (x ∷ xs) i x within h).0
