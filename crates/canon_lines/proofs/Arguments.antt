-- Two arguments, by the second.
use Rattle.std.proofs.Common.{arith, ◌≡◌, ℕ, ◌<◌, ◌≤◌, List, [], ◌∷◌, length, map, drop, get_or, ap, ◌∙◌}

pub two : {A : Type 0} (f : A → List ℕ) (xs : List A) (d : A) (text : List ℕ) → 2 ≤ length xs → length xs < 3 → f (get_or xs 1 d) ≡ text
    → (name : List ℕ) × (map f xs ≡ name ∷ text ∷ [])
two f [] d text l s e = absurd (omega arith)
two f (a ∷ []) d text l s e = absurd (omega arith)
two f (a ∷ b ∷ []) d text l s e = (f a, ap (λ t. f a ∷ t ∷ []) e)
two f (a ∷ b ∷ c ∷ xs) d text l s e = absurd (omega arith)

pub second : {A : Type 0} (f : A → List ℕ) (xs : List A) (d : A) (text : List ℕ) → 2 ≤ length xs → length xs < 3 → f (get_or xs 1 d) ≡ text
    → drop 1 (map f xs) ≡ text ∷ []
second f xs d text l s e = ap (drop 1) (two f xs d text l s e).1

-- three arguments, by the second and the third
pub third : {A : Type 0} (f : A → List ℕ) (xs : List A) (d e : A) (text more : List ℕ) → 3 ≤ length xs → length xs < 4 → f (get_or xs 1 d) ≡ text
    → f (get_or xs 2 e) ≡ more → drop 1 (map f xs) ≡ text ∷ more ∷ []
third f [] d e text more l s p q = absurd (omega arith)
third f (a ∷ []) d e text more l s p q = absurd (omega arith)
third f (a ∷ b ∷ []) d e text more l s p q = absurd (omega arith)
third f (a ∷ b ∷ c ∷ []) d e text more l s p q = ap (λ t. t ∷ f c ∷ []) p ∙ ap (λ t. text ∷ t ∷ []) q
third f (a ∷ b ∷ c ∷ x ∷ xs) d e text more l s p q = absurd (omega arith)
