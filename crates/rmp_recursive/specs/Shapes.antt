-- What recursive types share that hold themselves inside of tuples in lists, or of lists in options.
use Rattle.std.proofs.Common.{◌≡◌, refl, List, [], ◌∷◌, map, All, Option, None, Some}
use Rattle.std.proofs.lemmas.List.Elements.{All-nil, All-cons, All-head, All-tail}
use Rattle.std.specs.List.{AllByRecursion}
use Rattle.std.specs.Prelude.{IfSome}
use Rattle.rmp_encode.specs.Data.{Data}

-- what is known of each value, and of each that is made of one
pub each_through : {A B : Type 0} (P : A → Type 0) (Q : B → Type 0) (f : A → B) → ((a : A) → P a ≡ Q (f a)) → (xs : List A)
    → AllByRecursion P xs ≡ AllByRecursion Q (map f xs)
each_through P Q f h [] = refl
each_through P Q f h (x ∷ xs) = λ i. h x i × each_through P Q f h xs i

-- what each value is written as, and each that is made of one
pub each_mapped : {A B : Type 0} (d : B → Option Data) (own : A → Option Data) (f : A → B) → ((a : A) → d (f a) ≡ own a) → (xs : List A)
    → map d (map f xs) ≡ map own xs
each_mapped d own f h [] = refl
each_mapped d own f h (x ∷ xs) = λ i. h x i ∷ each_mapped d own f h xs i

-- what follows for each value from what holds of its parts and what is known of it
pub each_both : {X : Type 0} (P F Q : X → Type 0) → ((x : X) → P x → F x → Q x) → (xs : List X) → All P xs → AllByRecursion F xs → All Q xs
each_both P F Q f [] h fit = All-nil Q
each_both P F Q f (x ∷ xs) h fit = All-cons Q x xs (f x (All-head P x xs h) fit.0) (each_both P F Q f xs (All-tail P x xs h) fit.1)

pub option_both : {X : Type 0} (P F Q : X → Type 0) → ((x : X) → P x → F x → Q x) → (o : Option X) → IfSome o P → IfSome o F → IfSome o Q
option_both P F Q f None h fit = tt
option_both P F Q f (Some x) h fit = f x h fit

-- what follows for each value from one fact of it
pub each_as : {X : Type 0} (P Q : X → Type 0) → ((x : X) → P x → Q x) → (xs : List X) → All P xs → All Q xs
each_as P Q f [] h = All-nil Q
each_as P Q f (x ∷ xs) h = All-cons Q x xs (f x (All-head P x xs h)) (each_as P Q f xs (All-tail P x xs h))

pub all_known : {X : Type 0} (P Q : X → Type 0) → ((x : X) → P x → Q x) → (xs : List X) → All P xs → AllByRecursion Q xs
all_known P Q f [] h = tt
all_known P Q f (x ∷ xs) h = (f x (All-head P x xs h), all_known P Q f xs (All-tail P x xs h))

pub option_known : {X : Type 0} (P Q : X → Type 0) → ((x : X) → P x → Q x) → (o : Option X) → IfSome o P → IfSome o Q
option_known P Q f None h = tt
option_known P Q f (Some x) h = f x h
