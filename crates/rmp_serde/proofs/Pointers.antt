-- What the tokens of a pointer mean, and lead to.
use Rattle.std.proofs.Common.{◌≡◌, ◌≢◌, ◌∙◌, sym, ap, refl, ℕ, ◌<◌, ◌^◌, ◌↔◌, Bool, true, false, ◌&&◌, ◌||◌, ◌==◌, nat_lt}
use Rattle.std.proofs.Common.{List, [], ◌∷◌, ◌++◌, length, get_or, drop, arith, Option, Some, None, Result, Ok, Err, option_and_then, length-drop, ne_eqb}
use Rattle.std.specs.Prelude.{if◌then◌else◌, slice_index}
use Rattle.std.specs.List.{onto_first, All}
use Rattle.std.specs.Result.{result_ok}
use Rattle.std.specs.Str.{all_ascii_digits}
use Rattle.std.specs.Str.Parse.{ParsesUnsigned, digits_value}
use Rattle.std.proofs.lemmas.Bool.Decides.{nat_tests}
use Rattle.std.proofs.lemmas.List.Elements.{All-from_get_or}
use Rattle.std.proofs.lemmas.List.Splits.{slice_split_at, slice_split_none}
use Rattle.std.proofs.lemmas.Str.Parse.{IsNumeralModel, numerals_by_value, tells_all_ascii_digits, parse_plain}
use Rattle.rmp_wire.specs.Msg.{Msg}
use Rattle.rmp_serde.specs.Found.{is_index, index_of, unescaped, part_named, followed, between_slashes, pointed_by, pointed}

-- ---- indexes

own : IsNumeralModel (λ ds. all_ascii_digits ds ≡ true) (digits_value 10)
own = numerals_by_value _ tells_all_ascii_digits

both : (a b : Bool) → (a && b) ≡ true → (a ≡ true) × (b ≡ true)
both true b e = (refl, e)
both false b e = absurd cc

none_if : (b : Bool) (n : ℕ) → (b ≡ true → ⊥) → (if b then Some n else None) ≡ None
none_if true n h = absurd (h refl)
none_if false n h = refl

nonempty : (t : List ℕ) → 48 < get_or t 0 0 → 0 < length t
nonempty [] l = absurd (omega (arith, l))
nonempty (c ∷ cs) l = omega arith

-- a token whose first byte is above "0" is an index exactly if it is read as a number
pub index_parsed : {E : Type 0} (t : List ℕ) (r : Result ℕ E) → ParsesUnsigned 64 10 t r → 48 < get_or t 0 0 → result_ok r ≡ index_of t
index_parsed {E} t (Ok x) h first =
    let p = parse_plain own {E = E} 64 t (Ok x) h (omega arith) in
    let late : (length t == 1 || nat_lt 48 (slice_index t 0)) ≡ true = grind (arith, nat_tests) in
    let small : nat_lt (digits_value 10 t) (2 ^ 64) ≡ true = grind (arith, nat_tests, p) in
    ap Some p.1 ∙ ap (λ b. if b then Some (digits_value 10 t) else None) (sym (λ i. (p.0.0 i && late i) && small i))
index_parsed {E} t (Err e) h first =
    let p = parse_plain own {E = E} 64 t (Err e) h (omega arith) in
    sym (none_if (is_index t && nat_lt (digits_value 10 t) (2 ^ 64)) (digits_value 10 t) (λ is.
    let i = both _ _ is in
    let small : digits_value 10 t < 2 ^ 64 = grind (arith, nat_tests, i.1) in
    p ((both _ _ i.0).0, nonempty t first, small)))

-- ---- texts

-- where the text goes on, and the token means nothing more
pub nothing_meant : (t s x : List ℕ) (i : ℕ) → i < length s → x ≡ [] → (unescaped t ≡ s) ↔ (unescaped x ≡ drop i s) → unescaped t ≡ s → ⊥
nothing_meant t s x i l e h same = omega (arith, ap length (sym (ap unescaped e) ∙ h.0 same), length-drop i s, l)

-- ---- one token after another

abbrev pub Lacks : ℕ → List ℕ → Type 0
Lacks c xs = (i : ℕ) → i < length xs → get_or xs i 0 ≢ c

no_slashes : (xs : List ℕ) → Lacks 47 xs → All (λ x. (x == 47) ≡ false) xs
no_slashes xs h = All-from_get_or (λ x. (x == 47) ≡ false) xs 0 (λ i l. ne_eqb (get_or xs i 0) 47 (h i l))

some_same : {A : Type 0} (o : Option A) → option_and_then Some o ≡ o
some_same None = refl
some_same (Some x) = refl

begun_none : (x : ℕ) (ps : List (List ℕ)) (m : Msg) → pointed_by m (onto_first x ps) ≡ None
begun_none x [] m = refl
begun_none x (p ∷ ps) m = refl

-- what doesn't begin with a slash is no pointer, unless it is empty
pub no_pointer : (p : List ℕ) (m : Msg) → 0 < length p → ((rest : List ℕ) → p ≢ 47 ∷ rest) → pointed m p ≡ None
no_pointer [] m some h = absurd (omega (arith, some))
no_pointer (x ∷ xs) m some h = rw (ne_eqb x 47 (λ e. h xs (ap (λ y. y ∷ xs) e))) (begun_none x (between_slashes xs) m)

-- the first token leads to a part, and what follows the next slash goes on from there
pub one_followed : (p xs ys : List ℕ) (m : Msg) → p ≡ xs ++ 47 ∷ ys → Lacks 47 xs
    → followed m (between_slashes p) ≡ option_and_then (λ n. followed n (between_slashes ys)) (part_named m xs)
one_followed p xs ys m e h =
    ap (λ l. followed m (between_slashes l)) e ∙ ap (followed m) (slice_split_at (λ b. b == 47) xs 47 ys (no_slashes xs h) refl)

-- what has no slash is the last token
pub last_followed : (xs : List ℕ) (m : Msg) → Lacks 47 xs → followed m (between_slashes xs) ≡ part_named m xs
last_followed xs m h = ap (followed m) (slice_split_none (λ b. b == 47) xs (no_slashes xs h)) ∙ some_same (part_named m xs)
