-- Moving on in a list by its place.
use Rattle.std.proofs.Common.{◌≡◌, ◌∙◌, sym, ap, subst, ℕ, ◌+◌, ◌-◌, ◌≤◌, List, [], ◌∷◌, ◌++◌, take, drop, length, Some}
use Rattle.std.proofs.lemmas.List.{take-append-drop, drop-drop, length-take-le, length-drop, length-append}
use Rattle.std.specs.Io.KnownBytes.{Consumes}
use Rattle.std.proofs.Math.Seq.{take-append_seam}
use native.Mathlib.Omega.{arith}
use Rattle.rmp_wire.specs.Cursors.{cursor_place}
use Rattle.rmp_wire.specs.Sources.{Place, Skips}
use Rattle.rmp_wire.specs.Sources.Place.{made_of, past_end}

-- the elements from a place on are the next n, and those from n places further on
moved : (p n : ℕ) (xs : List ℕ) → drop p xs ≡ take n (drop p xs) ++ drop (p + n) xs
moved p n xs = sym (take-append-drop n (drop p xs)) ∙ ap (λ t. take n (drop p xs) ++ t) (drop-drop n p xs)

-- how many the next n are
next_count : (p n : ℕ) (xs : List ℕ) → n ≤ length xs - p → length (take n (drop p xs)) ≡ n
next_count p n xs l = length-take-le n (drop p xs) (rw (length-drop p xs) l)

-- the same where a copy of the next n is before others
pub copied : (p n : ℕ) (s r xs : List ℕ) → s ≡ take n (drop p xs) → n ≤ length xs - p → drop p xs ≡ take n (s ++ r) ++ drop (p + n) xs
copied p n s r xs e l =
    let c : length s ≡ n = ap length e ∙ next_count p n xs l in
    let t : take n (s ++ r) ≡ s = subst (λ k. take k (s ++ r) ≡ s) c (take-append_seam s r) in
    moved p n xs ∙ ap (λ t. t ++ drop (p + n) xs) (sym e ∙ sym t)

-- moving a place on is skipping
pub skipped : (p n : ℕ) (xs : List ℕ) → n ≤ length xs - p → Skips n (Some (drop p xs)) (Some (drop (p + n) xs))
skipped p n xs l = record { bytes = take n (drop p xs); long = next_count p n xs l; taken = moved p n xs }

-- moving on within the bytes leaves the place past the end
pub still_past : (p n : ℕ) (xs : List ℕ) → n ≤ length xs - p → cursor_place xs (p + n) ≡ cursor_place xs p
still_past p n xs l =
    let e : (p + n) - length xs ≡ p - length xs = omega (arith, l) in
    ap (λ k. made_of xs ∷ past_end k ∷ []) e

made_same : {a b : List ℕ} {x y : List Place} → (made_of a ∷ x) ≡ (made_of b ∷ y) → (a ≡ b) × (x ≡ y)
made_same e = (cc, cc)

past_same : {k n : ℕ} → (past_end k ∷ []) ≡ (past_end n ∷ []) → k ≡ n
past_same e = cc

-- A cursor with the same place moved on by the length of what was taken.
pub moved_on : (bytes more taken : List ℕ) (p q : ℕ) → cursor_place more q ≡ cursor_place bytes p
    → Consumes (Some (drop p bytes)) (Some (drop q more)) taken → q ≡ p + length taken
moved_on bytes more taken p q e h =
    let s = made_same e in
    let k : q - length more ≡ p - length bytes = past_same s.1 in
    let m : length more ≡ length bytes = ap length s.0 in
    let c : length bytes - p ≡ length taken + (length more - q) =
    sym (length-drop p bytes) ∙ ap length h ∙ length-append taken (drop q more) ∙ ap (λ n. length taken + n) (length-drop q more) in
    omega (arith, k, m, c)
