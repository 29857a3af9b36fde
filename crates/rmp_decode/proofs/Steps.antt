-- Content at the end of a vector.
use Rattle.std.proofs.Common.{◌≡◌, ◌∙◌, ap, ℕ, ◌-◌, arith, List, ◌++◌, length, take, drop}
use Rattle.std.proofs.Math.Seq.{drop-append_seam, take-append_seam, take-length}
use Rattle.std.proofs.lemmas.List.{length-append}

-- what follows the bytes that were there
pub appended_is : (at : ℕ) (before s after : List ℕ) → after ≡ before ++ s → at ≡ length before → take (length after - at) (drop at after) ≡ s
appended_is at before s after e l =
    let rest : drop at after ≡ s = ap (λ n. drop n after) l ∙ ap (drop (length before)) e ∙ drop-append_seam before s in
    let long : length after - at ≡ length s = omega (arith, ap length e ∙ length-append before s, l) in
    ap (λ n. take n (drop at after)) long ∙ ap (take (length s)) rest ∙ take-length s

-- the bytes that were there
pub kept_is : (at : ℕ) (before s after : List ℕ) → after ≡ before ++ s → at ≡ length before → take at after ≡ before
kept_is at before s after e l = ap (λ n. take n after) l ∙ ap (take (length before)) e ∙ take-append_seam before s
