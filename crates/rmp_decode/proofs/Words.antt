-- The words of a refusal are what is UTF-8 of its bytes.
use Rattle.std.proofs.Common.{arith, ap, refl, subst, sym, ◌∙◌}
use Rattle.std.specs.Prelude.{◌≡◌, ℕ, zero, suc, ◌+◌, ◌-◌, ◌<◌, ◌≤◌, true, false, List, [], ◌++◌, length, take, drop}
use Rattle.std.specs.Str.{IsUtf8, is_utf8, chars}
use Rattle.std.specs.Str.Lossy.{utf8_valid_len}
use Rattle.rmp_decode.specs.Words.{fitting}
use Rattle.std.proofs.Math.ListN.{replicate}
use Rattle.std.proofs.Math.Seq.{take-append_seam, take-append-add, take-length, drop-append_seam}
use Rattle.std.proofs.lemmas.List.{length-replicate, drop-replicate, length-append, take_all}
use Rattle.std.proofs.lemmas.Str.{IsUtf8-nil, IsUtf8-append, IsUtf8-drop, IsCharBoundary-from_take, is_utf8-from_IsUtf8, utf8_valid_len-IsUtf8}
use Rattle.std.proofs.lemmas.Str.{utf8_valid_len-IsValidUpTo}

-- no text in UTF-8 begins with the byte 255
no_text : (i k : ℕ) → is_utf8 (take (suc i) (replicate (suc k) 255)) ≡ false
unfolding is_utf8 chars
no_text zero k = refl
no_text (suc zero) zero = refl
no_text (suc zero) (suc k) = refl
no_text (suc (suc zero)) zero = refl
no_text (suc (suc zero)) (suc zero) = refl
no_text (suc (suc zero)) (suc (suc k)) = refl
no_text (suc (suc (suc i))) zero = refl
no_text (suc (suc (suc i))) (suc zero) = refl
no_text (suc (suc (suc i))) (suc (suc zero)) = refl
no_text (suc (suc (suc zero))) (suc (suc (suc k))) = refl
no_text (suc (suc (suc (suc i)))) (suc (suc (suc zero))) = refl
no_text (suc (suc (suc (suc i)))) (suc (suc (suc (suc k)))) = refl

no_longer : (t : List ℕ) (k m : ℕ) → IsUtf8 t → length t < m → ¬ (IsUtf8 (take m (t ++ replicate (suc k) 255)))
no_longer t k m u lt v =
    let r : List ℕ = replicate (suc k) 255 in
    let i = m - suc (length t) in
    let far : m ≡ length t + suc i = omega (arith, lt) in
    let whole = subst IsUtf8 (ap (λ n. take n (t ++ r)) far ∙ take-append-add t r (suc i)) v in
    let at = IsCharBoundary-from_take (t ++ take (suc i) r) (length t) whole (omega (arith, length-append t (take (suc i) r)))
    (subst IsUtf8 (sym (take-append_seam t (take (suc i) r))) u) in
    let rest = subst IsUtf8 (drop-append_seam t (take (suc i) r)) (IsUtf8-drop (t ++ take (suc i) r) (length t) whole at) in
    let no : is_utf8 (take (suc i) r) ≡ false = no_text i k in
    let yes : is_utf8 (take (suc i) r) ≡ true = is_utf8-from_IsUtf8 (take (suc i) r) rest in
    absurd (cc)

-- how much of a text is UTF-8 that has such bytes after it
stops : (t : List ℕ) (k : ℕ) → IsUtf8 t → utf8_valid_len (t ++ replicate k 255) ≡ length t
stops t zero u =
    let none : List ℕ = [] in
    utf8_valid_len-IsUtf8 (t ++ none) (IsUtf8-append t none u IsUtf8-nil) ∙ omega (arith, length-append t none)
stops t (suc k) u = utf8_valid_len-IsValidUpTo (t ++ replicate (suc k) 255) (length t) (record {
  short = omega (arith, length-append t (replicate (suc k) 255), length-replicate {A = ℕ} (suc k) 255);
  front = subst IsUtf8 (sym (take-append_seam t (replicate (suc k) 255))) u;
  longest = λ m. no_longer t k m u;
})

-- the words of a text that comes before such bytes
pub front_words : (t s : List ℕ) → s ≡ t → IsUtf8 t
    → take (utf8_valid_len (s ++ drop (length t) (replicate 30 255))) (s ++ drop (length t) (replicate 30 255)) ≡ t
front_words t s e u =
    let r : List ℕ = replicate (30 - length t) 255 in
    ap (λ l. take (utf8_valid_len l) l) (λ i. e i ++ drop-replicate (length t) 30 255 i) ∙ (ap (λ n. take n (t ++ r)) (stops t (30 - length t) u) ∙ take-append_seam t r)

-- bytes that are UTF-8 are words as a whole
pub all_words : (bs : List ℕ) → IsUtf8 bs → take (utf8_valid_len bs) bs ≡ bs
all_words bs u = ap (λ n. take n bs) (utf8_valid_len-IsUtf8 bs u) ∙ take-length bs

-- a text that fits is there whole
pub all_fits : (s : List ℕ) → IsUtf8 s → length s ≤ 30 → fitting s ≡ s
all_fits s u l = ap (λ t. take (utf8_valid_len t) t) (take_all 30 s l) ∙ all_words s u
