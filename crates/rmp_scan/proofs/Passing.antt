-- Messages that are passed over, and lengths that are read on.
use Rattle.std.proofs.Common.{◌≡◌, ◌∙◌, sym, ap, subst, refl, ℕ, suc, ◌+◌, ◌-◌, ◌*◌, ◌<◌, ◌≤◌}
use Rattle.std.proofs.Common.{arith, List, [], ◌∷◌, ◌++◌, length, take, drop, get_or, append_assoc}
use Rattle.std.specs.Prelude.{◌↔◌}
use Rattle.std.proofs.lemmas.List.{append-nil, length-append, length-drop, take-append-drop, length-take-le, take_more, drop-drop}
use Rattle.std.proofs.Math.Seq.{drop-cons}
use Rattle.rmp_wire.specs.Spelling.{IsBytes}
use Rattle.rmp_wire.specs.Taking.{marker_of}
use Rattle.rmp_wire.proofs.Taken.{bytes_from, bytes_parts}
use Rattle.rmp_scan.specs.declared.opening.Counts.{Counts}
use Rattle.rmp_scan.specs.declared.opening.Opening.TheVariants.{Fixed}
use Rattle.rmp_scan.specs.Openings.{SpellsSome, WantsPayload, WantsLength, opening_of, Opens, Passes, Reads}
use Rattle.rmp_scan.proofs.FirstByte.{bytes_append, byte_opens}
use Rattle.rmp_scan.proofs.Rows.{same_front}

-- ---- payload

pub payload_moves : (t r : List ℕ) (k n : ℕ) → IsBytes t → WantsPayload (length t + k) n (t ++ r) ↔ WantsPayload k n r
payload_moves t r k n b = (
  λ j.
      let l : ℕ = length t in
      let f : List ℕ = take l j.first in
      let g : List ℕ = drop l j.first in
      let split : f ++ g ≡ j.first = take-append-drop l j.first in
      let long = j.is_first.0 in
      let same = same_front f t (g ++ j.second) r (length-take-le l j.first (omega (arith, long)))
      (sym (append_assoc f g j.second) ∙ ap (λ z. z ++ j.second) split ∙ sym j.is_whole) in
      record {
        first = g;
        second = j.second;
        is_first = (omega (arith, length-drop l j.first, long), (bytes_parts f g (subst IsBytes (sym split) j.is_first.1)).1);
        is_second = j.is_second;
        is_whole = sym same.1;
      },
  λ j. record {
    first = t ++ j.first;
    second = j.second;
    is_first = (let long = j.is_first.0 in omega (arith, length-append t j.first, long), bytes_append t j.first b j.is_first.1);
    is_second = j.is_second;
    is_whole = ap (λ z. t ++ z) j.is_whole ∙ sym (append_assoc t j.first j.second);
  },
)

pub no_payload : (n : ℕ) (r : List ℕ) → WantsPayload 0 n r ↔ SpellsSome n r
no_payload n r = (
  λ j.
      let none : j.first ≡ [] = Rattle.rmp_scan.proofs.Rows.none_of j.first j.is_first.0 in
      subst (SpellsSome n) (sym (j.is_whole ∙ ap (λ z. z ++ j.second) none)) j.is_second,
  λ s. record { first = []; second = r; is_first = (refl, tt); is_second = s; is_whole = refl },
)

-- ---- messages

pub passes_none : (n : ℕ) → Passes [] n n
passes_none n = λ k r. (λ s. s, λ s. s)

-- one more, which its first byte tells the length of
pub passes_more : (bytes : List ℕ) (at n w b payload parts : ℕ) → Passes (take at bytes) n w → 0 < w → b ≡ get_or bytes at 0
    → Fixed payload parts ≡ opening_of (marker_of b) → at + (1 + payload) ≤ length bytes → ((i : ℕ) → get_or bytes i 0 < 256)
    → Passes (take (at + (1 + payload)) bytes) n (w - 1 + parts)
passes_more bytes at n w b payload parts p some is o long small =
    let rest : List ℕ = drop (suc at) bytes in
    let t : List ℕ = take payload rest in
    let here : drop at bytes ≡ b ∷ rest = drop-cons bytes at 0 (omega (arith, long)) ∙ ap (λ z. z ∷ rest) (sym is) in
    let more : List ℕ = drop payload rest in
    let whole : bytes ≡ (take at bytes ++ (b ∷ t)) ++ more = sym (take-append-drop at bytes) ∙ ap (λ z. take at bytes ++ z)
    (here ∙ ap (λ z. b ∷ z) (sym (take-append-drop payload rest))) ∙ sym (append_assoc (take at bytes) (b ∷ t) more) in
    let t_long : length t ≡ payload = length-take-le payload rest (omega (arith, long, length-drop (suc at) bytes)) in
    let front_long : length (take at bytes ++ (b ∷ t)) ≡ at + (1 + payload) = omega (
      arith,
      length-append (take at bytes) (b ∷ t),
      t_long,
      length-take-le at bytes (omega (arith, long)),
    ) in
    let taken : take (at + (1 + payload)) bytes ≡ take at bytes ++ (b ∷ t) = ap (take (at + (1 + payload))) whole
    ∙ Rattle.std.proofs.lemmas.List.take_at (take at bytes ++ (b ∷ t)) more (at + (1 + payload)) front_long in
    let own : IsBytes t = (bytes_parts t more (subst IsBytes (sym (take-append-drop payload rest))
    (bytes_parts (take (suc at) bytes) rest (subst IsBytes (sym (take-append-drop (suc at) bytes)) (bytes_from bytes small))).1)).0 in
    let opens : Opens b (Fixed payload parts) = subst (Opens b) (sym o) (byte_opens b (subst (λ z. z < 256) (sym is) (small at))) in
    λ k r.
    let q = p k ((b ∷ t) ++ r) in
    let eq : (take at bytes ++ (b ∷ t)) ++ r ≡ take at bytes ++ ((b ∷ t) ++ r) = append_assoc (take at bytes) (b ∷ t) r in
    let n1 : w + k ≡ suc (w - 1 + k) = omega (arith, some) in
    let n2 : parts + (w - 1 + k) ≡ w - 1 + parts + k = omega arith in
    let step = opens (w - 1 + k) (t ++ r) in
    let moved = subst (λ z. WantsPayload z (parts + (w - 1 + k)) (t ++ r) ↔ WantsPayload 0 (parts + (w - 1 + k)) r)
    (let e : length t + 0 ≡ payload = omega (arith, t_long) in e)
    (payload_moves t r 0 (parts + (w - 1 + k)) own) in
    let last = no_payload (parts + (w - 1 + k)) r in (
      λ s. subst (λ z. SpellsSome z r) n2
          (last.0 (moved.0 (step.0 (subst (λ z. SpellsSome z ((b ∷ t) ++ r)) n1 (q.0 (subst (SpellsSome (n + k)) (ap (λ z. z ++ r) taken ∙ eq) s)))))),
      λ s. subst (SpellsSome (n + k)) (sym (ap (λ z. z ++ r) taken ∙ eq))
          (q.1 (subst (λ z. SpellsSome z ((b ∷ t) ++ r)) (sym n1) (step.1 (moved.1 (last.1 (subst (λ z. SpellsSome z r) (sym n2) s)))))),
    )

-- ---- lengths

pub reads_none : (counts : Counts) (missing value : ℕ) → Reads counts missing value [] missing value
reads_none counts missing value = λ n r. (λ s. s, λ s. s)

pub reads_more : (counts : Counts) (missing value : ℕ) (bytes : List ℕ) (at m v : ℕ) → Reads counts missing value (take at bytes) m v → 0 < m
    → at < length bytes → get_or bytes at 0 < 256 → Reads counts missing value (take (at + 1) bytes) (m - 1) (256 * v + get_or bytes at 0)
reads_more counts missing value bytes at m v p some long small =
    let b : ℕ = get_or bytes at 0 in
    let taken : take (at + 1) bytes ≡ take at bytes ++ b ∷ [] = take_more bytes at 0 long in
    let one : m ≡ suc (m - 1) = omega (arith, some) in
    λ n r.
    let q = p n (b ∷ r) in
    let eq : (take at bytes ++ b ∷ []) ++ r ≡ take at bytes ++ (b ∷ r) = append_assoc (take at bytes) (b ∷ []) r in
    let whole : take (at + 1) bytes ++ r ≡ take at bytes ++ (b ∷ r) = ap (λ z. z ++ r) taken ∙ eq in (
      λ s. (subst (λ z. WantsLength counts z v n (b ∷ r)) one (q.0 (subst (WantsLength counts missing value n) whole s))).1,
      λ s. subst (WantsLength counts missing value n) (sym whole)
          (q.1 (subst (λ z. WantsLength counts z v n (b ∷ r)) (sym one) (small, s))),
    )
