-- The table of first bytes, and the messages that it tells the length of.
use Rattle.std.proofs.Common.{◌≡◌, ◌∙◌, sym, ap, subst, refl, ℕ, zero, suc, ◌+◌, ◌-◌, ◌*◌, ◌<◌, arith, Bool, true, false}
use Rattle.std.proofs.Common.{List, [], ◌∷◌, length, take, get_or, ◌==◌, ◌&&◌}
use Rattle.std.proofs.lemmas.Bool.{and_parts, eqb-true, lt-ltb}
use Rattle.rmp_wire.specs.Taking.{marker_of}
use Rattle.rmp_scan.specs.declared.opening.Opening.{Opening}
use Rattle.rmp_scan.specs.declared.opening.Opening.TheVariants.{Fixed, Counted, Reserved}
use Rattle.rmp_scan.specs.Openings.{opening_of, Tells, Passes}
use Rattle.rmp_scan.proofs.Passing.{passes_more}

-- ---- the table

abbrev tells : Opening → ℕ → ℕ → Bool
tells (Fixed payload parts) a b = (a == payload) && (b == parts)
tells (Counted counts width) a b = a == 0xffffffff
tells Reserved a b = a == 0xffffffff

tells_is : (o : Opening) (a b : ℕ) → tells o a b ≡ true → Tells o a b
tells_is (Fixed payload parts) a b e = let u = and_parts (a == payload) (b == parts) e in (eqb-true a payload u.0, eqb-true b parts u.1)
tells_is (Counted counts width) a b e = eqb-true a 0xffffffff e
tells_is Reserved a b e = eqb-true a 0xffffffff e

-- each two numbers of a table are those of their first byte, for the bytes from one on
abbrev pub says : ℕ → ℕ → List ℕ → Bool
says zero k table = true
says (suc n) k (a ∷ b ∷ table) = tells (opening_of (marker_of k)) a b && says n (suc k) table
says (suc n) k _ = false

abbrev Row : List ℕ → ℕ → ℕ → Type 0
Row table j m = Tells (opening_of (marker_of j)) (get_or table (2 * m) 0) (get_or table (2 * m + 1) 0)

row_after : (a b : ℕ) (table : List ℕ) (j m : ℕ) → Row table j m → Row (a ∷ b ∷ table) j (suc m)
row_after a b table j m r =
    let at : (x y : ℕ) → suc (suc x) ≡ y → get_or table x 0 ≡ get_or (a ∷ b ∷ table) y 0 = λ x y e.
    ap (λ z. get_or (a ∷ b ∷ table) z 0) e in
    subst (λ z. Tells (opening_of (marker_of j)) (get_or (a ∷ b ∷ table) (2 * suc m) 0) z) (at (2 * m + 1) (2 * suc m + 1) (omega arith))
    (subst (λ z. Tells (opening_of (marker_of j)) z (get_or table (2 * m + 1) 0)) (at (2 * m) (2 * suc m) (omega arith)) r)

row_says : (n m k j : ℕ) (table : List ℕ) → j ≡ m + k → m < n → says n k table ≡ true → Row table j m
row_says zero m k j table i l e = absurd (omega arith)
row_says (suc n) m k j [] i l e = absurd cc
row_says (suc n) m k j (a ∷ []) i l e = absurd cc
row_says (suc n) zero k j (a ∷ b ∷ table) i l e =
    let here : j ≡ k = omega arith in
    let u = and_parts (tells (opening_of (marker_of k)) a b) (says n (suc k) table) e in
    subst (λ z. Tells (opening_of (marker_of z)) a b) (sym here) (tells_is (opening_of (marker_of k)) a b u.0)
row_says (suc n) (suc m) k j (a ∷ b ∷ table) i l e =
    let u = and_parts (tells (opening_of (marker_of k)) a b) (says n (suc k) table) e in
    row_after a b table j m (row_says n m (suc k) j table (omega arith) (omega arith) u.1)

pub table_tells : (table : List ℕ) → says 256 0 table ≡ true → (b : ℕ) → b < 256 → Row table b b
table_tells table e b l = row_says 256 b 0 b table (omega arith) l e

-- ---- messages

pub fixed_is : (o : Opening) (a b : ℕ) → Tells o a b → a < 0xffffffff → Fixed a b ≡ o
fixed_is (Fixed payload parts) a b t l = ap (λ z. Fixed z b) t.0 ∙ ap (λ z. Fixed payload z) t.1
fixed_is (Counted counts width) a b t l = absurd (omega (arith, t))
fixed_is Reserved a b t l = absurd (omega (arith, t))

-- a byte below 80 is a message
number_opens : (b : ℕ) → b < 0x80 → Fixed 0 0 ≡ opening_of (marker_of b)
unfolding marker_of
number_opens b l = let t = lt-ltb b 0x80 l in rw t refl

pub number_more : (bytes : List ℕ) (at n : ℕ) → Passes (take at bytes) n (n - at) → at < n → at < length bytes → get_or bytes at 0 < 0x80
    → ((i : ℕ) → get_or bytes i 0 < 256) → Passes (take (at + 1) bytes) n (n - (at + 1))
number_more bytes at n p few l b small =
    let one : at + (1 + 0) ≡ at + 1 = omega arith in
    let left : n - at - 1 + 0 ≡ n - (at + 1) = omega arith in
    let more = passes_more bytes at n (n - at) (get_or bytes at 0) 0 0 p (omega arith) refl (number_opens (get_or bytes at 0) b) (omega arith) small in
    subst (λ z. Passes (take (at + 1) bytes) n z) left (subst (λ z. Passes (take z bytes) n (n - at - 1 + 0)) one more)
