-- Digits in pairs, by a table of their values.
use Rattle.std.proofs.Common.{
  ◌≡◌,
  ◌≢◌,
  ◌∙◌,
  sym,
  ap,
  refl,
  ℕ,
  zero,
  suc,
  ◌+◌,
  ◌*◌,
  ◌%◌,
  ◌<◌,
  ◌≤◌,
  arith,
  Bool,
  true,
  false,
  ◌==◌,
  ◌&&◌,
  List,
  [],
  ◌∷◌,
  ◌++◌,
  length,
  drop,
  slice_index,
  Option,
  Some,
  None,
  Ok,
  Err,
  append-nil,
}
use Rattle.std.specs.Prelude.{not, filter, Result}
use Rattle.std.proofs.lemmas.Bool.{and_parts, eqb-true}
use Rattle.std.proofs.lemmas.List.{drop_all}
use Rattle.hex.specs.Hex.{decode_of, decode_pairs, hex_digit_value, pair_value, value_at, ◌>>=◌}
use Rattle.hex.specs.declared.error.FromHexError.{FromHexError}
use Rattle.hex.proofs.Pairs.{prepend, cons_byte, decode_pairs-ok_pair, drop-pair, prepend-cons_byte}
use Rattle.canon_lines.specs.Lines.{is_blank}

-- ---- the table

-- what a table says of no digit, and of one its value
abbrev entry : Option ℕ → ℕ
entry None = 255
entry (Some v) = v

-- each number of a table is what is said of its byte, for so many bytes from one on
abbrev pub says : ℕ → ℕ → List ℕ → Bool
says zero k table = true
says (suc n) k (x ∷ table) = (x == entry (hex_digit_value k)) && says n (suc k) table
says (suc n) k [] = false

entry_says : (n m k j : ℕ) (table : List ℕ) → j ≡ m + k → m < n → says n k table ≡ true → slice_index table m ≡ entry (hex_digit_value j)
entry_says zero m k j table i l e = absurd (omega arith)
entry_says (suc n) m k j [] i l e = absurd cc
entry_says (suc n) zero k j (x ∷ table) i l e =
    let here : j ≡ k = omega arith in
    eqb-true x (entry (hex_digit_value k)) (and_parts (x == entry (hex_digit_value k)) (says n (suc k) table) e).0
    ∙ ap (λ z. entry (hex_digit_value z)) (sym here)
entry_says (suc n) (suc m) k j (x ∷ table) i l e =
    entry_says n m (suc k) j table (omega arith) (omega arith) (and_parts (x == entry (hex_digit_value k)) (says n (suc k) table) e).1

some_entry : (o : Option ℕ) (x : ℕ) → x ≡ entry o → x ≢ 255 → o ≡ Some x
some_entry None x e n = absurd (n e)
some_entry (Some v) x e n = ap Some (sym e)

-- a number of the table that isn't 255 is the value of its digit
pub value_is : (table : List ℕ) → says 256 0 table ≡ true → (c : ℕ) → c < 256 → slice_index table c ≢ 255 → hex_digit_value c ≡ Some (slice_index table c)
value_is table e c l n = some_entry (hex_digit_value c) (slice_index table c) (entry_says 256 c 0 c table (omega arith) l e) n

pub value_below : (c v : ℕ) → hex_digit_value c ≡ Some v → v < 16
value_below c v e = grind arith

-- ---- pairs

pub pair_is : (a b x y i : ℕ) → hex_digit_value a ≡ Some x → hex_digit_value b ≡ Some y → pair_value a b i ≡ Ok (x * 16 + y)
pair_is a b x y i p q = rw (p, q) refl

-- the bytes of the pairs so far come before those of the rest
abbrev pub Decoded : List ℕ → List ℕ → ℕ → Type 0
Decoded digits bytes i = decode_pairs 0 digits ≡ prepend bytes (decode_pairs (2 * i) (drop (2 * i) digits))

pub decoded_more : (digits bytes : List ℕ) (i v : ℕ) → 2 * i + 1 < length digits
    → pair_value (slice_index digits (2 * i)) (slice_index digits (2 * i + 1)) (2 * i) ≡ Ok v → Decoded digits bytes i → Decoded digits (bytes ++ v ∷ []) (i + 1)
decoded_more digits bytes i v fits ok inv =
    let rest : List ℕ = drop (2 * (i + 1)) digits in
    let two : 2 * i + 2 ≡ 2 * (i + 1) = omega arith in
    let pair = ap (decode_pairs (2 * i)) (drop-pair digits i fits) ∙ decode_pairs-ok_pair (2 * i) _ _ v rest ok
    ∙ ap (λ (k : ℕ). cons_byte v (decode_pairs k rest)) two in
    inv ∙ ap (prepend bytes) pair ∙ prepend-cons_byte bytes v _

pub decoded_all : (digits bytes : List ℕ) (i : ℕ) → length digits % 2 ≡ 0 → length digits ≤ 2 * i → Decoded digits bytes i → decode_of digits ≡ Ok bytes
unfolding decode_pairs
decoded_all digits bytes i even end inv =
    let all : decode_pairs 0 digits ≡ Ok bytes =
    inv ∙ ap (λ z. prepend bytes (decode_pairs (2 * i) z)) (drop_all (2 * i) digits end) ∙ ap Ok (append-nil bytes) in
    rw even all

-- ---- blanks

not_blank : (c i v : ℕ) → value_at c i ≡ Ok v → is_blank c ≡ false
not_blank c i v e = grind arith

both_digits : (a b i j v : ℕ) (r s : Result ℕ FromHexError) → value_at a i ≡ r → value_at b j ≡ s → (r >>= (λ h. s >>= (λ l. Ok (h * 16 + l)))) ≡ Ok v
    → (is_blank a ≡ false) × (is_blank b ≡ false)
both_digits a b i j v (Ok h) (Ok l) p q e = (not_blank a i h p, not_blank b j l q)
both_digits a b i j v (Ok h) (Err x) p q e = absurd cc
both_digits a b i j v (Err x) s p q e = absurd cc

ok_pair : (a b i v : ℕ) → pair_value a b i ≡ Ok v → (is_blank a ≡ false) × (is_blank b ≡ false)
ok_pair a b i v e = both_digits a b i (i + 1) v (value_at a i) (value_at b (i + 1)) refl refl e

byte_and_more : (r : Result ℕ FromHexError) (t : Result (List ℕ) FromHexError) (bytes : List ℕ)
    → (r >>= (λ byte. t >>= (λ more. Ok (byte ∷ more)))) ≡ Ok bytes → (v : ℕ) × (more : List ℕ) × (r ≡ Ok v) × (t ≡ Ok more)
byte_and_more (Ok v) (Ok more) bytes e = (v, more, refl, refl)
byte_and_more (Ok v) (Err x) bytes e = absurd cc
byte_and_more (Err x) t bytes e = absurd cc

-- what decodes has no blanks
decoded_plain : (i : ℕ) (digits bytes : List ℕ) → decode_pairs i digits ≡ Ok bytes → filter (λ b. not (is_blank b)) digits ≡ digits
unfolding decode_pairs
decoded_plain i [] bytes e = refl
decoded_plain i (a ∷ []) bytes e = absurd cc
decoded_plain i (a ∷ b ∷ rest) bytes e =
    let u = byte_and_more (pair_value a b i) (decode_pairs (i + 2) rest) bytes e in
    let n = ok_pair a b i u.0 u.2 in
    rw (n.0, n.1) (ap (λ z. a ∷ b ∷ z) (decoded_plain (i + 2) rest u.1 u.3))

pairs_of : (digits bytes : List ℕ) → decode_of digits ≡ Ok bytes → decode_pairs 0 digits ≡ Ok bytes
pairs_of digits bytes e = grind arith

pub plain_digits : (digits bytes : List ℕ) → decode_of digits ≡ Ok bytes → filter (λ b. not (is_blank b)) digits ≡ digits
plain_digits digits bytes e = decoded_plain 0 digits bytes (pairs_of digits bytes e)
