-- Heads of one byte, and of a number or a float, that the first five bytes show to be canonical.
use Rattle.std.proofs.Common.{
  ◌≡◌,
  ◌∙◌,
  sym,
  ap,
  subst,
  refl,
  ℕ,
  zero,
  suc,
  ◌+◌,
  ◌-◌,
  ◌*◌,
  ◌%◌,
  ◌^◌,
  ◌<◌,
  ◌≤◌,
  inl,
  inr,
  arith,
  List,
  [],
  ◌∷◌,
  ◌++◌,
  length,
  take,
  drop,
  get_or,
  true,
  false,
  cond,
  nat_lt,
  pos,
  negsuc,
  Bool,
  ◌==◌,
  ◌&&◌,
}
use Rattle.std.proofs.lemmas.Bool.{cases_lt, lt-ltb, le-ltb, eqb-true}
use Rattle.std.proofs.lemmas.Bool.Decides.{nat_tests}
use Rattle.std.proofs.lemmas.Int.{ints}
use Rattle.std.proofs.lemmas.List.{append-nil, take-append-drop, length-take-le, length-drop, get_or-drop, drop-drop}
use Rattle.std.proofs.Math.Seq.{drop-cons}
use Rattle.std.specs.Int.{w8, w16, w32, w64, to_be_bytes, from_be_bytes, cast_unsigned}
use Rattle.rmp_wire.specs.declared.head.Head.{Head}
use Rattle.rmp_wire.specs.declared.head.Head.TheVariants.{Nil, Truth, Whole, F32Bits, F64Bits, Text, Array, Map}
use Rattle.rmp_wire.specs.Heads.{canon_head, fits_head}
use Rattle.rmp_wire.specs.Spelling.{IsBytes}
use Rattle.rmp_wire.proofs.Taken.{bytes_from, spelled_16, spelled_32, spelled_64}
use Rattle.rmp_decode.specs.Kinds.{content_len}
use Rattle.rmp_serde.specs.Places.{TakesNode, TakesNodes, parts_after}
use Rattle.rmp_serde.specs.Short.{entry}

-- ---- what a first byte says

pub data Entry (m : ℕ) : List ℕ → Type 0 where
  small : 0x0 ≤ m → m < 0x80 → Entry m (0 ∷ 0 ∷ 1 ∷ 0 ∷ [])
  short_map : 0x80 ≤ m → m < 0x90 → Entry m (0 ∷ 0 ∷ 1 ∷ (2 * (m - 0x80)) ∷ [])
  short_array : 0x90 ≤ m → m < 0xa0 → Entry m (0 ∷ 0 ∷ 1 ∷ (m - 0x90) ∷ [])
  short_text : 0xa0 ≤ m → m < 0xc0 → Entry m (0 ∷ 0 ∷ (m - 0x9f) ∷ 0 ∷ [])
  is_nil : 0xc0 ≤ m → m < 0xc1 → Entry m (0 ∷ 0 ∷ 1 ∷ 0 ∷ [])
  other : Entry m (0 ∷ 0xffffffffffffffff ∷ 0 ∷ 0 ∷ [])
  is_false : 0xc2 ≤ m → m < 0xc3 → Entry m (0 ∷ 0 ∷ 1 ∷ 0 ∷ [])
  is_true : 0xc3 ≤ m → m < 0xc4 → Entry m (0 ∷ 0 ∷ 1 ∷ 0 ∷ [])
  f32 : 0xca ≤ m → m < 0xcb → Entry m (0 ∷ 0 ∷ 5 ∷ 0 ∷ [])
  f64 : 0xcb ≤ m → m < 0xcc → Entry m (0 ∷ 0 ∷ 9 ∷ 0 ∷ [])
  u8 : 0xcc ≤ m → m < 0xcd → Entry m (0 ∷ 0x80000000 ∷ 2 ∷ 0 ∷ [])
  u16 : 0xcd ≤ m → m < 0xce → Entry m (0 ∷ 0x1000000 ∷ 3 ∷ 0 ∷ [])
  u32 : 0xce ≤ m → m < 0xcf → Entry m (0 ∷ 0x10000 ∷ 5 ∷ 0 ∷ [])
  u64 : 0xcf ≤ m → m < 0xd0 → Entry m (0 ∷ 1 ∷ 9 ∷ 0 ∷ [])
  i8 : 0xd0 ≤ m → m < 0xd1 → Entry m (0xffffffff20000000 ∷ 0xffffffffa0000000 ∷ 2 ∷ 0 ∷ [])
  i16 : 0xd1 ≤ m → m < 0xd2 → Entry m (0xffffffff00800000 ∷ 0xffffffff80800000 ∷ 3 ∷ 0 ∷ [])
  i32 : 0xd2 ≤ m → m < 0xd3 → Entry m (0xffffffff00008000 ∷ 0xffffffff80008000 ∷ 5 ∷ 0 ∷ [])
  i64 : 0xd3 ≤ m → m < 0xd4 → Entry m (0xffffffff00000001 ∷ 0xffffffff80000001 ∷ 9 ∷ 0 ∷ [])
  negative : 0xe0 ≤ m → m < 0x100 → Entry m (0 ∷ 0 ∷ 1 ∷ 0 ∷ [])

if_below : (m k : ℕ) (P : List ℕ → Type 0) (x y : List ℕ) → (m < k → P x) → (k ≤ m → P y) → P (cond (nat_lt m k) x y)
if_below m k P x y f g = elim (cases_lt m k) [
  | inl l ↦ let t : nat_lt m k ≡ true = lt-ltb m k l in rw t (f l)
  | inr l ↦ let t : nat_lt m k ≡ false = le-ltb m k l in rw t (g l)
]

pub entry_is : (m : ℕ) → m < 256 → Entry m (entry m)
entry_is m l =
    if_below m 0x80 (Entry m) _ _ (λ h. small (omega arith) h) (λ g0.
    if_below m 0x90 (Entry m) _ _ (λ h. short_map g0 h) (λ g1.
    if_below m 0xa0 (Entry m) _ _ (λ h. short_array g1 h) (λ g2.
    if_below m 0xc0 (Entry m) _ _ (λ h. short_text g2 h) (λ g3.
    if_below m 0xc1 (Entry m) _ _ (λ h. is_nil g3 h) (λ g4.
    if_below m 0xc2 (Entry m) _ _ (λ h. other) (λ g5.
    if_below m 0xc3 (Entry m) _ _ (λ h. is_false g5 h) (λ g6.
    if_below m 0xc4 (Entry m) _ _ (λ h. is_true g6 h) (λ g7.
    if_below m 0xca (Entry m) _ _ (λ h. other) (λ g8.
    if_below m 0xcb (Entry m) _ _ (λ h. f32 g8 h) (λ g9.
    if_below m 0xcc (Entry m) _ _ (λ h. f64 g9 h) (λ g10.
    if_below m 0xcd (Entry m) _ _ (λ h. u8 g10 h) (λ g11.
    if_below m 0xce (Entry m) _ _ (λ h. u16 g11 h) (λ g12.
    if_below m 0xcf (Entry m) _ _ (λ h. u32 g12 h) (λ g13.
    if_below m 0xd0 (Entry m) _ _ (λ h. u64 g13 h) (λ g14.
    if_below m 0xd1 (Entry m) _ _ (λ h. i8 g14 h) (λ g15.
    if_below m 0xd2 (Entry m) _ _ (λ h. i16 g15 h) (λ g16.
    if_below m 0xd3 (Entry m) _ _ (λ h. i32 g16 h) (λ g17.
    if_below m 0xd4 (Entry m) _ _ (λ h. i64 g17 h) (λ g18.
    if_below m 0xe0 (Entry m) _ _ (λ h. other) (λ g19.
    negative g19 l))))))))))))))))))))

-- ---- the table

abbrev same : List ℕ → List ℕ → Bool
same [] [] = true
same [] (y ∷ ys) = false
same (x ∷ xs) [] = false
same (x ∷ xs) (y ∷ ys) = (x == y) && same xs ys

both : (a b : Bool) → (a && b) ≡ true → (a ≡ true) × (b ≡ true)
both true b e = (refl, e)
both false b e = absurd cc

same_is : (xs ys : List ℕ) → same xs ys ≡ true → xs ≡ ys
same_is [] [] e = refl
same_is [] (y ∷ ys) e = absurd cc
same_is (x ∷ xs) [] e = absurd cc
same_is (x ∷ xs) (y ∷ ys) e =
    let u = both (x == y) (same xs ys) e in
    ap (λ z. z ∷ xs) (eqb-true x y u.0) ∙ ap (λ z. y ∷ z) (same_is xs ys u.1)

-- the four numbers of a first byte in a table
abbrev row : List ℕ → ℕ → List ℕ
row table m = get_or table (4 * m) 0 ∷ get_or table (4 * m + 1) 0 ∷ get_or table (4 * m + 2) 0 ∷ get_or table (4 * m + 3) 0 ∷ []

-- each four numbers of a table are those of their first byte, for the bytes from one on
abbrev says : ℕ → ℕ → List ℕ → Bool
says zero k table = true
says (suc n) k (a ∷ b ∷ c ∷ d ∷ table) = same (entry k) (a ∷ b ∷ c ∷ d ∷ []) && says n (suc k) table
says (suc n) k _ = false

row_after : (a b c d : ℕ) (table : List ℕ) (m : ℕ) → row table m ≡ row (a ∷ b ∷ c ∷ d ∷ table) (suc m)
row_after a b c d table m =
    let at : (x y : ℕ) → suc (suc (suc (suc x))) ≡ y → get_or table x 0 ≡ get_or (a ∷ b ∷ c ∷ d ∷ table) y 0 = λ x y e.
    ap (λ z. get_or (a ∷ b ∷ c ∷ d ∷ table) z 0) e in
    rw (
      at (4 * m) (4 * suc m) (omega arith),
      at (4 * m + 1) (4 * suc m + 1) (omega arith),
      at (4 * m + 2) (4 * suc m + 2) (omega arith),
      at (4 * m + 3) (4 * suc m + 3) (omega arith),
    ) refl

row_says : (n m k j : ℕ) (table : List ℕ) → j ≡ m + k → m < n → says n k table ≡ true → entry j ≡ row table m
row_says zero m k j table i l e = absurd (omega arith)
row_says (suc n) m k j [] i l e = absurd cc
row_says (suc n) m k j (a ∷ []) i l e = absurd cc
row_says (suc n) m k j (a ∷ b ∷ []) i l e = absurd cc
row_says (suc n) m k j (a ∷ b ∷ c ∷ []) i l e = absurd cc
row_says (suc n) zero k j (a ∷ b ∷ c ∷ d ∷ table) i l e =
    let here : j ≡ k = omega arith in
    ap entry here ∙ same_is (entry k) (a ∷ b ∷ c ∷ d ∷ []) (both (same (entry k) (a ∷ b ∷ c ∷ d ∷ [])) (says n (suc k) table) e).0
row_says (suc n) (suc m) k j (a ∷ b ∷ c ∷ d ∷ table) i l e =
    let rest = both (same (entry k) (a ∷ b ∷ c ∷ d ∷ [])) (says n (suc k) table) e in
    row_says n m (suc k) j table (omega arith) (omega arith) rest.1 ∙ row_after a b c d table m

pub table_says : (table : List ℕ) → says 256 0 table ≡ true → (m : ℕ) → m < 256 → entry m ≡ row table m
table_says table e m l = row_says 256 m 0 m table (omega arith) l e

-- ---- nodes

wide : (h : Head) (x : ℕ) (bs r : List ℕ) → fits_head h → content_len h ≡ 0 → parts_after h ≡ 0 → canon_head h ≡ x ∷ bs → TakesNode (x ∷ (bs ++ r)) r 0
wide h x bs r f l k e = record { head = h; content = []; fits = f; long = sym l; front = ap (λ z. z ++ r) (sym (append-nil (canon_head h) ∙ e)); many = sym k }

one : (h : Head) (x n : ℕ) (r : List ℕ) → fits_head h → content_len h ≡ 0 → n ≡ parts_after h → canon_head h ≡ x ∷ [] → TakesNode (x ∷ r) r n
one h x n r f l k e = record { head = h; content = []; fits = f; long = sym l; front = ap (λ z. z ++ r) (sym (append-nil (canon_head h) ∙ e)); many = k }

small_is : (m : ℕ) → m < 0x80 → canon_head (Whole (pos m)) ≡ m ∷ []
unfolding canon_head
small_is m l = grind (arith, nat_tests)

negative_is : (m : ℕ) → 0xe0 ≤ m → m < 0x100 → canon_head (Whole (negsuc (0xff - m))) ≡ m ∷ []
unfolding canon_head
negative_is m g l =
    let t : nat_lt (0xff - m) 32 ≡ true = lt-ltb (0xff - m) 32 (omega arith) in
    let e : 0xff - (0xff - m) ≡ m = omega arith in
    rw t (ap (λ z. z ∷ []) e)

map_is : (m : ℕ) → 0x80 ≤ m → m < 0x90 → canon_head (Map (m - 0x80)) ≡ m ∷ []
unfolding canon_head
map_is m g l =
    let t : nat_lt (m - 0x80) 16 ≡ true = lt-ltb (m - 0x80) 16 (omega arith) in
    let e : 0x80 + (m - 0x80) ≡ m = omega arith in
    rw t (ap (λ z. z ∷ []) e)

array_is : (m : ℕ) → 0x90 ≤ m → m < 0xa0 → canon_head (Array (m - 0x90)) ≡ m ∷ []
unfolding canon_head
array_is m g l =
    let t : nat_lt (m - 0x90) 16 ≡ true = lt-ltb (m - 0x90) 16 (omega arith) in
    let e : 0x90 + (m - 0x90) ≡ m = omega arith in
    rw t (ap (λ z. z ∷ []) e)

text_is : (m : ℕ) → 0xa0 ≤ m → m < 0xc0 → canon_head (Text (m - 0xa0)) ≡ m ∷ []
unfolding canon_head
text_is m g l =
    let t : nat_lt (m - 0xa0) 32 ≡ true = lt-ltb (m - 0xa0) 32 (omega arith) in
    let e : 0xa0 + (m - 0xa0) ≡ m = omega arith in
    rw t (ap (λ z. z ∷ []) e)

canon_8 : (n : ℕ) → 128 ≤ n → n < 2 ^ 8 → canon_head (Whole (pos n)) ≡ 0xcc ∷ to_be_bytes w8 n
unfolding canon_head
canon_8 n g l = grind (arith, nat_tests)

canon_16 : (n : ℕ) → 2 ^ 8 ≤ n → n < 2 ^ 16 → canon_head (Whole (pos n)) ≡ 0xcd ∷ to_be_bytes w16 n
unfolding canon_head
canon_16 n g l = grind (arith, nat_tests)

canon_32 : (n : ℕ) → 2 ^ 16 ≤ n → n < 2 ^ 32 → canon_head (Whole (pos n)) ≡ 0xce ∷ to_be_bytes w32 n
unfolding canon_head
canon_32 n g l = grind (arith, nat_tests)

canon_64 : (n : ℕ) → 2 ^ 32 ≤ n → canon_head (Whole (pos n)) ≡ 0xcf ∷ to_be_bytes w64 n
unfolding canon_head
canon_64 n g = grind (arith, nat_tests)

canon_s8 : (k : ℕ) → 32 ≤ k → k < 2 ^ 7 → canon_head (Whole (negsuc k)) ≡ 0xd0 ∷ to_be_bytes w8 (cast_unsigned w8 (negsuc k))
unfolding canon_head
canon_s8 k g l = grind (arith, nat_tests)

canon_s16 : (k : ℕ) → 2 ^ 7 ≤ k → k < 2 ^ 15 → canon_head (Whole (negsuc k)) ≡ 0xd1 ∷ to_be_bytes w16 (cast_unsigned w16 (negsuc k))
unfolding canon_head
canon_s16 k g l = grind (arith, nat_tests)

canon_s32 : (k : ℕ) → 2 ^ 15 ≤ k → k < 2 ^ 31 → canon_head (Whole (negsuc k)) ≡ 0xd2 ∷ to_be_bytes w32 (cast_unsigned w32 (negsuc k))
unfolding canon_head
canon_s32 k g l = grind (arith, nat_tests)

canon_s64 : (k : ℕ) → 2 ^ 31 ≤ k → canon_head (Whole (negsuc k)) ≡ 0xd3 ∷ to_be_bytes w64 (cast_unsigned w64 (negsuc k))
unfolding canon_head
canon_s64 k g = grind (arith, nat_tests)

back_8 : (n : ℕ) → n < 2 ^ 8 → cast_unsigned w8 (negsuc (0xff - n)) ≡ n
back_8 n l = omega (arith, ints)

back_16 : (n : ℕ) → n < 2 ^ 16 → cast_unsigned w16 (negsuc (0xffff - n)) ≡ n
back_16 n l = omega (arith, ints)

back_32 : (n : ℕ) → n < 2 ^ 32 → cast_unsigned w32 (negsuc (0xffffffff - n)) ≡ n
back_32 n l = omega (arith, ints)

back_64 : (n : ℕ) → n < 2 ^ 64 → cast_unsigned w64 (negsuc (0xffffffffffffffff - n)) ≡ n
back_64 n l = omega (arith, ints)

fits_pos : (n : ℕ) → n < 2 ^ 64 → fits_head (Whole (pos n))
unfolding fits_head
fits_pos n l = l

fits_neg : (n : ℕ) → n < 2 ^ 63 → fits_head (Whole (negsuc n))
unfolding fits_head
fits_neg n l = l

fits_short : (n : ℕ) → n < 32 → fits_head (Text n) × fits_head (Array n) × fits_head (Map n)
unfolding fits_head
fits_short n l = (omega arith, omega arith, omega arith)

leaf_fits : fits_head Nil × fits_head (Truth false) × fits_head (Truth true)
unfolding fits_head
leaf_fits = (tt, tt, tt)

float_fits : (n k : ℕ) → n < 2 ^ 32 → k < 2 ^ 64 → fits_head (F32Bits n) × fits_head (F64Bits k)
unfolding fits_head
float_fits n k l g = (l, g)

nil_is : canon_head Nil ≡ 0xc0 ∷ []
unfolding canon_head
nil_is = refl

false_is : canon_head (Truth false) ≡ 0xc2 ∷ []
unfolding canon_head
false_is = refl

true_is : canon_head (Truth true) ≡ 0xc3 ∷ []
unfolding canon_head
true_is = refl

f32_is : (n : ℕ) → canon_head (F32Bits n) ≡ 0xca ∷ to_be_bytes w32 n
unfolding canon_head
f32_is n = refl

f64_is : (n : ℕ) → canon_head (F64Bits n) ≡ 0xcb ∷ to_be_bytes w64 n
unfolding canon_head
f64_is n = refl

text_node : (m n : ℕ) (r : List ℕ) → 0xa0 ≤ m → m < 0xc0 → n ≡ m - 0xa0 → n ≤ length r → TakesNode (m ∷ r) (drop n r) 0
text_node m n r g l e k = record {
  head = Text n;
  content = take n r;
  fits = (fits_short n (omega arith)).0;
  long = length-take-le n r k;
  front = ap (λ z. m ∷ z) (sym (take-append-drop n r)) ∙ ap (λ z. (z ++ take n r) ++ drop n r) (sym (ap (λ z. canon_head (Text z)) e ∙ text_is m g l));
  many = refl;
}

-- the number in four bytes
abbrev pub word : ℕ → ℕ → ℕ → ℕ → ℕ
word a b c d = a * 0x1000000 + b * 0x10000 + c * 0x100 + d

-- A head whose first byte has this entry, and whose next four bytes are as it asks, is canonical and whole with
-- its content.
module _ (m a b c d e f g h : ℕ) (r : List ℕ) (s : IsBytes (m ∷ a ∷ b ∷ c ∷ d ∷ e ∷ f ∷ g ∷ h ∷ r))
    (long : 32 ≤ length (m ∷ a ∷ b ∷ c ∷ d ∷ e ∷ f ∷ g ∷ h ∷ r)) where
  l1 : a < 256
  l1 = s.1.0

  l2 : b < 256
  l2 = s.1.1.0

  l3 : c < 256
  l3 = s.1.1.1.0

  l4 : d < 256
  l4 = s.1.1.1.1.0

  l5 : e < 256
  l5 = s.1.1.1.1.1.0

  l6 : f < 256
  l6 = s.1.1.1.1.1.1.0

  l7 : g < 256
  l7 = s.1.1.1.1.1.1.1.0

  l8 : h < 256
  l8 = s.1.1.1.1.1.1.1.1.0

  n8 : ℕ
  n8 = from_be_bytes w8 (a ∷ [])

  two : (x : ℕ) → x ≡ from_be_bytes w16 (a ∷ b ∷ []) → (x < 2 ^ 16) × (to_be_bytes w16 x ≡ a ∷ b ∷ [])
  two x q = spelled_16 (a ∷ b ∷ []) x refl (l1, (l2, tt)) q

  four : (x : ℕ) → x ≡ from_be_bytes w32 (a ∷ b ∷ c ∷ d ∷ []) → (x < 2 ^ 32) × (to_be_bytes w32 x ≡ a ∷ b ∷ c ∷ d ∷ [])
  four x q = spelled_32 (a ∷ b ∷ c ∷ d ∷ []) x refl (l1, (l2, (l3, (l4, tt)))) q

  eight : (x : ℕ) → x ≡ from_be_bytes w64 (a ∷ b ∷ c ∷ d ∷ e ∷ f ∷ g ∷ h ∷ []) → (x < 2 ^ 64) × (to_be_bytes w64 x ≡ a ∷ b ∷ c ∷ d ∷ e ∷ f ∷ g ∷ h ∷ [])
  eight x q = spelled_64 (a ∷ b ∷ c ∷ d ∷ e ∷ f ∷ g ∷ h ∷ []) x refl (l1, (l2, (l3, (l4, (l5, (l6, (l7, (l8, tt)))))))) q

  -- the first word and the second
  abbrev high : ℕ
  high = word a b c d

  abbrev low : ℕ
  low = word e f g h

  pub short_node : (es : List ℕ) → Entry m es → get_or es 1 0 ≤ (high + get_or es 0 0) % 2 ^ 64
      → TakesNode (m ∷ a ∷ b ∷ c ∷ d ∷ e ∷ f ∷ g ∷ h ∷ r) (drop (get_or es 2 0) (m ∷ a ∷ b ∷ c ∷ d ∷ e ∷ f ∷ g ∷ h ∷ r)) (get_or es 3 0)
  short_node _ (small x y) t = one (Whole (pos m)) m 0 (a ∷ b ∷ c ∷ d ∷ e ∷ f ∷ g ∷ h ∷ r) (fits_pos m (omega arith)) refl refl (small_is m y)
  short_node _ (short_map x y) t = one (Map (m - 0x80)) m (2 * (m - 0x80)) (a ∷ b ∷ c ∷ d ∷ e ∷ f ∷ g ∷ h ∷ r) (fits_short (m - 0x80) (omega arith)).2 refl
      refl (map_is m x y)
  short_node _ (short_array x y) t = one (Array (m - 0x90)) m (m - 0x90) (a ∷ b ∷ c ∷ d ∷ e ∷ f ∷ g ∷ h ∷ r) (fits_short (m - 0x90) (omega arith)).1 refl
      refl (array_is m x y)
  short_node _ (short_text x y) t =
      let q : m - 0x9f ≡ suc (m - 0xa0) = omega arith in
      rw q (text_node m (m - 0xa0) (a ∷ b ∷ c ∷ d ∷ e ∷ f ∷ g ∷ h ∷ r) x y refl (omega arith))
  short_node _ (is_nil x y) t = one Nil m 0 (a ∷ b ∷ c ∷ d ∷ e ∷ f ∷ g ∷ h ∷ r) leaf_fits.0 refl refl (nil_is ∙ ap (λ z. z ∷ []) (omega arith))
  short_node _ (is_false x y) t = one (Truth false) m 0 (a ∷ b ∷ c ∷ d ∷ e ∷ f ∷ g ∷ h ∷ r) leaf_fits.1 refl refl (false_is ∙ ap (λ z. z ∷ []) (omega arith))
  short_node _ (is_true x y) t = one (Truth true) m 0 (a ∷ b ∷ c ∷ d ∷ e ∷ f ∷ g ∷ h ∷ r) leaf_fits.2 refl refl (true_is ∙ ap (λ z. z ∷ []) (omega arith))
  short_node _ other t = absurd (omega (arith, l1, l2, l3, l4))
  short_node _ (f32 x y) t =
      let n : ℕ = from_be_bytes w32 (a ∷ b ∷ c ∷ d ∷ []) in
      let u = four n refl in
      let q : 0xca ≡ m = omega arith in
      wide (F32Bits n) m (a ∷ b ∷ c ∷ d ∷ []) (e ∷ f ∷ g ∷ h ∷ r) (float_fits n 0 u.0 (omega arith)).0 refl refl
      (f32_is n ∙ ap (λ z. 0xca ∷ z) u.1 ∙ ap (λ z. z ∷ a ∷ b ∷ c ∷ d ∷ []) q)
  short_node _ (f64 x y) t =
      let n : ℕ = from_be_bytes w64 (a ∷ b ∷ c ∷ d ∷ e ∷ f ∷ g ∷ h ∷ []) in
      let u = eight n refl in
      let q : 0xcb ≡ m = omega arith in
      wide (F64Bits n) m (a ∷ b ∷ c ∷ d ∷ e ∷ f ∷ g ∷ h ∷ []) r (float_fits 0 n (omega arith) u.0).1 refl refl
      (f64_is n ∙ ap (λ z. 0xcb ∷ z) u.1 ∙ ap (λ z. z ∷ a ∷ b ∷ c ∷ d ∷ e ∷ f ∷ g ∷ h ∷ []) q)
  short_node _ (u8 x y) t =
      let q : 0xcc ≡ m = omega arith in
      let v : a % 256 ≡ a = omega (arith, l1) in
      let bytes : to_be_bytes w8 a ≡ a ∷ [] = ap (λ z. z ∷ []) v in
      wide (Whole (pos a)) m (a ∷ []) (b ∷ c ∷ d ∷ e ∷ f ∷ g ∷ h ∷ r) (fits_pos a (omega (arith, l1))) refl refl
      (canon_8 a (omega (arith, t, l1, l2, l3, l4)) (omega (arith, l1)) ∙ ap (λ z. 0xcc ∷ z) bytes ∙ ap (λ z. z ∷ a ∷ []) q)
  short_node _ (u16 x y) t =
      let n : ℕ = a * 0x100 + b in
      let u = two n (omega arith) in
      let q : 0xcd ≡ m = omega arith in
      wide (Whole (pos n)) m (a ∷ b ∷ []) (c ∷ d ∷ e ∷ f ∷ g ∷ h ∷ r) (fits_pos n (omega (arith, l1, l2))) refl refl
      (canon_16 n (omega (arith, t, l1, l2, l3, l4)) u.0 ∙ ap (λ z. 0xcd ∷ z) u.1 ∙ ap (λ z. z ∷ a ∷ b ∷ []) q)
  short_node _ (u32 x y) t =
      let n : ℕ = high in
      let u = four n (omega arith) in
      let q : 0xce ≡ m = omega arith in
      wide (Whole (pos n)) m (a ∷ b ∷ c ∷ d ∷ []) (e ∷ f ∷ g ∷ h ∷ r) (fits_pos n (omega (arith, l1, l2, l3, l4))) refl refl
      (canon_32 n (omega (arith, t, l1, l2, l3, l4)) u.0 ∙ ap (λ z. 0xce ∷ z) u.1 ∙ ap (λ z. z ∷ a ∷ b ∷ c ∷ d ∷ []) q)
  short_node _ (u64 x y) t =
      let n : ℕ = high * 0x100000000 + low in
      let u = eight n (omega arith) in
      let q : 0xcf ≡ m = omega arith in
      wide (Whole (pos n)) m (a ∷ b ∷ c ∷ d ∷ e ∷ f ∷ g ∷ h ∷ []) r (fits_pos n u.0) refl refl
      (canon_64 n (omega (arith, t, l1, l2, l3, l4)) ∙ ap (λ z. 0xcf ∷ z) u.1 ∙ ap (λ z. z ∷ a ∷ b ∷ c ∷ d ∷ e ∷ f ∷ g ∷ h ∷ []) q)
  short_node _ (i8 x y) t =
      let q : 0xd0 ≡ m = omega arith in
      let v : a % 256 ≡ a = omega (arith, l1) in
      let bytes : to_be_bytes w8 a ≡ a ∷ [] = ap (λ z. z ∷ []) v in
      let k : ℕ = 0xff - a in
      wide (Whole (negsuc k)) m (a ∷ []) (b ∷ c ∷ d ∷ e ∷ f ∷ g ∷ h ∷ r) (fits_neg k (omega arith)) refl refl
      (canon_s8 k (omega (arith, t, l1, l2, l3, l4)) (omega (arith, t, l1, l2, l3, l4)) ∙ ap (λ z. 0xd0 ∷ to_be_bytes w8 z) (back_8 a l1)
      ∙ ap (λ z. 0xd0 ∷ z) bytes ∙ ap (λ z. z ∷ a ∷ []) q)
  short_node _ (i16 x y) t =
      let n : ℕ = a * 0x100 + b in
      let u = two n (omega arith) in
      let q : 0xd1 ≡ m = omega arith in
      let k : ℕ = 0xffff - n in
      wide (Whole (negsuc k)) m (a ∷ b ∷ []) (c ∷ d ∷ e ∷ f ∷ g ∷ h ∷ r) (fits_neg k (omega arith)) refl refl
      (canon_s16 k (omega (arith, t, l1, l2, l3, l4)) (omega (arith, t, l1, l2, l3, l4)) ∙ ap (λ z. 0xd1 ∷ to_be_bytes w16 z) (back_16 n u.0)
      ∙ ap (λ z. 0xd1 ∷ z) u.1 ∙ ap (λ z. z ∷ a ∷ b ∷ []) q)
  short_node _ (i32 x y) t =
      let n : ℕ = high in
      let u = four n (omega arith) in
      let q : 0xd2 ≡ m = omega arith in
      let k : ℕ = 0xffffffff - n in
      wide (Whole (negsuc k)) m (a ∷ b ∷ c ∷ d ∷ []) (e ∷ f ∷ g ∷ h ∷ r) (fits_neg k (omega arith)) refl refl
      (canon_s32 k (omega (arith, t, l1, l2, l3, l4)) (omega (arith, t, l1, l2, l3, l4)) ∙ ap (λ z. 0xd2 ∷ to_be_bytes w32 z) (back_32 n u.0)
      ∙ ap (λ z. 0xd2 ∷ z) u.1 ∙ ap (λ z. z ∷ a ∷ b ∷ c ∷ d ∷ []) q)
  short_node _ (i64 x y) t =
      let n : ℕ = high * 0x100000000 + low in
      let u = eight n (omega arith) in
      let q : 0xd3 ≡ m = omega arith in
      let k : ℕ = 0xffffffffffffffff - n in
      wide (Whole (negsuc k)) m (a ∷ b ∷ c ∷ d ∷ e ∷ f ∷ g ∷ h ∷ []) r (fits_neg k (omega (arith, t, l1, l2, l3, l4))) refl refl
      (canon_s64 k (omega (arith, t, l1, l2, l3, l4, l5, l6, l7, l8)) ∙ ap (λ z. 0xd3 ∷ to_be_bytes w64 z) (back_64 n u.0) ∙ ap (λ z. 0xd3 ∷ z) u.1
      ∙ ap (λ z. z ∷ a ∷ b ∷ c ∷ d ∷ e ∷ f ∷ g ∷ h ∷ []) q)
  short_node _ (negative x y) t = one (Whole (negsuc (0xff - m))) m 0 (a ∷ b ∷ c ∷ d ∷ e ∷ f ∷ g ∷ h ∷ r) (fits_neg (0xff - m) (omega arith)) refl refl
      (negative_is m x y)

-- ---- nodes in a row

pub entry_small : (m : ℕ) (es : List ℕ) → Entry m es → (get_or es 2 0 ≤ 32) × (get_or es 3 0 ≤ 30)
entry_small m _ (small x y) = (omega arith, omega arith)
entry_small m _ (short_map x y) = (omega arith, omega arith)
entry_small m _ (short_array x y) = (omega arith, omega arith)
entry_small m _ (short_text x y) = (omega arith, omega arith)
entry_small m _ (is_nil x y) = (omega arith, omega arith)
entry_small m _ (is_false x y) = (omega arith, omega arith)
entry_small m _ (is_true x y) = (omega arith, omega arith)
entry_small m _ (f32 x y) = (omega arith, omega arith)
entry_small m _ (f64 x y) = (omega arith, omega arith)
entry_small m _ (u8 x y) = (omega arith, omega arith)
entry_small m _ (u16 x y) = (omega arith, omega arith)
entry_small m _ (u32 x y) = (omega arith, omega arith)
entry_small m _ (u64 x y) = (omega arith, omega arith)
entry_small m _ (i8 x y) = (omega arith, omega arith)
entry_small m _ (i16 x y) = (omega arith, omega arith)
entry_small m _ (i32 x y) = (omega arith, omega arith)
entry_small m _ (i64 x y) = (omega arith, omega arith)
entry_small m _ (negative x y) = (omega arith, omega arith)
entry_small m _ other = (omega arith, omega arith)

-- the first nine of a list
record Nine (xs : List ℕ) : Type 0 where
  pub m : ℕ
  pub a : ℕ
  pub b : ℕ
  pub c : ℕ
  pub d : ℕ
  pub e : ℕ
  pub f : ℕ
  pub g : ℕ
  pub h : ℕ
  pub r : List ℕ
  pub is : xs ≡ m ∷ a ∷ b ∷ c ∷ d ∷ e ∷ f ∷ g ∷ h ∷ r

record Three (xs : List ℕ) : Type 0 where
  pub a : ℕ
  pub b : ℕ
  pub c : ℕ
  pub r : List ℕ
  pub is : xs ≡ a ∷ b ∷ c ∷ r

three : (xs : List ℕ) → 3 ≤ length xs → Three xs
three [] l = absurd (omega arith)
three (a ∷ []) l = absurd (omega arith)
three (a ∷ b ∷ []) l = absurd (omega arith)
three (a ∷ b ∷ c ∷ r) l = record { a = a; b = b; c = c; r = r; is = refl }

nine : (xs : List ℕ) → 9 ≤ length xs → Nine xs
nine xs l =
    let p = three xs (omega arith) in
    let pl = ap length p.is in
    let q = three p.r (omega (arith, pl)) in
    let ql = ap length q.is in
    let t = three q.r (omega (arith, pl, ql)) in
    record {
      m = p.a;
      a = p.b;
      b = p.c;
      c = q.a;
      d = q.b;
      e = q.c;
      f = t.a;
      g = t.b;
      h = t.c;
      r = t.r;
      is = cc (p.is, q.is, t.is);
    }

-- the bytes begin with a node
front_node : (ys : List ℕ) (next added least size parts : ℕ) → 32 ≤ length ys → ((i : ℕ) → get_or ys i 0 < 256)
    → next ≡ word (get_or ys 1 0) (get_or ys 2 0) (get_or ys 3 0) (get_or ys 4 0) → entry (get_or ys 0 0) ≡ added ∷ least ∷ size ∷ parts ∷ []
    → least ≤ (next + added) % 2 ^ 64
    → TakesNode ys (drop size ys) parts
front_node ys next added least size parts l b n e t =
    let v = nine ys (omega arith) in
    let bytes = subst IsBytes v.is (bytes_from ys b) in
    let long = subst (λ z. 32 ≤ length z) v.is l in
    let first : get_or ys 0 0 ≡ v.m = ap (λ z. get_or z 0 0) v.is in
    let entered : Entry v.m (added ∷ least ∷ size ∷ parts ∷ []) = subst (Entry v.m) (ap entry (sym first) ∙ e) (entry_is v.m bytes.0) in
    let same : next ≡ word v.a v.b v.c v.d = n ∙ ap (λ z. word (get_or z 1 0) (get_or z 2 0) (get_or z 3 0) (get_or z 4 0)) v.is in
    let tested = subst (λ z. least ≤ (z + added) % 2 ^ 64) same t in
    subst (λ z. TakesNode z (drop size z) parts) (sym v.is)
    (short_node v.m v.a v.b v.c v.d v.e v.f v.g v.h v.r bytes long (added ∷ least ∷ size ∷ parts ∷ []) entered tested)

-- one more node
pub nodes_more : (bytes : List ℕ) (at n before next added least size parts : ℕ) → TakesNodes n before bytes (drop at bytes) → at + 32 ≤ length bytes
    → ((i : ℕ) → get_or bytes i 0 < 256)
    → next ≡ word (get_or bytes (at + 1) 0) (get_or bytes (at + 2) 0) (get_or bytes (at + 3) 0) (get_or bytes (at + 4) 0)
    → entry (get_or bytes at 0) ≡ added ∷ least ∷ size ∷ parts ∷ [] → least ≤ (next + added) % 2 ^ 64
    → TakesNodes (n + 1) (before + parts) bytes (drop (at + size) bytes)
nodes_more bytes at n before next added least size parts t l b w e test =
    let ys : List ℕ = drop at bytes in
    let long : 32 ≤ length ys = omega (arith, length-drop at bytes) in
    let here : (i : ℕ) → get_or ys i 0 ≡ get_or bytes (at + i) 0 = λ i. get_or-drop at bytes i 0 in
    let zero_more : at + 0 ≡ at = omega arith in
    let first : get_or ys 0 0 ≡ get_or bytes at 0 = here 0 ∙ ap (λ z. get_or bytes z 0) zero_more in
    let same : next ≡ word (get_or ys 1 0) (get_or ys 2 0) (get_or ys 3 0) (get_or ys 4 0) = w
    ∙ (λ i. word (sym (here 1) i) (sym (here 2) i) (sym (here 3) i) (sym (here 4) i)) in
    let node = front_node ys next added least size parts long (λ i. rw here (b (at + i))) same (ap entry first ∙ e) test in
    let moved = subst (λ z. TakesNode ys z parts) (drop-drop size at bytes) node in
    let count : suc n ≡ n + 1 = omega arith in
    subst (λ z. TakesNodes z (before + parts) bytes (drop (at + size) bytes)) count (ys, before, parts, t, moved, refl)

-- one more small number
pub small_more : (bytes : List ℕ) (at n before : ℕ) → TakesNodes n before bytes (drop at bytes) → at < length bytes → get_or bytes at 0 < 128
    → TakesNodes (n + 1) before bytes (drop (at + 1) bytes)
small_more bytes at n before t l b =
    let split : drop at bytes ≡ get_or bytes at 0 ∷ drop (suc at) bytes = drop-cons bytes at 0 l in
    let next : suc at ≡ at + 1 = omega arith in
    let m : ℕ = get_or bytes at 0 in
    let node = one (Whole (pos m)) m 0 (drop (suc at) bytes) (fits_pos m (omega (arith, b))) refl refl (small_is m b) in
    let here = subst (λ z. TakesNode z (drop (suc at) bytes) 0) (sym split) node in
    let moved = subst (λ z. TakesNode (drop at bytes) (drop z bytes) 0) next here in
    let count : suc n ≡ n + 1 = omega arith in
    subst (λ z. TakesNodes z before bytes (drop (at + 1) bytes)) count (drop at bytes, before, 0, t, moved, omega arith)

pub entry_bounds : (m added least size parts : ℕ) → m < 256 → entry m ≡ added ∷ least ∷ size ∷ parts ∷ [] → (size ≤ 32) × (parts ≤ 30)
entry_bounds m added least size parts l e = entry_small m (added ∷ least ∷ size ∷ parts ∷ []) (subst (Entry m) e (entry_is m l))
