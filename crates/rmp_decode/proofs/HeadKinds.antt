-- Heads of any kind but an extension that are buffered whole.
use Rattle.std.proofs.Common.{◌≡◌, ◌∙◌, sym, ap, subst, refl, rules, arith, ℕ, suc, ◌+◌, ◌-◌, ◌*◌, ◌%◌, ◌^◌, ◌<◌, ◌≤◌, pos, inl, inr, List, [], ◌∷◌}
use Rattle.std.proofs.Common.{◌++◌, length, get_or, Bool, true, false, nat_lt, le-ltb, lt-ltb}
use Rattle.std.proofs.lemmas.Int.{ints, to_z-of_z}
use Rattle.std.proofs.lemmas.Nat.{be_bytes_2, be_bytes_4, be_bytes_8}
use Rattle.std.specs.Int.{Width, w8, w16, w32, w64, to_be_bytes, cast_signed}
use Rattle.std.specs.Prelude.{FitsSigned, ℤ, negsuc, ◌<ℤ◌}
use mir.Val.{bits, to_z, of_z}
use Rattle.rmp_wire.proofs.Taken.{signed_made, signed_head, fits_signed}
use Rattle.rmp_wire.proofs.HeadReads.{widened}
use Rattle.rmp_wire.specs.declared.head.Head.{Head}
use Rattle.rmp_wire.specs.declared.head.Head.TheVariants.{Nil, Whole, Text, Bin, Array, Map, Truth, F32Bits, F64Bits}
use Rattle.rmp_wire.specs.Canonical.{Opens, heads_of}
use Rattle.rmp_wire.specs.Heads.{IsHead, canon_head}
use Rattle.rmp_wire.proofs.Strict.{test_passed}
use Rattle.rmp_wire.specs.Taking.{marker_of}
use Rattle.rmp_decode.specs.BufferedHeads.{HeadIn}
use Rattle.rmp_decode.proofs.BufferedHeads.{following, after_is, text_held, list_held}

-- ---- heads of any kind with a number after the first byte

any_wide : (w : Width) (h : Head) (x n : ℕ) (bs rest : List ℕ) → to_be_bytes w n ≡ bs → IsHead h (x ∷ to_be_bytes w n)
    → HeadIn false (length (x ∷ bs)) h (x ∷ (bs ++ rest))
any_wide w h x n bs rest e i = record {
  marker = marker_of x;
  starts = record { byte = x; following = bs; rest = rest; front = refl; is_marker = refl; is_head = subst (λ b. IsHead h (x ∷ b)) e i };
  long = refl;
}

-- a head of one byte
pub alone_starts : (h : Head) (xs : List ℕ) → 1 ≤ length xs → IsHead h (get_or xs 0 0 ∷ []) → HeadIn false 1 h xs
alone_starts h [] l i = absurd (omega arith)
alone_starts h (x ∷ xs) l i = record {
  marker = marker_of x;
  starts = record { byte = x; following = []; rest = xs; front = refl; is_marker = refl; is_head = i };
  long = refl;
}

any_eight : (h : Head) (x n : ℕ) (ys : List ℕ) → 1 ≤ length ys → n ≡ get_or ys 0 0 → n < 256 → (n < 256 → IsHead h (x ∷ to_be_bytes w8 n))
    → HeadIn false 2 h (x ∷ ys)
any_eight h x n [] l s b i = absurd (omega arith)
any_eight h x n (a ∷ ys) l s b i =
    let low : n % 256 ≡ a = omega arith in
    any_wide w8 h x n (a ∷ []) ys (ap (λ t. t ∷ []) low) (i b)

pub any_8 : (h : Head) (xs : List ℕ) (n : ℕ) → 1 ≤ length xs → 1 ≤ length (following xs) → n ≡ get_or (following xs) 0 0 → ((i : ℕ) → get_or xs i 0 < 256)
    → (n < 2 ^ 8 → IsHead h (get_or xs 0 0 ∷ to_be_bytes w8 n)) → HeadIn false 2 h xs
any_8 h [] n l m s f i = absurd (omega arith)
any_8 h (x ∷ ys) n l m s f i = any_eight h x n ys (rw (after_is x ys) at m) (rw (after_is x ys) at s) (omega (arith, s, rw (after_is x ys) at s, f 1)) i

any_sixteen : (h : Head) (x n : ℕ) (ys : List ℕ) → 2 ≤ length ys → n ≡ get_or ys 0 0 * 256 + get_or ys 1 0 → ((i : ℕ) → get_or ys i 0 < 256)
    → (n < 2 ^ 16 → IsHead h (x ∷ to_be_bytes w16 n)) → HeadIn false 3 h (x ∷ ys)
any_sixteen h x n [] l s f i = absurd (omega arith)
any_sixteen h x n (a ∷ []) l s f i = absurd (omega arith)
any_sixteen h x n (a ∷ b ∷ ys) l s f i =
    let high : a < 256 = f 0 in
    let low : b < 256 = f 1 in
    any_wide w16 h x n (a ∷ b ∷ []) ys (be_bytes_2 (a ∷ b ∷ []) n refl (λ i. search rules) (omega arith)) (i (omega arith))

pub any_16 : (h : Head) (xs : List ℕ) (n : ℕ) → 1 ≤ length xs → 2 ≤ length (following xs) → n ≡ get_or (following xs) 0 0 * 256 + get_or (following xs) 1 0
    → ((i : ℕ) → get_or xs i 0 < 256) → (n < 2 ^ 16 → IsHead h (get_or xs 0 0 ∷ to_be_bytes w16 n)) → HeadIn false 3 h xs
any_16 h [] n l m s f i = absurd (omega arith)
any_16 h (x ∷ ys) n l m s f i = any_sixteen h x n ys (rw (after_is x ys) at m) (rw (after_is x ys) at s) (λ i. f (suc i)) i

any_thirty_two : (h : Head) (x n : ℕ) (ys : List ℕ) → 4 ≤ length ys
    → n ≡ get_or ys 0 0 * 0x1000000 + get_or ys 1 0 * 0x10000 + get_or ys 2 0 * 0x100 + get_or ys 3 0 → ((i : ℕ) → get_or ys i 0 < 256)
    → (n < 2 ^ 32 → IsHead h (x ∷ to_be_bytes w32 n)) → HeadIn false 5 h (x ∷ ys)
any_thirty_two h x n [] l s f i = absurd (omega arith)
any_thirty_two h x n (a ∷ []) l s f i = absurd (omega arith)
any_thirty_two h x n (a ∷ b ∷ []) l s f i = absurd (omega arith)
any_thirty_two h x n (a ∷ b ∷ c ∷ []) l s f i = absurd (omega arith)
any_thirty_two h x n (a ∷ b ∷ c ∷ d ∷ ys) l s f i =
    let p : a < 256 = f 0 in
    let q : b < 256 = f 1 in
    let r : c < 256 = f 2 in
    let t : d < 256 = f 3 in
    any_wide w32 h x n (a ∷ b ∷ c ∷ d ∷ []) ys (be_bytes_4 (a ∷ b ∷ c ∷ d ∷ []) n refl (λ i. search rules) (omega arith)) (i (omega arith))

pub any_32 : (h : Head) (xs : List ℕ) (n : ℕ) → 1 ≤ length xs → 4 ≤ length (following xs)
    → n ≡ get_or (following xs) 0 0 * 0x1000000 + get_or (following xs) 1 0 * 0x10000 + get_or (following xs) 2 0 * 0x100 + get_or (following xs) 3 0
    → ((i : ℕ) → get_or xs i 0 < 256) → (n < 2 ^ 32 → IsHead h (get_or xs 0 0 ∷ to_be_bytes w32 n)) → HeadIn false 5 h xs
any_32 h [] n l m s f i = absurd (omega arith)
any_32 h (x ∷ ys) n l m s f i = any_thirty_two h x n ys (rw (after_is x ys) at m) (rw (after_is x ys) at s) (λ i. f (suc i)) i

any_sixty_four : (h : Head) (x n : ℕ) (ys : List ℕ) → 8 ≤ length ys
    → n ≡ get_or ys 0 0 * 0x100000000000000 + get_or ys 1 0 * 0x1000000000000 + get_or ys 2 0 * 0x10000000000 + get_or ys 3 0 * 0x100000000 + get_or ys 4 0
    * 0x1000000 + get_or ys 5 0 * 0x10000 + get_or ys 6 0 * 0x100 + get_or ys 7 0
    → ((i : ℕ) → get_or ys i 0 < 256) → IsHead h (x ∷ to_be_bytes w64 n) → HeadIn false 9 h (x ∷ ys)
any_sixty_four h x n [] l s f i = absurd (omega arith)
any_sixty_four h x n (a ∷ []) l s f i = absurd (omega arith)
any_sixty_four h x n (a ∷ b ∷ []) l s f i = absurd (omega arith)
any_sixty_four h x n (a ∷ b ∷ c ∷ []) l s f i = absurd (omega arith)
any_sixty_four h x n (a ∷ b ∷ c ∷ d ∷ []) l s f i = absurd (omega arith)
any_sixty_four h x n (a ∷ b ∷ c ∷ d ∷ j ∷ []) l s f i = absurd (omega arith)
any_sixty_four h x n (a ∷ b ∷ c ∷ d ∷ j ∷ k ∷ []) l s f i = absurd (omega arith)
any_sixty_four h x n (a ∷ b ∷ c ∷ d ∷ j ∷ k ∷ m ∷ []) l s f i = absurd (omega arith)
any_sixty_four h x n (a ∷ b ∷ c ∷ d ∷ j ∷ k ∷ m ∷ o ∷ ys) l s f i =
    let f0 : a < 256 = f 0 in
    let f1 : b < 256 = f 1 in
    let f2 : c < 256 = f 2 in
    let f3 : d < 256 = f 3 in
    let f4 : j < 256 = f 4 in
    let f5 : k < 256 = f 5 in
    let f6 : m < 256 = f 6 in
    let f7 : o < 256 = f 7 in
    let bs : List ℕ = a ∷ b ∷ c ∷ d ∷ j ∷ k ∷ m ∷ o ∷ [] in
    any_wide w64 h x n bs ys (be_bytes_8 bs n refl (λ i. search rules) (omega arith)) i

pub any_64 : (h : Head) (xs : List ℕ) (n : ℕ) → 1 ≤ length xs → 8 ≤ length (following xs)
    → n ≡ get_or (following xs) 0 0 * 0x100000000000000 + get_or (following xs) 1 0 * 0x1000000000000 + get_or (following xs) 2 0 * 0x10000000000 + get_or
    (following xs) 3 0 * 0x100000000 + get_or (following xs) 4 0 * 0x1000000 + get_or (following xs) 5 0 * 0x10000 + get_or (following xs) 6 0 * 0x100 + get_or
    (following xs) 7 0
    → ((i : ℕ) → get_or xs i 0 < 256) → IsHead h (get_or xs 0 0 ∷ to_be_bytes w64 n) → HeadIn false 9 h xs
any_64 h [] n l m s f i = absurd (omega arith)
any_64 h (x ∷ ys) n l m s f i = any_sixty_four h x n ys (rw (after_is x ys) at m) (rw (after_is x ys) at s) (λ i. f (suc i)) i

-- ---- numbers with a sign, as code stores them

-- a number that was stored in 64 bits
stored : (k : ℕ) (v z : ℤ) (xs : List ℕ) → v ≡ z → FitsSigned w64 z → HeadIn false k (Whole z) xs → HeadIn false k (Whole (to_z w64 (of_z w64 v))) xs
stored k v z xs e f s = subst (λ t. HeadIn false k (Whole t) xs) (sym (ap (λ t. to_z w64 (of_z w64 t)) e ∙ to_z-of_z w64 z f)) s

abbrev FitsIn64 : Width → Type 0
FitsIn64 w = (n : ℕ) → n < 2 ^ bits w → FitsSigned w64 (cast_signed w n)

in64_8 : FitsIn64 w8
in64_8 n h = grind (arith, ints)

in64_16 : FitsIn64 w16
in64_16 n h = grind (arith, ints)

in64_32 : FitsIn64 w32
in64_32 n h = grind (arith, ints)

pub signed_8 : (xs : List ℕ) (n : ℕ) (v u : ℤ) → 1 ≤ length xs → get_or xs 0 0 ≡ 0xd0 → 1 ≤ length (following xs) → n ≡ get_or (following xs) 0 0
    → ((i : ℕ) → get_or xs i 0 < 256) → n < 2 ^ 8 → v ≡ to_z w8 (of_z w8 u) → u ≡ to_z w8 n → HeadIn false 2 (Whole (to_z w64 (of_z w64 v))) xs
signed_8 xs n v u l e m s f b c d =
    stored 2 v (cast_signed w8 n) xs (widened w8 v u n c d (fits_signed w8 n b)) (in64_8 n b)
    (any_8 (Whole (cast_signed w8 n)) xs n l m s f (λ b. subst (λ k. IsHead (Whole (cast_signed w8 n)) (k ∷ to_be_bytes w8 n)) (sym e)
    (signed_head (cast_signed w8 n) _ (inl (signed_made 0xd0 w8 n b)))))

pub signed_16 : (xs : List ℕ) (n : ℕ) (v u : ℤ) → 1 ≤ length xs → get_or xs 0 0 ≡ 0xd1 → 2 ≤ length (following xs)
    → n ≡ get_or (following xs) 0 0 * 256 + get_or (following xs) 1 0 → ((i : ℕ) → get_or xs i 0 < 256) → n < 2 ^ 16 → v ≡ to_z w16 (of_z w16 u) → u ≡ to_z w16 n
    → HeadIn false 3 (Whole (to_z w64 (of_z w64 v))) xs
signed_16 xs n v u l e m s f b c d =
    stored 3 v (cast_signed w16 n) xs (widened w16 v u n c d (fits_signed w16 n b)) (in64_16 n b)
    (any_16 (Whole (cast_signed w16 n)) xs n l m s f (λ b. subst (λ k. IsHead (Whole (cast_signed w16 n)) (k ∷ to_be_bytes w16 n)) (sym e)
    (signed_head (cast_signed w16 n) _ (inr (inl (signed_made 0xd1 w16 n b))))))

pub signed_32 : (xs : List ℕ) (n : ℕ) (v u : ℤ) → 1 ≤ length xs → get_or xs 0 0 ≡ 0xd2 → 4 ≤ length (following xs)
    → n ≡ get_or (following xs) 0 0 * 0x1000000 + get_or (following xs) 1 0 * 0x10000 + get_or (following xs) 2 0 * 0x100 + get_or (following xs) 3 0
    → ((i : ℕ) → get_or xs i 0 < 256) → n < 2 ^ 32
    → v ≡ to_z w32 (of_z w32 u) → u ≡ to_z w32 n → HeadIn false 5 (Whole (to_z w64 (of_z w64 v))) xs
signed_32 xs n v u l e m s f b c d =
    stored 5 v (cast_signed w32 n) xs (widened w32 v u n c d (fits_signed w32 n b)) (in64_32 n b)
    (any_32 (Whole (cast_signed w32 n)) xs n l m s f (λ b. subst (λ k. IsHead (Whole (cast_signed w32 n)) (k ∷ to_be_bytes w32 n)) (sym e)
    (signed_head (cast_signed w32 n) _ (inr (inr (inl (signed_made 0xd2 w32 n b)))))))

pub signed_64 : (xs : List ℕ) (n : ℕ) (v : ℤ) → 1 ≤ length xs → get_or xs 0 0 ≡ 0xd3 → 8 ≤ length (following xs)
    → n ≡ get_or (following xs) 0 0 * 0x100000000000000 + get_or (following xs) 1 0 * 0x1000000000000 + get_or (following xs) 2 0 * 0x10000000000 + get_or
    (following xs) 3 0 * 0x100000000 + get_or (following xs) 4 0 * 0x1000000 + get_or (following xs) 5 0 * 0x10000 + get_or (following xs) 6 0 * 0x100 + get_or
    (following xs) 7 0
    → ((i : ℕ) → get_or xs i 0 < 256) → n < 2 ^ 64 → v ≡ to_z w64 n → HeadIn false 9 (Whole (to_z w64 (of_z w64 v))) xs
signed_64 xs n v l e m s f b d =
    stored 9 v (cast_signed w64 n) xs d (fits_signed w64 n b)
    (any_64 (Whole (cast_signed w64 n)) xs n l m s f (subst (λ k. IsHead (Whole (cast_signed w64 n)) (k ∷ to_be_bytes w64 n)) (sym e)
    (signed_head (cast_signed w64 n) _ (inr (inr (inr (signed_made 0xd3 w64 n b)))))))

negative_byte : (x : ℕ) → 0xe0 ≤ x → x < 256 → cast_signed w8 x ≡ negsuc (0xff - x)
negative_byte x l h = grind (arith, ints)

negative_head : (x : ℕ) → 0xe0 ≤ x → x < 256 → IsHead (Whole (cast_signed w8 x)) (x ∷ [])
unfolding IsHead
negative_head x l h = rw (negative_byte x l h) (inl (omega arith, ap (λ t. t ∷ []) (omega arith)))

pub negative_starts : (xs : List ℕ) (v u : ℤ) → 1 ≤ length xs → 0xe0 ≤ get_or xs 0 0 → get_or xs 0 0 < 256 → v ≡ to_z w8 (of_z w8 u)
    → u ≡ to_z w8 (get_or xs 0 0) → HeadIn false 1 (Whole (to_z w64 (of_z w64 v))) xs
negative_starts xs v u l e b c d =
    let n : ℕ = get_or xs 0 0 in
    stored 1 v (cast_signed w8 n) xs (widened w8 v u n c d (fits_signed w8 n b)) (in64_8 n b)
    (alone_starts (Whole (cast_signed w8 n)) xs l (negative_head n e b))

-- ---- truths and floats

truth_head : (t : Bool) (x : ℕ) → (t ≡ false → x ≡ 0xc2) → (t ≡ true → x ≡ 0xc3) → IsHead (Truth t) (x ∷ [])
unfolding IsHead
truth_head false x f t = ap (λ k. k ∷ []) (f refl)
truth_head true x f t = ap (λ k. k ∷ []) (t refl)

pub false_starts : (xs : List ℕ) → 1 ≤ length xs → get_or xs 0 0 ≡ 0xc2 → HeadIn false 1 (Truth false) xs
false_starts xs l e = alone_starts (Truth false) xs l (truth_head false _ (λ _. e) (λ q. absurd cc))

pub true_starts : (xs : List ℕ) → 1 ≤ length xs → get_or xs 0 0 ≡ 0xc3 → HeadIn false 1 (Truth true) xs
true_starts xs l e = alone_starts (Truth true) xs l (truth_head true _ (λ q. absurd cc) (λ _. e))

f32_head : (x n : ℕ) → x ≡ 0xca → n < 2 ^ 32 → IsHead (F32Bits n) (x ∷ to_be_bytes w32 n)
unfolding IsHead
f32_head x n e b = (b, ap (λ t. t ∷ to_be_bytes w32 n) e)

f64_head : (x n : ℕ) → x ≡ 0xcb → n < 2 ^ 64 → IsHead (F64Bits n) (x ∷ to_be_bytes w64 n)
unfolding IsHead
f64_head x n e b = (b, ap (λ t. t ∷ to_be_bytes w64 n) e)

pub f32_starts : (xs : List ℕ) (n : ℕ) → 1 ≤ length xs → get_or xs 0 0 ≡ 0xca → 4 ≤ length (following xs)
    → n ≡ get_or (following xs) 0 0 * 0x1000000 + get_or (following xs) 1 0 * 0x10000 + get_or (following xs) 2 0 * 0x100 + get_or (following xs) 3 0
    → ((i : ℕ) → get_or xs i 0 < 256)
    → HeadIn false 5 (F32Bits n) xs
f32_starts xs n l e m s f = any_32 (F32Bits n) xs n l m s f (λ b. f32_head _ n e b)

pub f64_starts : (xs : List ℕ) (n : ℕ) → 1 ≤ length xs → get_or xs 0 0 ≡ 0xcb → 8 ≤ length (following xs) → n < 2 ^ 64
    → n ≡ get_or (following xs) 0 0 * 0x100000000000000 + get_or (following xs) 1 0 * 0x1000000000000 + get_or (following xs) 2 0 * 0x10000000000 + get_or
    (following xs) 3 0 * 0x100000000 + get_or (following xs) 4 0 * 0x1000000 + get_or (following xs) 5 0 * 0x10000 + get_or (following xs) 6 0 * 0x100 + get_or
    (following xs) 7 0
    → ((i : ℕ) → get_or xs i 0 < 256) → HeadIn false 9 (F64Bits n) xs
f64_starts xs n l e m b s f = any_64 (F64Bits n) xs n l m s f (f64_head _ n e b)

-- ---- any head at the front

kind_8 : (make : ℕ → Head) (b : ℕ) → ((n : ℕ) → n < 2 ^ 8 → IsHead (make n) (b ∷ to_be_bytes w8 n)) → (xs : List ℕ) (n : ℕ) → 1 ≤ length xs
    → get_or xs 0 0 ≡ b → 1 ≤ length (following xs) → n ≡ get_or (following xs) 0 0 → ((i : ℕ) → get_or xs i 0 < 256) → HeadIn false 2 (make n) xs
kind_8 make b p xs n l e m s f = any_8 (make n) xs n l m s f (λ k. subst (λ t. IsHead (make n) (t ∷ to_be_bytes w8 n)) (sym e) (p n k))

kind_16 : (make : ℕ → Head) (b : ℕ) → ((n : ℕ) → n < 2 ^ 16 → IsHead (make n) (b ∷ to_be_bytes w16 n)) → (xs : List ℕ) (n : ℕ) → 1 ≤ length xs
    → get_or xs 0 0 ≡ b → 2 ≤ length (following xs) → n ≡ get_or (following xs) 0 0 * 256 + get_or (following xs) 1 0 → ((i : ℕ) → get_or xs i 0 < 256)
    → HeadIn false 3 (make n) xs
kind_16 make b p xs n l e m s f = any_16 (make n) xs n l m s f (λ k. subst (λ t. IsHead (make n) (t ∷ to_be_bytes w16 n)) (sym e) (p n k))

pub kind_32 : (make : ℕ → Head) (b : ℕ) → ((n : ℕ) → n < 2 ^ 32 → IsHead (make n) (b ∷ to_be_bytes w32 n)) → (xs : List ℕ) (n : ℕ) → 1 ≤ length xs
    → get_or xs 0 0 ≡ b → 4 ≤ length (following xs)
    → n ≡ get_or (following xs) 0 0 * 0x1000000 + get_or (following xs) 1 0 * 0x10000 + get_or (following xs) 2 0 * 0x100 + get_or (following xs) 3 0
    → ((i : ℕ) → get_or xs i 0 < 256) → HeadIn false 5 (make n) xs
kind_32 make b p xs n l e m s f = any_32 (make n) xs n l m s f (λ k. subst (λ t. IsHead (make n) (t ∷ to_be_bytes w32 n)) (sym e) (p n k))

pub text_w8 : (n : ℕ) → n < 2 ^ 8 → IsHead (Text n) (0xd9 ∷ to_be_bytes w8 n)
unfolding IsHead
text_w8 n h = inr (inl (h, refl))

pub text_w16 : (n : ℕ) → n < 2 ^ 16 → IsHead (Text n) (0xda ∷ to_be_bytes w16 n)
unfolding IsHead
text_w16 n h = inr (inr (inl (h, refl)))

pub text_w32 : (n : ℕ) → n < 2 ^ 32 → IsHead (Text n) (0xdb ∷ to_be_bytes w32 n)
unfolding IsHead
text_w32 n h = inr (inr (inr (h, refl)))

pub bin_w8 : (n : ℕ) → n < 2 ^ 8 → IsHead (Bin n) (0xc4 ∷ to_be_bytes w8 n)
unfolding IsHead
bin_w8 n h = inl (h, refl)

pub bin_w16 : (n : ℕ) → n < 2 ^ 16 → IsHead (Bin n) (0xc5 ∷ to_be_bytes w16 n)
unfolding IsHead
bin_w16 n h = inr (inl (h, refl))

pub bin_w32 : (n : ℕ) → n < 2 ^ 32 → IsHead (Bin n) (0xc6 ∷ to_be_bytes w32 n)
unfolding IsHead
bin_w32 n h = inr (inr (h, refl))

pub array_w16 : (n : ℕ) → n < 2 ^ 16 → IsHead (Array n) (0xdc ∷ to_be_bytes w16 n)
unfolding IsHead
array_w16 n h = inr (inl (h, refl))

pub array_w32 : (n : ℕ) → n < 2 ^ 32 → IsHead (Array n) (0xdd ∷ to_be_bytes w32 n)
unfolding IsHead
array_w32 n h = inr (inr (h, refl))

pub map_w16 : (n : ℕ) → n < 2 ^ 16 → IsHead (Map n) (0xde ∷ to_be_bytes w16 n)
unfolding IsHead
map_w16 n h = inr (inl (h, refl))

pub map_w32 : (n : ℕ) → n < 2 ^ 32 → IsHead (Map n) (0xdf ∷ to_be_bytes w32 n)
unfolding IsHead
map_w32 n h = inr (inr (h, refl))

pub of_8 : (make : ℕ → Head) (b : ℕ) → ((n : ℕ) → n < 2 ^ 8 → IsHead (make n) (b ∷ to_be_bytes w8 n)) → (xs : List ℕ) (v n : ℕ) → v ≡ n → 1 ≤ length xs
    → get_or xs 0 0 ≡ b → 1 ≤ length (following xs) → n ≡ get_or (following xs) 0 0 → ((i : ℕ) → get_or xs i 0 < 256) → HeadIn false 2 (make v) xs
of_8 make b p xs v n q l e m s f = subst (λ t. HeadIn false 2 (make t) xs) (sym q) (kind_8 make b p xs n l e m s f)

pub of_16 : (make : ℕ → Head) (b : ℕ) → ((n : ℕ) → n < 2 ^ 16 → IsHead (make n) (b ∷ to_be_bytes w16 n)) → (xs : List ℕ) (v n : ℕ) → v ≡ n → 1 ≤ length xs
    → get_or xs 0 0 ≡ b → 2 ≤ length (following xs) → n ≡ get_or (following xs) 0 0 * 256 + get_or (following xs) 1 0 → ((i : ℕ) → get_or xs i 0 < 256)
    → HeadIn false 3 (make v) xs
of_16 make b p xs v n q l e m s f = subst (λ t. HeadIn false 3 (make t) xs) (sym q) (kind_16 make b p xs n l e m s f)

-- a head of one byte that holds a count
pub list_at_first : (xs : List ℕ) (v n : ℕ) → v ≡ n → 1 ≤ length xs → 0x90 ≤ get_or xs 0 0 → get_or xs 0 0 < 0xa0 → n ≡ get_or xs 0 0 - 0x90
    → HeadIn false 1 (Array v) xs
list_at_first xs v n q l b t e = subst (λ k. HeadIn false 1 (Array k) xs) (sym q) (list_held false xs n l b t e)

pub text_at_first : (xs : List ℕ) (v n : ℕ) → v ≡ n → 1 ≤ length xs → 0xa0 ≤ get_or xs 0 0 → get_or xs 0 0 < 0xc0 → n ≡ get_or xs 0 0 - 0xa0
    → HeadIn false 1 (Text v) xs
text_at_first xs v n q l b t e = subst (λ k. HeadIn false 1 (Text k) xs) (sym q) (text_held false xs n l b t e)

map_byte : (x n : ℕ) → 0x80 ≤ x → x < 0x90 → n ≡ x - 0x80 → IsHead (Map n) (x ∷ [])
unfolding IsHead
map_byte x n b t e = let same : x ≡ 0x80 + n = omega arith in inl (omega arith, ap (λ t. t ∷ []) same)

pub map_at_first : (xs : List ℕ) (v n : ℕ) → v ≡ n → 1 ≤ length xs → 0x80 ≤ get_or xs 0 0 → get_or xs 0 0 < 0x90 → n ≡ get_or xs 0 0 - 0x80
    → HeadIn false 1 (Map v) xs
map_at_first xs v n q l b t e = subst (λ k. HeadIn false 1 (Map k) xs) (sym q) (alone_starts (Map n) xs l (map_byte _ n b t e))

nil_byte : (x : ℕ) → x ≡ 0xc0 → IsHead Nil (x ∷ [])
unfolding IsHead
nil_byte x e = ap (λ t. t ∷ []) e

pub nil_starts : (xs : List ℕ) → 1 ≤ length xs → get_or xs 0 0 ≡ 0xc0 → HeadIn false 1 Nil xs
nil_starts xs l e = alone_starts Nil xs l (nil_byte _ e)

-- ---- heads that may be read

first_of : (xs ys : List ℕ) (b : ℕ) → xs ≡ b ∷ ys → b ≡ get_or xs 0 0
first_of xs ys b e = sym (ap (λ z. get_or z 0 0) e)

-- where each head of that kind and number under this first byte may be read, the one that is there may
pub allowed_starts : (w : Bool) (n : ℕ) (h : Head) (xs : List ℕ) → ((rest : List ℕ) → IsHead h (get_or xs 0 0 ∷ rest) → heads_of w h (get_or xs 0 0 ∷ rest))
    → HeadIn false n h xs → HeadIn w n h xs
allowed_starts w n h xs a s =
    let at = s.starts in
    let first : at.byte ≡ get_or xs 0 0 = first_of xs (at.following ++ at.rest) at.byte at.front in
    record {
      marker = s.marker;
      starts = record {
        byte = at.byte;
        following = at.following;
        rest = at.rest;
        front = at.front;
        is_marker = at.is_marker;
        is_head = subst (λ b. heads_of w h (b ∷ at.following)) (sym first) (a at.following (subst (λ b. IsHead h (b ∷ at.following)) first at.is_head));
      };
      long = s.long;
    }

-- a head whose first byte opens the canonical one may
pub opened_starts : (w : Bool) (n : ℕ) (h : Head) (xs : List ℕ) → (w ≡ true → Opens (get_or xs 0 0) (canon_head h)) → HeadIn false n h xs → HeadIn w n h xs
opened_starts false n h xs o s = s
opened_starts true n h xs o s = allowed_starts true n h xs (λ rest i. test_passed h (get_or xs 0 0) rest i (o refl)) s

-- which byte opens the canonical head of a number
pub opens_8 : (b n : ℕ) → b ≡ 0xcc → 0x80 ≤ n → n < 2 ^ 8 → Opens b (canon_head (Whole (pos n)))
unfolding canon_head
opens_8 b n e l k =
    let no : nat_lt n 128 ≡ false = le-ltb n 128 l in
    let yes : nat_lt n 256 ≡ true = lt-ltb n 256 k in
    rw (no, yes) e

pub opens_16 : (b n : ℕ) → b ≡ 0xcd → 2 ^ 8 ≤ n → n < 2 ^ 16 → Opens b (canon_head (Whole (pos n)))
unfolding canon_head
opens_16 b n e l k =
    let small : nat_lt n 128 ≡ false = le-ltb n 128 (omega (arith, l)) in
    let no : nat_lt n 256 ≡ false = le-ltb n 256 l in
    let yes : nat_lt n 65536 ≡ true = lt-ltb n 65536 k in
    rw (small, no, yes) e

pub opens_32 : (b n : ℕ) → b ≡ 0xce → 2 ^ 16 ≤ n → n < 2 ^ 32 → Opens b (canon_head (Whole (pos n)))
unfolding canon_head
opens_32 b n e l k =
    let small : nat_lt n 128 ≡ false = le-ltb n 128 (omega (arith, l)) in
    let low : nat_lt n 256 ≡ false = le-ltb n 256 (omega (arith, l)) in
    let no : nat_lt n 65536 ≡ false = le-ltb n 65536 l in
    let yes : nat_lt n 4294967296 ≡ true = lt-ltb n 4294967296 k in
    rw (small, low, no, yes) e

pub opens_64 : (b n : ℕ) → b ≡ 0xcf → 2 ^ 32 ≤ n → Opens b (canon_head (Whole (pos n)))
unfolding canon_head
opens_64 b n e l =
    let small : nat_lt n 128 ≡ false = le-ltb n 128 (omega (arith, l)) in
    let low : nat_lt n 256 ≡ false = le-ltb n 256 (omega (arith, l)) in
    let middle : nat_lt n 65536 ≡ false = le-ltb n 65536 (omega (arith, l)) in
    let no : nat_lt n 4294967296 ≡ false = le-ltb n 4294967296 l in
    rw (small, low, middle, no) e

-- and of a text
pub opens_text_8 : (b n : ℕ) → b ≡ 0xd9 → 32 ≤ n → n < 2 ^ 8 → Opens b (canon_head (Text n))
unfolding canon_head
opens_text_8 b n e l k =
    let no : nat_lt n 32 ≡ false = le-ltb n 32 l in
    let yes : nat_lt n 256 ≡ true = lt-ltb n 256 k in
    rw (no, yes) e

-- and of bytes
pub opens_bin_8 : (b n : ℕ) → b ≡ 0xc4 → n < 2 ^ 8 → Opens b (canon_head (Bin n))
unfolding canon_head
opens_bin_8 b n e k = let yes : nat_lt n 256 ≡ true = lt-ltb n 256 k in rw yes e

-- and of 16 bytes
pub opens_sixteen : (b : ℕ) → b ≡ 0xc4 → Opens b (canon_head (Bin 16))
unfolding canon_head
opens_sixteen b e = e

-- and of nil
pub opens_nil : (b : ℕ) → b ≡ 0xc0 → Opens b (canon_head Nil)
unfolding canon_head
opens_nil b e = e

-- and of a truth, of the bits of a float
pub opens_false : (b : ℕ) → b ≡ 0xc2 → Opens b (canon_head (Truth false))
unfolding canon_head
opens_false b e = e

pub opens_true : (b : ℕ) → b ≡ 0xc3 → Opens b (canon_head (Truth true))
unfolding canon_head
opens_true b e = e

pub opens_f32 : (b n : ℕ) → b ≡ 0xca → Opens b (canon_head (F32Bits n))
unfolding canon_head
opens_f32 b n e = e

pub opens_f64 : (b n : ℕ) → b ≡ 0xcb → Opens b (canon_head (F64Bits n))
unfolding canon_head
opens_f64 b n e = e

-- and of a number below zero
opens_below_0 : (b : ℕ) (z : ℤ) → 0xe0 ≤ b → b < 256 → z ≡ cast_signed w8 b → Opens b (canon_head (Whole z))
unfolding canon_head
opens_below_0 b z l h e =
    let yes : nat_lt (0xff - b) 32 ≡ true = lt-ltb (0xff - b) 32 (omega arith) in
    rw (e ∙ negative_byte b l h, yes) (omega arith)

opens_below_32 : (b : ℕ) (z : ℤ) → b ≡ 0xd0 → z <ℤ negsuc 31 → FitsSigned w8 z → Opens b (canon_head (Whole z))
unfolding canon_head
opens_below_32 b (pos n) e l f = absurd (omega (arith, ints))
opens_below_32 b (negsuc n) e l f =
    let no : nat_lt n 32 ≡ false = le-ltb n 32 (omega (arith, ints)) in
    let yes : nat_lt n 128 ≡ true = lt-ltb n 128 (omega (arith, ints)) in
    rw (no, yes) e

opens_below_128 : (b : ℕ) (z : ℤ) → b ≡ 0xd1 → z <ℤ negsuc 127 → FitsSigned w16 z → Opens b (canon_head (Whole z))
unfolding canon_head
opens_below_128 b (pos n) e l f = absurd (omega (arith, ints))
opens_below_128 b (negsuc n) e l f =
    let small : nat_lt n 32 ≡ false = le-ltb n 32 (omega (arith, ints)) in
    let no : nat_lt n 128 ≡ false = le-ltb n 128 (omega (arith, ints)) in
    let yes : nat_lt n 32768 ≡ true = lt-ltb n 32768 (omega (arith, ints)) in
    rw (small, no, yes) e

opens_below_2_15 : (b : ℕ) (z : ℤ) → b ≡ 0xd2 → z <ℤ negsuc 32767 → FitsSigned w32 z → Opens b (canon_head (Whole z))
unfolding canon_head
opens_below_2_15 b (pos n) e l f = absurd (omega (arith, ints))
opens_below_2_15 b (negsuc n) e l f =
    let small : nat_lt n 32 ≡ false = le-ltb n 32 (omega (arith, ints)) in
    let low : nat_lt n 128 ≡ false = le-ltb n 128 (omega (arith, ints)) in
    let no : nat_lt n 32768 ≡ false = le-ltb n 32768 (omega (arith, ints)) in
    let yes : nat_lt n 2147483648 ≡ true = lt-ltb n 2147483648 (omega (arith, ints)) in
    rw (small, low, no, yes) e

opens_below_2_31 : (b : ℕ) (z : ℤ) → b ≡ 0xd3 → z <ℤ negsuc 2147483647 → Opens b (canon_head (Whole z))
unfolding canon_head
opens_below_2_31 b (pos n) e l = absurd (omega (arith, ints))
opens_below_2_31 b (negsuc n) e l =
    let small : nat_lt n 32 ≡ false = le-ltb n 32 (omega (arith, ints)) in
    let low : nat_lt n 128 ≡ false = le-ltb n 128 (omega (arith, ints)) in
    let middle : nat_lt n 32768 ≡ false = le-ltb n 32768 (omega (arith, ints)) in
    let no : nat_lt n 2147483648 ≡ false = le-ltb n 2147483648 (omega (arith, ints)) in
    rw (small, low, middle, no) e

-- the number of a head in a format with a sign, as code stores it
stored_is : (w : Width) (v u : ℤ) (n : ℕ) → v ≡ to_z w (of_z w u) → u ≡ to_z w n → FitsSigned w (cast_signed w n) → FitsSigned w64 (cast_signed w n)
    → to_z w64 (of_z w64 v) ≡ cast_signed w n
stored_is w v u n c d f g = ap (λ t. to_z w64 (of_z w64 t)) (widened w v u n c d f) ∙ to_z-of_z w64 (cast_signed w n) g

pub opens_negative : (b : ℕ) (v u : ℤ) → 0xe0 ≤ b → b < 256 → v ≡ to_z w8 (of_z w8 u) → u ≡ to_z w8 b
    → Opens b (canon_head (Whole (to_z w64 (of_z w64 v))))
opens_negative b v u l h c d = opens_below_0 b _ l h (stored_is w8 v u b c d (fits_signed w8 b h) (in64_8 b h))

pub opens_signed_8 : (b n : ℕ) (v u : ℤ) → b ≡ 0xd0 → n < 2 ^ 8 → v ≡ to_z w8 (of_z w8 u) → u ≡ to_z w8 n → to_z w64 (of_z w64 v) <ℤ negsuc 31
    → Opens b (canon_head (Whole (to_z w64 (of_z w64 v))))
opens_signed_8 b n v u e h c d l =
    let same : to_z w64 (of_z w64 v) ≡ cast_signed w8 n = stored_is w8 v u n c d (fits_signed w8 n h) (in64_8 n h) in
    opens_below_32 b _ e l (subst (FitsSigned w8) (sym same) (fits_signed w8 n h))

pub opens_signed_16 : (b n : ℕ) (v u : ℤ) → b ≡ 0xd1 → n < 2 ^ 16 → v ≡ to_z w16 (of_z w16 u) → u ≡ to_z w16 n → to_z w64 (of_z w64 v) <ℤ negsuc 127
    → Opens b (canon_head (Whole (to_z w64 (of_z w64 v))))
opens_signed_16 b n v u e h c d l =
    let same : to_z w64 (of_z w64 v) ≡ cast_signed w16 n = stored_is w16 v u n c d (fits_signed w16 n h) (in64_16 n h) in
    opens_below_128 b _ e l (subst (FitsSigned w16) (sym same) (fits_signed w16 n h))

pub opens_signed_32 : (b n : ℕ) (v u : ℤ) → b ≡ 0xd2 → n < 2 ^ 32 → v ≡ to_z w32 (of_z w32 u) → u ≡ to_z w32 n → to_z w64 (of_z w64 v) <ℤ negsuc 32767
    → Opens b (canon_head (Whole (to_z w64 (of_z w64 v))))
opens_signed_32 b n v u e h c d l =
    let same : to_z w64 (of_z w64 v) ≡ cast_signed w32 n = stored_is w32 v u n c d (fits_signed w32 n h) (in64_32 n h) in
    opens_below_2_15 b _ e l (subst (FitsSigned w32) (sym same) (fits_signed w32 n h))

pub opens_signed_64 : (b : ℕ) (z : ℤ) → b ≡ 0xd3 → z <ℤ negsuc 2147483647 → Opens b (canon_head (Whole z))
opens_signed_64 b z e l = opens_below_2_31 b z e l
