-- A byte, and the bytes of a number after it, the highest first: the bytes of one integer, from its lowest byte on.
use Rattle.std.proofs.Common.{◌≡◌, ◌∙◌, ap, sym, refl, ℕ, zero, suc, ◌+◌, ◌*◌, ◌/◌, ◌%◌, ◌<◌, ◌^◌, ◌∷◌, [], take, get_or, arith}
use Rattle.std.proofs.Math.Nat.{div-div-eq-div-mul, mod-lt}
use Rattle.std.proofs.lemmas.Nat.{le_bytes_4, le_bytes_8}
use Rattle.std.specs.Int.{w32, w64, w128, byte_at, bytes_high_first, to_le_bytes, to_be_bytes, swap_bytes}

byte_small : (i n : ℕ) → byte_at i n < 256
byte_small zero n = omega arith
byte_small (suc i) n = mod-lt (n / 256 ^ suc i) (omega arith)

high_small : (k n i : ℕ) → get_or (bytes_high_first k n) i 0 < 256
high_small zero n i = omega arith
high_small (suc k) n zero = byte_small k n
high_small (suc k) n (suc i) = high_small k n i

-- ---- a number whose bytes are swapped

turned_4 : (a b c d : ℕ) → d + c + b + a ≡ a + b + c + d
turned_4 a b c d = omega arith

swapped_4 : (n : ℕ) → to_le_bytes w32 (swap_bytes w32 n) ≡ to_be_bytes w32 n
swapped_4 n = le_bytes_4 (to_be_bytes w32 n) (swap_bytes w32 n) refl (high_small 4 n)
    (turned_4 (byte_at 3 n) (byte_at 2 n * 256) (byte_at 1 n * 65536) (byte_at 0 n * 16777216))

turned_8 : (a b c d e f g h : ℕ) → h + g + f + e + d + c + b + a ≡ a + b + c + d + e + f + g + h
turned_8 a b c d e f g h = omega arith

swapped_8 : (n : ℕ) → to_le_bytes w64 (swap_bytes w64 n) ≡ to_be_bytes w64 n
swapped_8 n = le_bytes_8 (to_be_bytes w64 n) (swap_bytes w64 n) refl (high_small 8 n)
    (turned_8 (byte_at 7 n) (byte_at 6 n * 256) (byte_at 5 n * 65536) (byte_at 4 n * 16777216) (byte_at 3 n * 4294967296) (byte_at 2 n * 1099511627776)
    (byte_at 1 n * 281474976710656) (byte_at 0 n * 72057594037927936))

-- ---- a byte below such a number

lowest : (m s : ℕ) → m < 256 → (m + 256 * s) % 256 ≡ m
lowest m s l = omega (arith, l)

second : (m s : ℕ) → m < 256 → (m + 256 * s) / 256 % 256 ≡ s % 256
second m s l = omega (arith, l)

later : (m s p : ℕ) → m < 256 → (m + 256 * s) / (256 * p) % 256 ≡ s / p % 256
later m s p l =
    let whole : (m + 256 * s) / 256 ≡ s = omega (arith, l) in
    ap (λ z. z % 256) (sym (div-div-eq-div-mul (m + 256 * s) 256 p) ∙ ap (λ z. z / p) whole)

pub head_4 : (m n : ℕ) → m < 256 → take 5 (to_le_bytes w64 (m + 256 * swap_bytes w32 n)) ≡ m ∷ to_be_bytes w32 n
head_4 m n l =
    let s : ℕ = swap_bytes w32 n in
    (λ i. lowest m s l i ∷ second m s l i ∷ later m s 256 l i ∷ later m s 65536 l i ∷ later m s 16777216 l i ∷ []) ∙ ap (λ z. m ∷ z) (swapped_4 n)

pub head_8 : (m n : ℕ) → m < 256 → take 9 (to_le_bytes w128 (m + 256 * swap_bytes w64 n)) ≡ m ∷ to_be_bytes w64 n
head_8 m n l =
    let s : ℕ = swap_bytes w64 n in
    (λ i. lowest m s l i ∷ second m s l i ∷ later m s 256 l i ∷ later m s 65536 l i ∷ later m s 16777216 l i ∷ later m s 4294967296 l i
    ∷ later m s 1099511627776 l i ∷ later m s 281474976710656 l i ∷ later m s 72057594037927936 l i ∷ [])
    ∙ ap (λ z. m ∷ z) (swapped_8 n)
