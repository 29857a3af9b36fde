-- Bytes in hex, block by block.
use Rattle.std.proofs.Common.{rules, ◌≡◌, ℕ, List, [], ◌∷◌, ◌++◌, ◌<◌, ◌/◌, ◌%◌, slice_index, refl, ap}
use Rattle.std.specs.Str.{IsAscii, IsUtf8}
use Rattle.std.proofs.lemmas.Str.{IsUtf8-from_ascii}
use Rattle.std.proofs.lemmas.Str.Ascii.{IsAscii-cons, IsAscii-nil}
use Rattle.hex.specs.Hex.{encode_with, encode_lower, lower_digits}
use Rattle.hex.proofs.HexLemmas.{IsAscii-encode_with}

pub digits_append : (xs ys : List ℕ) → encode_lower (xs ++ ys) ≡ encode_lower xs ++ encode_lower ys
unfolding encode_with
digits_append [] ys = refl
digits_append (b ∷ xs) ys = ap (λ s. slice_index lower_digits (b / 16) ∷ slice_index lower_digits (b % 16) ∷ s) (digits_append xs ys)

pub digits_none : encode_lower [] ≡ []
unfolding encode_with
digits_none = refl

abbrev AreLow : List ℕ → Type 0
AreLow [] = Unit {0}
AreLow (b ∷ bs) = (b < 128) × AreLow bs

low_ascii : (bs : List ℕ) → AreLow bs → IsAscii bs
low_ascii [] h = IsAscii-nil
low_ascii (b ∷ bs) h = IsAscii-cons b bs h.0 (low_ascii bs h.1)

digits_ascii : IsAscii lower_digits
digits_ascii = low_ascii lower_digits (search rules)

pub digits_utf8 : (xs : List ℕ) → IsUtf8 (encode_lower xs)
digits_utf8 xs = IsUtf8-from_ascii (encode_lower xs) (IsAscii-encode_with lower_digits xs digits_ascii)
