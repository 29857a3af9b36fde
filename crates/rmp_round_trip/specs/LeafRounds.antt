-- What leaves lower to is read as those leaves.
use Rattle.std.proofs.Common.{◌≡◌, ℕ, List, Bool, true, false, Some, refl, arith}
use Rattle.std.specs.Prelude.{◌≢◌, ◌<◌, ◌^◌, ℤ, pos, negsuc, IsUtf8, FitsSigned}
use Rattle.std.specs.Char.{IsScalar}
use Rattle.std.specs.Int.{w8, w16, w32, w64}
use Rattle.std.proofs.lemmas.Int.{ints}
use Rattle.rmp_wire.specs.Msg as msg
use Rattle.rmp_wire.specs.Msg.{Msg}
use Rattle.rmp_wire.specs.Types.{tag_of, ext_bytes}
use Rattle.rmp_wire.specs.declared.types.Ext.{Ext}
use Rattle.rmp_encode.specs.Data.{unit, truth, byte, whole, unsigned128, signed128, float32, float64, char, text, bytes, extension, lower}
use Rattle.rmp_encode.specs.Trees.{tree_of}
use Rattle.rmp_encode.specs.declared.settings.Settings.{Settings}
use Rattle.rmp_decode.specs.Buffers.{IsBuffer}
use Rattle.rmp_decode.specs.Read.{IsUnsigned, IsSigned, IsRaw, IsString, IsChar, IsExt}
use Rattle.rmp_round_trip.specs.RoundTrip.{LowersTo}

module _ (s : Settings) where
  pub unit_row : LowersTo s (Some unit) (λ m. m ≡ msg.nil)
  unfolding lower
  unit_row = refl

  pub truth_row : (t : Bool) → LowersTo s (Some (truth t)) (λ m. m ≡ msg.truth t)
  unfolding lower
  truth_row t = refl

  pub float32_row : (n : ℕ) → LowersTo s (Some (float32 n)) (λ m. m ≡ msg.float32 n)
  unfolding lower
  float32_row n = refl

  pub float64_row : (n : ℕ) → LowersTo s (Some (float64 n)) (λ m. m ≡ msg.float64 n)
  unfolding lower
  float64_row n = refl

  pub byte_row : (n : ℕ) → n < 2 ^ 8 → LowersTo s (Some (byte n)) (λ m. IsUnsigned 255 m n)
  unfolding lower
  byte_row n h = (refl, omega arith)

  pub unsigned_row_16 : (n : ℕ) → n < 2 ^ 16 → LowersTo s (Some (whole (pos n))) (λ m. IsUnsigned 65535 m n)
  unfolding lower
  unsigned_row_16 n h = (refl, omega arith)

  pub unsigned_row_32 : (n : ℕ) → n < 2 ^ 32 → LowersTo s (Some (whole (pos n))) (λ m. IsUnsigned 4294967295 m n)
  unfolding lower
  unsigned_row_32 n h = (refl, omega arith)

  pub unsigned_row_64 : (n : ℕ) → n < 2 ^ 64 → LowersTo s (Some (whole (pos n))) (λ m. IsUnsigned 18446744073709551615 m n)
  unfolding lower
  unsigned_row_64 n h = (refl, omega arith)

  pub signed_row_8 : (z : ℤ) → FitsSigned w8 z → LowersTo s (Some (whole z)) (λ m. IsSigned (negsuc 127) (pos 127) m z)
  unfolding lower
  signed_row_8 z h = (refl, grind (arith, ints), grind (arith, ints))

  pub signed_row_16 : (z : ℤ) → FitsSigned w16 z → LowersTo s (Some (whole z)) (λ m. IsSigned (negsuc 32767) (pos 32767) m z)
  unfolding lower
  signed_row_16 z h = (refl, grind (arith, ints), grind (arith, ints))

  pub signed_row_32 : (z : ℤ) → FitsSigned w32 z → LowersTo s (Some (whole z)) (λ m. IsSigned (negsuc 2147483647) (pos 2147483647) m z)
  unfolding lower
  signed_row_32 z h = (refl, grind (arith, ints), grind (arith, ints))

  pub signed_row_64 : (z : ℤ) → FitsSigned w64 z
      → LowersTo s (Some (whole z)) (λ m. IsSigned (negsuc 9223372036854775807) (pos 9223372036854775807) m z)
  unfolding lower
  signed_row_64 z h = (refl, grind (arith, ints), grind (arith, ints))

  pub char_row : (n : ℕ) → IsScalar n → LowersTo s (Some (char n)) (λ m. IsChar m n)
  unfolding lower
  char_row n h = (refl, h)

  pub string_row : (t : List ℕ) → LowersTo s (Some (text t)) (λ m. IsRaw m t)
  unfolding lower
  string_row t = (true, refl)

  pub str_row : (t : List ℕ) (lends : Bool) → lends ≡ true → IsUtf8 t → LowersTo s (Some (text t)) (λ m. (lends ≡ true) × IsString m t)
  unfolding lower
  str_row t lends l u = (l, (u, (true, refl)))

  pub bytes_row : (t : List ℕ) (lends : Bool) → lends ≡ true → LowersTo s (Some (bytes t)) (λ m. (lends ≡ true) × IsRaw m t)
  unfolding lower
  bytes_row t lends l = (l, (false, refl))

  pub buffer_row : (t : List ℕ) → LowersTo s (Some (bytes t)) (λ m. IsBuffer m t)
  unfolding lower
  buffer_row t = refl

  pub ext_row : (e : Ext) → LowersTo s (Some (extension (tag_of e) (ext_bytes e))) (λ m. IsExt m e)
  unfolding lower
  ext_row e = refl

  -- ---- none of them is nil

  pub truth_other : (t : Bool) → tree_of s (Some (truth t)) ≢ Some msg.nil
  unfolding lower
  truth_other t e = cc

  pub byte_other : (n : ℕ) → tree_of s (Some (byte n)) ≢ Some msg.nil
  unfolding lower
  byte_other n e = cc

  pub pos_other : (n : ℕ) → tree_of s (Some (whole (pos n))) ≢ Some msg.nil
  unfolding lower
  pos_other n e = cc

  pub whole_other : (z : ℤ) → tree_of s (Some (whole z)) ≢ Some msg.nil
  unfolding lower
  whole_other z e = cc

  pub unsigned128_other : (n : ℕ) → tree_of s (Some (unsigned128 n)) ≢ Some msg.nil
  unfolding lower
  unsigned128_other n e = cc

  pub signed128_other : (z : ℤ) → tree_of s (Some (signed128 z)) ≢ Some msg.nil
  unfolding lower
  signed128_other z e = cc

  pub float32_other : (n : ℕ) → tree_of s (Some (float32 n)) ≢ Some msg.nil
  unfolding lower
  float32_other n e = cc

  pub float64_other : (n : ℕ) → tree_of s (Some (float64 n)) ≢ Some msg.nil
  unfolding lower
  float64_other n e = cc

  pub char_other : (n : ℕ) → tree_of s (Some (char n)) ≢ Some msg.nil
  unfolding lower
  char_other n e = cc

  pub text_other : (t : List ℕ) → tree_of s (Some (text t)) ≢ Some msg.nil
  unfolding lower
  text_other t e = cc

  pub bytes_other : (t : List ℕ) → tree_of s (Some (bytes t)) ≢ Some msg.nil
  unfolding lower
  bytes_other t e = cc

  pub extension_other : (tag : ℤ) (t : List ℕ) → tree_of s (Some (extension tag t)) ≢ Some msg.nil
  unfolding lower
  extension_other tag t e = cc
