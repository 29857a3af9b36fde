-- What leaves lower to is read as nothing else.
use Rattle.std.proofs.Common.{◌≡◌, ℕ, List, [], ◌∷◌, Bool, true, false, Some, sym, ◌∙◌, ap, inl, inr}
use Rattle.std.specs.Prelude.{◌<◌, ◌^◌, ℤ, pos, FitsSigned, encode_utf8}
use Rattle.std.proofs.Math.Facts.{Fits-of_z}
use Rattle.std.proofs.lemmas.List.{append-nil}
use Rattle.std.proofs.lemmas.Str.{chars_past_char, IsUtf8-encode}
use Rattle.std.specs.Char.{IsScalar}
use Rattle.std.specs.Int.{w128, to_be_bytes, from_be_bytes, cast_unsigned, cast_signed}
use Rattle.std.proofs.lemmas.Int.{to_z-of_z}
use Rattle.rmp_wire.specs.Msg as msg
use Rattle.rmp_wire.specs.Types.{tag_of, ext_bytes}
use Rattle.rmp_wire.specs.declared.types.Ext.{Ext}
use Rattle.rmp_encode.specs.Data.{unit, truth, byte, whole, unsigned128, signed128, float32, float64, char, text, bytes, extension, lower}
use Rattle.rmp_encode.specs.declared.settings.Settings.{Settings}
use Rattle.rmp_decode.specs.Buffers.{IsBuffer}
use Rattle.rmp_decode.specs.Kinds.{raw_msg}
use Rattle.rmp_decode.specs.Read.{IsUnsigned, IsSigned, IsRaw, IsString, IsChar, IsExt}
use Rattle.rmp_decode.specs.Wide.{IsSixteen, IsUnsigned128, IsSigned128}
use Rattle.rmp_round_trip.specs.RoundTrip.{LowersTo}
use Rattle.rmp_round_trip.specs.WideRounds.{sixteen_back}

whole_is : (y z : ℤ) → msg.whole y ≡ msg.whole z → y ≡ z
whole_is y z e = cc

pos_is : (m n : ℕ) → msg.whole (pos m) ≡ msg.whole (pos n) → m ≡ n
pos_is m n e = cc

truth_is : (t u : Bool) → msg.truth t ≡ msg.truth u → t ≡ u
truth_is t u e = cc

float32_is : (m n : ℕ) → msg.float32 m ≡ msg.float32 n → m ≡ n
float32_is m n e = cc

float64_is : (m n : ℕ) → msg.float64 m ≡ msg.float64 n → m ≡ n
float64_is m n e = cc

text_is : (s t : List ℕ) → msg.text s ≡ msg.text t → s ≡ t
text_is s t e = cc

-- the bytes of a text, or of bytes, are read as those
pub raw_is : (a b : Bool) (s t : List ℕ) → raw_msg a s ≡ raw_msg b t → s ≡ t
raw_is true true s t e = cc
raw_is true false s t e = cc
raw_is false true s t e = cc
raw_is false false s t e = cc

ext_is : (y z : ℤ) (s t : List ℕ) → msg.extension y s ≡ msg.extension z t → (y ≡ z) × (s ≡ t)
ext_is y z s t e = (cc, cc)

first_is : (c d : ℕ) (s t : List ℕ) → c ∷ s ≡ d ∷ t → c ≡ d
first_is c d s t e = cc

sixteen_is : (n w : ℕ) → n < 2 ^ 128 → IsSixteen (msg.bin (to_be_bytes w128 n)) w → n ≡ w
sixteen_is n w h i = sym (sixteen_back n h) ∙ ap (from_be_bytes w128) (raw_is false false (to_be_bytes w128 n) i.bytes i.is) ∙ sym i.number

wide_is : (n w : ℕ) → n < 2 ^ 128 → IsUnsigned128 (msg.bin (to_be_bytes w128 n)) w → n ≡ w
wide_is n w h (inl e) = cc
wide_is n w h (inr i) = sixteen_is n w h i

unsigned_fits : (z : ℤ) → FitsSigned w128 z → cast_unsigned w128 z < 2 ^ 128
unsigned_fits z h = (Fits-of_z h).fits

wide_signed_is : (y z : ℤ) → FitsSigned w128 y → IsSigned128 (msg.bin (to_be_bytes w128 (cast_unsigned w128 y))) z → y ≡ z
wide_signed_is y z h (inl e) = cc
wide_signed_is y z h (inr i) =
    sym (to_z-of_z w128 y h) ∙ ap (cast_signed w128) (sixteen_is (cast_unsigned w128 y) i.0 (unsigned_fits y h) i.1) ∙ sym i.2

char_bytes_is : (c d : ℕ) → IsScalar c → encode_utf8 c ≡ encode_utf8 d → c ≡ d
char_bytes_is c d h e =
    let u = IsUtf8-encode c h in
    first_is c d _ _ (sym (chars_past_char (encode_utf8 c) [] c u (sym (append-nil (encode_utf8 c))))
    ∙ chars_past_char (encode_utf8 c) [] d u (e ∙ sym (append-nil (encode_utf8 d))))

module _ (s : Settings) where
  pub unit_only : LowersTo s (Some unit) (λ m. (w : Unit {0}) → m ≡ msg.nil → Unit {0})
  unfolding lower
  unit_only = λ w h. tt

  pub truth_only : (t : Bool) → LowersTo s (Some (truth t)) (λ m. (w : Bool) → m ≡ msg.truth w → t ≡ w)
  unfolding lower
  truth_only t = λ w h. truth_is t w h

  pub float32_only : {W : Type 0} (f : W → ℕ) (n : ℕ) → LowersTo s (Some (float32 n)) (λ m. (w : W) → m ≡ msg.float32 (f w) → n ≡ f w)
  unfolding lower
  float32_only f n = λ w h. float32_is n (f w) h

  pub float64_only : {W : Type 0} (f : W → ℕ) (n : ℕ) → LowersTo s (Some (float64 n)) (λ m. (w : W) → m ≡ msg.float64 (f w) → n ≡ f w)
  unfolding lower
  float64_only f n = λ w h. float64_is n (f w) h

  pub byte_only : (n : ℕ) → LowersTo s (Some (byte n)) (λ m. (w : ℕ) → IsUnsigned 255 m w → n ≡ w)
  unfolding lower
  byte_only n = λ w h. pos_is n w h.0

  pub unsigned_only : (most n : ℕ) → LowersTo s (Some (whole (pos n))) (λ m. (w : ℕ) → IsUnsigned most m w → n ≡ w)
  unfolding lower
  unsigned_only most n = λ w h. pos_is n w h.0

  pub signed_only : (least most z : ℤ) → LowersTo s (Some (whole z)) (λ m. (w : ℤ) → IsSigned least most m w → z ≡ w)
  unfolding lower
  signed_only least most z = λ w h. whole_is z w h.0

  pub unsigned128_only : (n : ℕ) → n < 2 ^ 128 → LowersTo s (Some (unsigned128 n)) (λ m. (w : ℕ) → IsUnsigned128 m w → n ≡ w)
  unfolding lower
  unsigned128_only n h = λ w r. wide_is n w h r

  pub signed128_only : (z : ℤ) → FitsSigned w128 z → LowersTo s (Some (signed128 z)) (λ m. (w : ℤ) → IsSigned128 m w → z ≡ w)
  unfolding lower
  signed128_only z h = λ w r. wide_signed_is z w h r

  pub char_only : (c : ℕ) → IsScalar c → LowersTo s (Some (char c)) (λ m. (w : ℕ) → IsChar m w → c ≡ w)
  unfolding lower
  char_only c h = λ w r. char_bytes_is c w h (text_is (encode_utf8 c) (encode_utf8 w) r.0)

  -- what holds bytes, read from a text or from bytes
  module _ {W : Type 0} (f : W → List ℕ) where
    pub string_only : (t : List ℕ) → LowersTo s (Some (text t)) (λ m. (w : W) → IsRaw m (f w) → t ≡ f w)
    unfolding lower
    string_only t = λ w r. raw_is true r.0 t (f w) r.1

    pub str_only : (t : List ℕ) (lends : Bool) → LowersTo s (Some (text t)) (λ m. (w : W) → (lends ≡ true) × IsString m (f w) → t ≡ f w)
    unfolding lower
    str_only t lends = λ w r. raw_is true r.1.1.0 t (f w) r.1.1.1

    pub bytes_only : (t : List ℕ) (lends : Bool) → LowersTo s (Some (bytes t)) (λ m. (w : W) → (lends ≡ true) × IsRaw m (f w) → t ≡ f w)
    unfolding lower
    bytes_only t lends = λ w r. raw_is false r.1.0 t (f w) r.1.1

    pub buffer_only : (t : List ℕ) → LowersTo s (Some (bytes t)) (λ m. (w : W) → IsBuffer m (f w) → t ≡ f w)
    unfolding lower
    buffer_only t = λ w r. sym r

  pub ext_only : (e : Ext) → LowersTo s (Some (extension (tag_of e) (ext_bytes e)))
      (λ m. (w : Ext) → IsExt m w → (tag_of e ≡ tag_of w) × (ext_bytes e ≡ ext_bytes w))
  unfolding lower
  ext_only e = λ w r. ext_is (tag_of e) (tag_of w) (ext_bytes e) (ext_bytes w) r
