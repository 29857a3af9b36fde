-- What has the same content is written alike, where that holds of its parts.
use Rattle.std.proofs.Common.{◌≡◌, ◌∙◌, refl, sym, ap, ℕ, ℤ, List, [], ◌∷◌, Option, None, Some, map}
use Rattle.rmp_encode.specs.Data.{Data, bytes, extension, float32, float64, text, unit}
use Rattle.rmp_encode.specs.Trees.{in_turn, mapping_of, option_of, sequence_of, slice_of, tuple_of, wrapped_of}
use Rattle.rmp_round_trip.specs.RoundTrip.{Alike, AlikeOption, AlikePairs}

-- ---- without parts

pub unit_alike : Some unit ≡ Some unit
unit_alike = refl

pub float32_alike : (a b : ℕ) → a ≡ b → Some (float32 a) ≡ Some (float32 b)
float32_alike a b e = λ i. Some (float32 (e i))

pub float64_alike : (a b : ℕ) → a ≡ b → Some (float64 a) ≡ Some (float64 b)
float64_alike a b e = λ i. Some (float64 (e i))

pub text_alike : (a b : List ℕ) → a ≡ b → Some (text a) ≡ Some (text b)
text_alike a b e = λ i. Some (text (e i))

pub bytes_alike : (a b : List ℕ) → a ≡ b → Some (bytes a) ≡ Some (bytes b)
bytes_alike a b e = λ i. Some (bytes (e i))

pub extension_alike : (tag tag' : ℤ) (a b : List ℕ) → (tag ≡ tag') × (a ≡ b) → Some (extension tag a) ≡ Some (extension tag' b)
extension_alike tag tag' a b e = λ i. Some (extension (e.0 i) (e.1 i))

-- ---- lists, arrays, sets and options

module _ {V : Type 0} (same : V → V → Type 0) (d : V → Option Data) (alike : (v w : V) → same v w → d v ≡ d w) where
  row_alike : (vs ws : List V) → Alike same vs ws → map d vs ≡ map d ws
  row_alike [] [] a = refl
  row_alike [] (w ∷ ws) a = absurd a
  row_alike (v ∷ vs) [] a = absurd a
  row_alike (v ∷ vs) (w ∷ ws) a = λ i. alike v w a.0 i ∷ row_alike vs ws a.1 i

  pub slice_alike : (vs ws : List V) → Alike same vs ws → slice_of (map d vs) ≡ slice_of (map d ws)
  slice_alike vs ws a = ap slice_of (row_alike vs ws a)

  pub sequence_alike : (vs ws : List V) → Alike same vs ws → sequence_of (map d vs) ≡ sequence_of (map d ws)
  sequence_alike vs ws a = ap sequence_of (row_alike vs ws a)

  pub array_alike : (vs ws : List V) → Alike same vs ws → tuple_of (map d vs) ≡ tuple_of (map d ws)
  array_alike vs ws a = ap tuple_of (row_alike vs ws a)

  pub option_alike : (v w : Option V) → AlikeOption same v w → option_of d v ≡ option_of d w
  option_alike None None a = refl
  option_alike None (Some w) a = absurd a
  option_alike (Some v) None a = absurd a
  option_alike (Some v) (Some w) a = λ i. wrapped_of (alike v w a i)

-- ---- maps

module _ {K V : Type 0} (keys : K → K → Type 0) (k : K → Option Data) (key_alike : (a b : K) → keys a b → k a ≡ k b)
    (values : V → V → Type 0) (d : V → Option Data) (alike : (v w : V) → values v w → d v ≡ d w) where
  pairs_alike : (es fs : List (K × V)) → AlikePairs keys values es fs → in_turn k d es ≡ in_turn k d fs
  pairs_alike [] [] a = refl
  pairs_alike [] (f ∷ fs) a = absurd a
  pairs_alike (e ∷ es) [] a = absurd a
  pairs_alike (e ∷ es) (f ∷ fs) a = λ i. key_alike e.0 f.0 a.0.0 i ∷ (alike e.1 f.1 a.0.1 i ∷ pairs_alike es fs a.1 i)

  pub mapping_alike : (es fs : List (K × V)) → AlikePairs keys values es fs → mapping_of (in_turn k d es) ≡ mapping_of (in_turn k d fs)
  mapping_alike es fs a = ap mapping_of (pairs_alike es fs a)

-- ---- variants

-- a variant, where the other value is a variant that is written so
pub variant_alike : {W : Type 0} (d : W → Option Data) {e : Option Data} (w u : W) → w ≡ u → e ≡ d u → e ≡ d w
variant_alike d w u p q = q ∙ sym (ap d p)
