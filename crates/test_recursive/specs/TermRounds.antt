-- Each Term is read as it was written, and as nothing else. Written by tools/derive.py.
use Rattle.std.proofs.Common.{◌≡◌, ◌∙◌, refl, sym, ap, subst, ℕ, map, Option, None, Some, String, Box}
use Rattle.std.specs.Prelude.{◌≢◌, codes, Vec, Bool, ℤ, pos, negsuc, IsSome, string_bytes}
use Rattle.std.specs.declared.alloc.Global.{Global}
use Rattle.rmp_wire.specs.Msg.{Msg, nil}
use Rattle.rmp_wire.specs.Types.{buffer_bytes}
use Rattle.rmp_wire.specs.declared.types.ByteBuf.{ByteBuf}
use Rattle.rmp_wire.specs.declared.types.F32Bits.{F32Bits}
use Rattle.rmp_wire.specs.declared.types.F64Bits.{F64Bits}
use Rattle.rmp_decode.specs.Buffers.{IsBuffer}
use Rattle.rmp_decode.specs.Wide.{IsUnsigned128, IsSigned128}
use Rattle.rmp_decode.specs.Options.{IsOption}
use Rattle.rmp_decode.specs.Read.{IsUnsigned, IsSigned, IsRaw, IsChar}
use Rattle.rmp_decode.specs.Rows.{ReadsEach}
use Rattle.rmp_decode.specs.Variants.{OfVariant, Content}
use Rattle.rmp_encode.specs.Data.{Data, whole, unsigned128, signed128, truth, float32, float64, char, text, bytes, unit_variant}
use Rattle.rmp_encode.specs.Trees.{tree_of, slice_of, option_of, newtype_variant_of}
use Rattle.rmp_encode.specs.declared.settings.Settings.{Settings}
use Rattle.rmp_round_trip.specs.LeafRounds.{truth_row, float32_row, float64_row, char_row, string_row, buffer_row, signed_row_64, unsigned_row_64}
use Rattle.rmp_round_trip.specs.OnlyFields.{AtPlace, AnyContent, content_only, variant_both}
use Rattle.rmp_round_trip.specs.OnlyLeaves.{
  truth_only,
  unsigned_only,
  signed_only,
  unsigned128_only,
  signed128_only,
  float32_only,
  float64_only,
  char_only,
  string_only,
  buffer_only,
}
use Rattle.rmp_round_trip.specs.OnlyRows.{inside_only, list_only, option_only, lowers_then}
use Rattle.rmp_round_trip.specs.RoundTrip.{Alike, AlikeOption, LowersTo, Only}
use Rattle.rmp_round_trip.specs.Rounds.{slice_some, each_row, slice_row, option_row}
use Rattle.rmp_round_trip.specs.VariantRounds.{newtype_variant_some, bare_row, newtype_variant_row, bare_other, newtype_variant_other}
use Rattle.rmp_round_trip.specs.WideRounds.{unsigned128_row, signed128_row}
use Rattle.rmp_recursive.specs.Parts.{Row, Boxed, each_from, option_from}
use Rattle.rmp_recursive.specs.Rounds.{each_data, option_data, lowers_as, map_alike, option_alike}
use Rattle.test_recursive.specs.declared.trees.Term.{Term, out-Term}
use Rattle.test_recursive.specs.declared.trees.Term.TheFolds.{map-Term}
use Rattle.test_recursive.specs.declared.trees.Term.TheOpen.{Term-F}
use Rattle.test_recursive.specs.TermLevels.{
  TermCase,
  IsTerm,
  TermParts,
  TermFits,
  term_at_Next,
  term_names,
  term_level,
  term_data,
  term_fits,
  term_made,
  term_out,
  term_induction,
  term_fits_out,
  term_is,
  term_is_at,
}
use Rattle.rmp_wire.specs.Msg as msg

-- ---- no value is refused

term_level_some : (x : Term-F Term) → TermParts (λ t. IsSome (term_data t)) x → IsSome (term_level (map-Term Term (Option Data) term_data x))
term_level_some Term-F.Nothing h = refl
term_level_some (Term-F.Number a) h = newtype_variant_some (codes "Number") (Some (whole a)) refl
term_level_some (Term-F.Name a) h = newtype_variant_some (codes "Name") (Some (text (string_bytes a))) refl
term_level_some (Term-F.Truth a) h = newtype_variant_some (codes "Truth") (Some (truth a)) refl
term_level_some (Term-F.Letter a) h = newtype_variant_some (codes "Letter") (Some (char a)) refl
term_level_some (Term-F.Half a) h = newtype_variant_some (codes "Half") (Some (float32 a.0)) refl
term_level_some (Term-F.Whole a) h = newtype_variant_some (codes "Whole") (Some (float64 a.0)) refl
term_level_some (Term-F.Bytes a) h = newtype_variant_some (codes "Bytes") (Some (bytes (buffer_bytes a))) refl
term_level_some (Term-F.Size a) h = newtype_variant_some (codes "Size") (Some (whole (pos a))) refl
term_level_some (Term-F.Offset a) h = newtype_variant_some (codes "Offset") (Some (whole a)) refl
term_level_some (Term-F.Big a) h = newtype_variant_some (codes "Big") (Some (unsigned128 a)) refl
term_level_some (Term-F.Wide a) h = newtype_variant_some (codes "Wide") (Some (signed128 a)) refl
term_level_some (Term-F.Not a) h = newtype_variant_some (codes "Not") (term_data a.value) h
term_level_some (Term-F.Next None) h = newtype_variant_some (codes "Next") (option_of (λ (b : Box Term Global). term_data b.value) None)
    (option_data (λ (b : Box Term Global). term_data b.value) None h)
term_level_some (Term-F.Next (Some a)) h = newtype_variant_some (codes "Next") (option_of (λ (b : Box Term Global). term_data b.value) (Some a))
    (option_data (λ (b : Box Term Global). term_data b.value) (Some a) h)
term_level_some (Term-F.Sum a) h = newtype_variant_some (codes "Sum") (slice_of (map term_data a.items))
    (slice_some (map term_data a.items) (each_data term_data a.items h))

pub term_some : (v : Term) → IsSome (term_data v)
term_some = term_induction (λ v. IsSome (term_data v)) (λ v h. subst IsSome (sym (term_is v)) (term_level_some (out-Term v) h))

module _ (s : Settings) where
  -- ---- it is never nil

  term_level_other : (x : Term-F (Option Data)) → tree_of s (term_level x) ≢ Some nil
  term_level_other Term-F.Nothing e = bare_other s (codes "Nothing") e
  term_level_other (Term-F.Number a) e = newtype_variant_other s (codes "Number") (Some (whole a)) e
  term_level_other (Term-F.Name a) e = newtype_variant_other s (codes "Name") (Some (text (string_bytes a))) e
  term_level_other (Term-F.Truth a) e = newtype_variant_other s (codes "Truth") (Some (truth a)) e
  term_level_other (Term-F.Letter a) e = newtype_variant_other s (codes "Letter") (Some (char a)) e
  term_level_other (Term-F.Half a) e = newtype_variant_other s (codes "Half") (Some (float32 a.0)) e
  term_level_other (Term-F.Whole a) e = newtype_variant_other s (codes "Whole") (Some (float64 a.0)) e
  term_level_other (Term-F.Bytes a) e = newtype_variant_other s (codes "Bytes") (Some (bytes (buffer_bytes a))) e
  term_level_other (Term-F.Size a) e = newtype_variant_other s (codes "Size") (Some (whole (pos a))) e
  term_level_other (Term-F.Offset a) e = newtype_variant_other s (codes "Offset") (Some (whole a)) e
  term_level_other (Term-F.Big a) e = newtype_variant_other s (codes "Big") (Some (unsigned128 a)) e
  term_level_other (Term-F.Wide a) e = newtype_variant_other s (codes "Wide") (Some (signed128 a)) e
  term_level_other (Term-F.Not a) e = newtype_variant_other s (codes "Not") (a.value) e
  term_level_other (Term-F.Next a) e = newtype_variant_other s (codes "Next") (option_of (λ b. b.value) a) e
  term_level_other (Term-F.Sum a) e = newtype_variant_other s (codes "Sum") (slice_of a.items) e

  pub term_other : (v : Term) → tree_of s (term_data v) ≢ Some nil
  term_other v e = term_level_other (map-Term Term (Option Data) term_data (out-Term v)) (ap (tree_of s) (sym (term_is v)) ∙ e)

  -- ---- what a value lowers to is read as that value

  abbrev TermBack : Term → Type 0
  TermBack v = LowersTo s (term_data v) (λ m. IsTerm m v)

  abbrev TermRound : Term → Type 0
  TermRound v = term_fits v → TermBack v

  term_level_round : (v : Term) (x : Term-F Term) → out-Term v ≡ x → TermParts TermRound x → TermFits x
      → LowersTo s (term_level (map-Term Term (Option Data) term_data x)) (λ m. OfVariant term_names (TermCase IsTerm v) m)
  term_level_round v Term-F.Nothing e h fit = bare_row s term_names (codes "Nothing") 0 refl (TermCase IsTerm v) (e, tt)
  term_level_round v (Term-F.Number a) e h fit = newtype_variant_row s term_names (codes "Number") 1 refl (TermCase IsTerm v)
      (Some (whole a)) (λ m. IsSigned (negsuc 9223372036854775807) (pos 9223372036854775807) m a) (λ m p. (a, e, p)) (signed_row_64 s a fit)
  term_level_round v (Term-F.Name a) e h fit = newtype_variant_row s term_names (codes "Name") 2 refl (TermCase IsTerm v)
      (Some (text (string_bytes a))) (λ m. IsRaw m (string_bytes a)) (λ m p. (a, e, p)) (string_row s (string_bytes a))
  term_level_round v (Term-F.Truth a) e h fit = newtype_variant_row s term_names (codes "Truth") 3 refl (TermCase IsTerm v)
      (Some (truth a)) (λ m. m ≡ msg.truth a) (λ m p. (a, e, p)) (truth_row s a)
  term_level_round v (Term-F.Letter a) e h fit = newtype_variant_row s term_names (codes "Letter") 4 refl (TermCase IsTerm v)
      (Some (char a)) (λ m. IsChar m a) (λ m p. (a, e, p)) (char_row s a fit)
  term_level_round v (Term-F.Half a) e h fit = newtype_variant_row s term_names (codes "Half") 5 refl (TermCase IsTerm v)
      (Some (float32 a.0)) (λ m. m ≡ msg.float32 a.0) (λ m p. (a, e, p)) (float32_row s a.0)
  term_level_round v (Term-F.Whole a) e h fit = newtype_variant_row s term_names (codes "Whole") 6 refl (TermCase IsTerm v)
      (Some (float64 a.0)) (λ m. m ≡ msg.float64 a.0) (λ m p. (a, e, p)) (float64_row s a.0)
  term_level_round v (Term-F.Bytes a) e h fit = newtype_variant_row s term_names (codes "Bytes") 7 refl (TermCase IsTerm v)
      (Some (bytes (buffer_bytes a))) (λ m. IsBuffer m (buffer_bytes a)) (λ m p. (a, e, p)) (buffer_row s (buffer_bytes a))
  term_level_round v (Term-F.Size a) e h fit = newtype_variant_row s term_names (codes "Size") 8 refl (TermCase IsTerm v)
      (Some (whole (pos a))) (λ m. IsUnsigned 18446744073709551615 m a) (λ m p. (a, e, p)) (unsigned_row_64 s a fit)
  term_level_round v (Term-F.Offset a) e h fit = newtype_variant_row s term_names (codes "Offset") 9 refl (TermCase IsTerm v)
      (Some (whole a)) (λ m. IsSigned (negsuc 9223372036854775807) (pos 9223372036854775807) m a) (λ m p. (a, e, p)) (signed_row_64 s a fit)
  term_level_round v (Term-F.Big a) e h fit = newtype_variant_row s term_names (codes "Big") 10 refl (TermCase IsTerm v)
      (Some (unsigned128 a)) (λ m. IsUnsigned128 m a) (λ m p. (a, e, p)) (unsigned128_row s a fit)
  term_level_round v (Term-F.Wide a) e h fit = newtype_variant_row s term_names (codes "Wide") 11 refl (TermCase IsTerm v)
      (Some (signed128 a)) (λ m. IsSigned128 m a) (λ m p. (a, e, p)) (signed128_row s a fit)
  term_level_round v (Term-F.Not a) e h fit = newtype_variant_row s term_names (codes "Not") 12 refl (TermCase IsTerm v)
      (term_data a.value) (λ m. IsTerm m a.value) (λ m p. (a, e, p)) (h fit)
  term_level_round v (Term-F.Next None) e h fit = newtype_variant_row s term_names (codes "Next") 13 refl (TermCase IsTerm v)
      (option_of (λ (b : Box Term Global). term_data b.value) None) (λ m. IsOption (Boxed IsTerm) m None) (λ m p. (None, e, p))
      (option_row s (λ (b : Box Term Global). term_data b.value) (λ b. TermBack b.value) (Boxed IsTerm)
      (λ b. term_other b.value) (λ b p. p) None (option_from (λ (b : Box Term Global). term_fits b.value) (λ b. TermBack b.value) None h fit))
  term_level_round v (Term-F.Next (Some a)) e h fit = newtype_variant_row s term_names (codes "Next") 13 refl (TermCase IsTerm v)
      (option_of (λ (b : Box Term Global). term_data b.value) (Some a)) (λ m. IsOption (Boxed IsTerm) m (Some a)) (λ m p. ((Some a), e, p))
      (option_row s (λ (b : Box Term Global). term_data b.value) (λ b. TermBack b.value) (Boxed IsTerm)
      (λ b. term_other b.value) (λ b p. p) (Some a) (option_from (λ (b : Box Term Global). term_fits b.value) (λ b. TermBack b.value) (Some a) h fit))
  term_level_round v (Term-F.Sum a) e h fit = newtype_variant_row s term_names (codes "Sum") 14 refl (TermCase IsTerm v)
      (slice_of (map term_data a.items)) (λ m. Row IsTerm m a.items) (λ m p. (a, e, p)) (slice_row s (map term_data a.items) (λ ms. ReadsEach IsTerm ms a.items)
      (each_row s term_data TermBack IsTerm (λ w p. p) a.items (each_from term_fits TermBack a.items h fit)))

  pub term_round : (v : Term) → TermRound v
  term_round = term_induction TermRound
      (λ v h fits. subst (λ d. LowersTo s d (λ m. IsTerm m v)) (sym (term_is v))
      (lowers_as s (term_level (map-Term Term (Option Data) term_data (out-Term v))) (λ m. OfVariant term_names (TermCase IsTerm v) m) (λ m. IsTerm m v)
      (term_made v) (term_level_round v (out-Term v) refl h (term_fits_out v fits))))

-- ---- values of the same content are written alike

abbrev pub SameTerm : Term → Term → Type 0
SameTerm v w = term_data v ≡ term_data w

term_by : (w : Term) (y : Term-F Term) → out-Term w ≡ y → term_level (map-Term Term (Option Data) term_data y) ≡ term_data w
term_by w y e = sym (term_is_at w y e)

module _ (s : Settings) where
  abbrev TermOnly : Term → Type 0
  TermOnly v = LowersTo s (term_data v) (λ m. Only IsTerm SameTerm m v)

  abbrev TermLevelOnly : Term-F Term → Msg → Type 0
  TermLevelOnly x m = (w : Term) → OfVariant term_names (TermCase IsTerm w) m → term_level (map-Term Term (Option Data) term_data x) ≡ term_data w

  term_level_only : (x : Term-F Term) → TermParts (λ v. term_fits v → TermOnly v) x → TermFits x
      → LowersTo s (term_level (map-Term Term (Option Data) term_data x)) (TermLevelOnly x)
  term_level_only Term-F.Nothing h fit =
      lowers_then s (Some (unit_variant (codes "Nothing"))) (OfVariant term_names (AtPlace 0 AnyContent)) (TermLevelOnly Term-F.Nothing)
      (bare_row s term_names (codes "Nothing") 0 refl (AtPlace 0 AnyContent) (refl, tt))
      (λ m q w r. variant_both term_names 0 AnyContent (TermCase IsTerm w) _ m q r (λ c i j. term_by w Term-F.Nothing j.0))
  term_level_only (Term-F.Number a) h fit =
      lowers_then s (newtype_variant_of (codes "Number") (Some (whole a))) _ (TermLevelOnly (Term-F.Number a))
      (newtype_variant_row s term_names (codes "Number") 1 refl
      (AtPlace 1 (Content (λ k. Only (λ (k : Msg) (x : ℤ). IsSigned (negsuc 9223372036854775807) (pos 9223372036854775807) k x) (λ (x y : ℤ). x ≡ y) k
      a))) (Some (whole a))
      (λ k. Only (λ (k : Msg) (x : ℤ). IsSigned (negsuc 9223372036854775807) (pos 9223372036854775807) k x) (λ (x y : ℤ). x ≡ y) k a) (λ m p. (refl, p))
      (signed_only s (negsuc 9223372036854775807) (pos 9223372036854775807) a))
      (λ m q w r. variant_both term_names 1 _ (TermCase IsTerm w) _ m q r
      (λ c i j. ap (λ d. newtype_variant_of (codes "Number") d)
      (ap (λ n. Some (whole n)) (content_only (λ (k : Msg) (x : ℤ). IsSigned (negsuc 9223372036854775807) (pos 9223372036854775807) k x)
      (λ (x y : ℤ). x ≡ y) a j.0 c i j.2)) ∙ term_by w (Term-F.Number j.0) j.1))
  term_level_only (Term-F.Name a) h fit =
      lowers_then s (newtype_variant_of (codes "Name") (Some (text (string_bytes a)))) _ (TermLevelOnly (Term-F.Name a))
      (newtype_variant_row s term_names (codes "Name") 2 refl
      (AtPlace 2 (Content (λ k. Only (λ (k : Msg) (x : String Global). IsRaw k (string_bytes x))
      (λ (x y : String Global). string_bytes x ≡ string_bytes y) k a))) (Some (text (string_bytes a)))
      (λ k. Only (λ (k : Msg) (x : String Global). IsRaw k (string_bytes x)) (λ (x y : String Global). string_bytes x ≡ string_bytes y) k a)
      (λ m p. (refl, p)) (string_only s (λ (w : String Global). string_bytes w) (string_bytes a)))
      (λ m q w r. variant_both term_names 2 _ (TermCase IsTerm w) _ m q r
      (λ c i j. ap (λ d. newtype_variant_of (codes "Name") d)
      (ap (λ n. Some (text n)) (content_only (λ (k : Msg) (x : String Global). IsRaw k (string_bytes x))
      (λ (x y : String Global). string_bytes x ≡ string_bytes y) a j.0 c i j.2)) ∙ term_by w (Term-F.Name j.0) j.1))
  term_level_only (Term-F.Truth a) h fit =
      lowers_then s (newtype_variant_of (codes "Truth") (Some (truth a))) _ (TermLevelOnly (Term-F.Truth a))
      (newtype_variant_row s term_names (codes "Truth") 3 refl
      (AtPlace 3 (Content (λ k. Only (λ (k : Msg) (x : Bool). k ≡ msg.truth x) (λ (x y : Bool). x ≡ y) k a))) (Some (truth a))
      (λ k. Only (λ (k : Msg) (x : Bool). k ≡ msg.truth x) (λ (x y : Bool). x ≡ y) k a) (λ m p. (refl, p)) (truth_only s a))
      (λ m q w r. variant_both term_names 3 _ (TermCase IsTerm w) _ m q r
      (λ c i j. ap (λ d. newtype_variant_of (codes "Truth") d)
      (ap (λ n. Some (truth n)) (content_only (λ (k : Msg) (x : Bool). k ≡ msg.truth x) (λ (x y : Bool). x ≡ y) a j.0 c i j.2))
      ∙ term_by w (Term-F.Truth j.0) j.1))
  term_level_only (Term-F.Letter a) h fit =
      lowers_then s (newtype_variant_of (codes "Letter") (Some (char a))) _ (TermLevelOnly (Term-F.Letter a))
      (newtype_variant_row s term_names (codes "Letter") 4 refl (AtPlace 4 (Content (λ k. Only (λ (k : Msg) (x : ℕ). IsChar k x) (λ (x y : ℕ). x ≡ y) k a)))
      (Some (char a))
      (λ k. Only (λ (k : Msg) (x : ℕ). IsChar k x) (λ (x y : ℕ). x ≡ y) k a) (λ m p. (refl, p)) (char_only s a fit))
      (λ m q w r. variant_both term_names 4 _ (TermCase IsTerm w) _ m q r
      (λ c i j. ap (λ d. newtype_variant_of (codes "Letter") d)
      (ap (λ n. Some (char n)) (content_only (λ (k : Msg) (x : ℕ). IsChar k x) (λ (x y : ℕ). x ≡ y) a j.0 c i j.2))
      ∙ term_by w (Term-F.Letter j.0) j.1))
  term_level_only (Term-F.Half a) h fit =
      lowers_then s (newtype_variant_of (codes "Half") (Some (float32 a.0))) _ (TermLevelOnly (Term-F.Half a))
      (newtype_variant_row s term_names (codes "Half") 5 refl
      (AtPlace 5 (Content (λ k. Only (λ (k : Msg) (x : F32Bits). k ≡ msg.float32 x.0) (λ (x y : F32Bits). x.0 ≡ y.0) k a))) (Some (float32 a.0))
      (λ k. Only (λ (k : Msg) (x : F32Bits). k ≡ msg.float32 x.0) (λ (x y : F32Bits). x.0 ≡ y.0) k a) (λ m p. (refl, p))
      (float32_only s (λ (w : F32Bits). w.0) a.0))
      (λ m q w r. variant_both term_names 5 _ (TermCase IsTerm w) _ m q r
      (λ c i j. ap (λ d. newtype_variant_of (codes "Half") d)
      (ap (λ n. Some (float32 n)) (content_only (λ (k : Msg) (x : F32Bits). k ≡ msg.float32 x.0) (λ (x y : F32Bits). x.0 ≡ y.0) a j.0 c i j.2))
      ∙ term_by w (Term-F.Half j.0) j.1))
  term_level_only (Term-F.Whole a) h fit =
      lowers_then s (newtype_variant_of (codes "Whole") (Some (float64 a.0))) _ (TermLevelOnly (Term-F.Whole a))
      (newtype_variant_row s term_names (codes "Whole") 6 refl
      (AtPlace 6 (Content (λ k. Only (λ (k : Msg) (x : F64Bits). k ≡ msg.float64 x.0) (λ (x y : F64Bits). x.0 ≡ y.0) k a))) (Some (float64 a.0))
      (λ k. Only (λ (k : Msg) (x : F64Bits). k ≡ msg.float64 x.0) (λ (x y : F64Bits). x.0 ≡ y.0) k a) (λ m p. (refl, p))
      (float64_only s (λ (w : F64Bits). w.0) a.0))
      (λ m q w r. variant_both term_names 6 _ (TermCase IsTerm w) _ m q r
      (λ c i j. ap (λ d. newtype_variant_of (codes "Whole") d)
      (ap (λ n. Some (float64 n)) (content_only (λ (k : Msg) (x : F64Bits). k ≡ msg.float64 x.0) (λ (x y : F64Bits). x.0 ≡ y.0) a j.0 c i j.2))
      ∙ term_by w (Term-F.Whole j.0) j.1))
  term_level_only (Term-F.Bytes a) h fit =
      lowers_then s (newtype_variant_of (codes "Bytes") (Some (bytes (buffer_bytes a)))) _ (TermLevelOnly (Term-F.Bytes a))
      (newtype_variant_row s term_names (codes "Bytes") 7 refl
      (AtPlace 7 (Content (λ k. Only (λ (k : Msg) (x : ByteBuf). IsBuffer k (buffer_bytes x)) (λ (x y : ByteBuf). buffer_bytes x ≡ buffer_bytes y) k
      a))) (Some (bytes (buffer_bytes a)))
      (λ k. Only (λ (k : Msg) (x : ByteBuf). IsBuffer k (buffer_bytes x)) (λ (x y : ByteBuf). buffer_bytes x ≡ buffer_bytes y) k a) (λ m p. (refl, p))
      (buffer_only s (λ (w : ByteBuf). buffer_bytes w) (buffer_bytes a)))
      (λ m q w r. variant_both term_names 7 _ (TermCase IsTerm w) _ m q r
      (λ c i j. ap (λ d. newtype_variant_of (codes "Bytes") d)
      (ap (λ n. Some (bytes n)) (content_only (λ (k : Msg) (x : ByteBuf). IsBuffer k (buffer_bytes x))
      (λ (x y : ByteBuf). buffer_bytes x ≡ buffer_bytes y) a j.0 c i j.2)) ∙ term_by w (Term-F.Bytes j.0) j.1))
  term_level_only (Term-F.Size a) h fit =
      lowers_then s (newtype_variant_of (codes "Size") (Some (whole (pos a)))) _ (TermLevelOnly (Term-F.Size a))
      (newtype_variant_row s term_names (codes "Size") 8 refl
      (AtPlace 8 (Content (λ k. Only (λ (k : Msg) (x : ℕ). IsUnsigned 18446744073709551615 k x) (λ (x y : ℕ). x ≡ y) k a))) (Some (whole (pos a)))
      (λ k. Only (λ (k : Msg) (x : ℕ). IsUnsigned 18446744073709551615 k x) (λ (x y : ℕ). x ≡ y) k a) (λ m p. (refl, p))
      (unsigned_only s 18446744073709551615 a))
      (λ m q w r. variant_both term_names 8 _ (TermCase IsTerm w) _ m q r
      (λ c i j. ap (λ d. newtype_variant_of (codes "Size") d)
      (ap (λ n. Some (whole (pos n))) (content_only (λ (k : Msg) (x : ℕ). IsUnsigned 18446744073709551615 k x) (λ (x y : ℕ). x ≡ y) a j.0 c i j.2))
      ∙ term_by w (Term-F.Size j.0) j.1))
  term_level_only (Term-F.Offset a) h fit =
      lowers_then s (newtype_variant_of (codes "Offset") (Some (whole a))) _ (TermLevelOnly (Term-F.Offset a))
      (newtype_variant_row s term_names (codes "Offset") 9 refl
      (AtPlace 9 (Content (λ k. Only (λ (k : Msg) (x : ℤ). IsSigned (negsuc 9223372036854775807) (pos 9223372036854775807) k x) (λ (x y : ℤ). x ≡ y) k
      a))) (Some (whole a))
      (λ k. Only (λ (k : Msg) (x : ℤ). IsSigned (negsuc 9223372036854775807) (pos 9223372036854775807) k x) (λ (x y : ℤ). x ≡ y) k a) (λ m p. (refl, p))
      (signed_only s (negsuc 9223372036854775807) (pos 9223372036854775807) a))
      (λ m q w r. variant_both term_names 9 _ (TermCase IsTerm w) _ m q r
      (λ c i j. ap (λ d. newtype_variant_of (codes "Offset") d)
      (ap (λ n. Some (whole n)) (content_only (λ (k : Msg) (x : ℤ). IsSigned (negsuc 9223372036854775807) (pos 9223372036854775807) k x)
      (λ (x y : ℤ). x ≡ y) a j.0 c i j.2)) ∙ term_by w (Term-F.Offset j.0) j.1))
  term_level_only (Term-F.Big a) h fit =
      lowers_then s (newtype_variant_of (codes "Big") (Some (unsigned128 a))) _ (TermLevelOnly (Term-F.Big a))
      (newtype_variant_row s term_names (codes "Big") 10 refl
      (AtPlace 10 (Content (λ k. Only (λ (k : Msg) (x : ℕ). IsUnsigned128 k x) (λ (x y : ℕ). x ≡ y) k a))) (Some (unsigned128 a))
      (λ k. Only (λ (k : Msg) (x : ℕ). IsUnsigned128 k x) (λ (x y : ℕ). x ≡ y) k a) (λ m p. (refl, p)) (unsigned128_only s a fit))
      (λ m q w r. variant_both term_names 10 _ (TermCase IsTerm w) _ m q r
      (λ c i j. ap (λ d. newtype_variant_of (codes "Big") d)
      (ap (λ n. Some (unsigned128 n)) (content_only (λ (k : Msg) (x : ℕ). IsUnsigned128 k x) (λ (x y : ℕ). x ≡ y) a j.0 c i j.2))
      ∙ term_by w (Term-F.Big j.0) j.1))
  term_level_only (Term-F.Wide a) h fit =
      lowers_then s (newtype_variant_of (codes "Wide") (Some (signed128 a))) _ (TermLevelOnly (Term-F.Wide a))
      (newtype_variant_row s term_names (codes "Wide") 11 refl
      (AtPlace 11 (Content (λ k. Only (λ (k : Msg) (x : ℤ). IsSigned128 k x) (λ (x y : ℤ). x ≡ y) k a))) (Some (signed128 a))
      (λ k. Only (λ (k : Msg) (x : ℤ). IsSigned128 k x) (λ (x y : ℤ). x ≡ y) k a) (λ m p. (refl, p)) (signed128_only s a fit))
      (λ m q w r. variant_both term_names 11 _ (TermCase IsTerm w) _ m q r
      (λ c i j. ap (λ d. newtype_variant_of (codes "Wide") d)
      (ap (λ n. Some (signed128 n)) (content_only (λ (k : Msg) (x : ℤ). IsSigned128 k x) (λ (x y : ℤ). x ≡ y) a j.0 c i j.2))
      ∙ term_by w (Term-F.Wide j.0) j.1))
  term_level_only (Term-F.Not a) h fit =
      lowers_then s (newtype_variant_of (codes "Not") (term_data a.value)) _ (TermLevelOnly (Term-F.Not a))
      (newtype_variant_row s term_names (codes "Not") 12 refl
      (AtPlace 12 (Content (λ k. Only (λ (k : Msg) (x : Box Term Global). IsTerm k x.value) (λ (x y : Box Term Global). SameTerm x.value y.value) k a)))
      (term_data a.value)
      (λ k. Only (λ (k : Msg) (x : Box Term Global). IsTerm k x.value) (λ (x y : Box Term Global). SameTerm x.value y.value) k a) (λ m p. (refl, p))
      (inside_only s (term_data a.value) (λ b. b.value) IsTerm SameTerm a.value (h fit)))
      (λ m q w r. variant_both term_names 12 _ (TermCase IsTerm w) _ m q r
      (λ c i j. ap (λ d. newtype_variant_of (codes "Not") d)
      ((content_only (λ (k : Msg) (x : Box Term Global). IsTerm k x.value) (λ (x y : Box Term Global). SameTerm x.value y.value) a j.0 c i j.2))
      ∙ term_by w (Term-F.Not j.0) j.1))
  term_level_only (Term-F.Next None) h fit =
      lowers_then s (newtype_variant_of (codes "Next") (option_of (λ (b : Box Term Global). term_data b.value) None)) _ (TermLevelOnly (Term-F.Next None))
      (newtype_variant_row s term_names (codes "Next") 13 refl
      (AtPlace 13 (Content (λ k. Only (λ (k : Msg) (x : Option (Box Term Global)). IsOption (Boxed IsTerm) k x)
      (λ (x y : Option (Box Term Global)). AlikeOption (λ (b : Box Term Global) c. SameTerm b.value c.value) x y) k None)))
      (option_of (λ (b : Box Term Global). term_data b.value) None)
      (λ k. Only (λ (k : Msg) (x : Option (Box Term Global)). IsOption (Boxed IsTerm) k x)
      (λ (x y : Option (Box Term Global)). AlikeOption (λ (b : Box Term Global) c. SameTerm b.value c.value) x y) k None) (λ m p. (refl, p))
      (option_only s (option_of (λ (b : Box Term Global). term_data b.value) None) (Boxed IsTerm) (λ b c. SameTerm b.value c.value) None
      (option_row s (λ (b : Box Term Global). term_data b.value) (λ b. TermOnly b.value) (Only (Boxed IsTerm) (λ b c. SameTerm b.value c.value))
      (λ b. term_other s b.value) (λ b p. inside_only s (term_data b.value) (λ (b : Box Term Global). b.value) IsTerm SameTerm b.value p) None
      (option_from (λ (b : Box Term Global). term_fits b.value) (λ b. TermOnly b.value) None h fit))))
      (λ m q w r. variant_both term_names 13 _ (TermCase IsTerm w) _ m q r
      (λ c i j. ap (λ d. newtype_variant_of (codes "Next") d)
      (option_alike (λ (b : Box Term Global). term_data b.value) None j.0
      (content_only (λ (k : Msg) (x : Option (Box Term Global)). IsOption (Boxed IsTerm) k x)
      (λ (x y : Option (Box Term Global)). AlikeOption (λ (b : Box Term Global) c. SameTerm b.value c.value) x y) None j.0 c i j.2))
      ∙ sym (term_at_Next j.0) ∙ term_by w (Term-F.Next j.0) j.1))
  term_level_only (Term-F.Next (Some a)) h fit =
      lowers_then s (newtype_variant_of (codes "Next") (option_of (λ (b : Box Term Global). term_data b.value) (Some a))) _
      (TermLevelOnly (Term-F.Next (Some a)))
      (newtype_variant_row s term_names (codes "Next") 13 refl
      (AtPlace 13 (Content (λ k. Only (λ (k : Msg) (x : Option (Box Term Global)). IsOption (Boxed IsTerm) k x)
      (λ (x y : Option (Box Term Global)). AlikeOption (λ (b : Box Term Global) c. SameTerm b.value c.value) x y) k (Some a))))
      (option_of (λ (b : Box Term Global). term_data b.value) (Some a))
      (λ k. Only (λ (k : Msg) (x : Option (Box Term Global)). IsOption (Boxed IsTerm) k x)
      (λ (x y : Option (Box Term Global)). AlikeOption (λ (b : Box Term Global) c. SameTerm b.value c.value) x y) k (Some a)) (λ m p. (refl, p))
      (option_only s (option_of (λ (b : Box Term Global). term_data b.value) (Some a)) (Boxed IsTerm) (λ b c. SameTerm b.value c.value) (Some a)
      (option_row s (λ (b : Box Term Global). term_data b.value) (λ b. TermOnly b.value) (Only (Boxed IsTerm) (λ b c. SameTerm b.value c.value))
      (λ b. term_other s b.value) (λ b p. inside_only s (term_data b.value) (λ (b : Box Term Global). b.value) IsTerm SameTerm b.value p) (Some a)
      (option_from (λ (b : Box Term Global). term_fits b.value) (λ b. TermOnly b.value) (Some a) h fit))))
      (λ m q w r. variant_both term_names 13 _ (TermCase IsTerm w) _ m q r
      (λ c i j. ap (λ d. newtype_variant_of (codes "Next") d)
      (option_alike (λ (b : Box Term Global). term_data b.value) (Some a) j.0
      (content_only (λ (k : Msg) (x : Option (Box Term Global)). IsOption (Boxed IsTerm) k x)
      (λ (x y : Option (Box Term Global)). AlikeOption (λ (b : Box Term Global) c. SameTerm b.value c.value) x y) (Some a) j.0 c i j.2))
      ∙ sym (term_at_Next j.0) ∙ term_by w (Term-F.Next j.0) j.1))
  term_level_only (Term-F.Sum a) h fit =
      lowers_then s (newtype_variant_of (codes "Sum") (slice_of (map term_data a.items))) _ (TermLevelOnly (Term-F.Sum a))
      (newtype_variant_row s term_names (codes "Sum") 14 refl
      (AtPlace 14 (Content (λ k. Only (λ (k : Msg) (x : Vec Term Global). Row IsTerm k x.items)
      (λ (x y : Vec Term Global). Alike SameTerm x.items y.items) k a))) (slice_of (map term_data a.items))
      (λ k. Only (λ (k : Msg) (x : Vec Term Global). Row IsTerm k x.items) (λ (x y : Vec Term Global). Alike SameTerm x.items y.items) k a)
      (λ m p. (refl, p)) (list_only s (slice_of (map term_data a.items)) (λ us. us.items) IsTerm SameTerm a.items
      (slice_row s (map term_data a.items) (λ ms. ReadsEach (Only IsTerm SameTerm) ms a.items)
      (each_row s term_data TermOnly (Only IsTerm SameTerm) (λ w p. p) a.items (each_from term_fits TermOnly a.items h fit)))))
      (λ m q w r. variant_both term_names 14 _ (TermCase IsTerm w) _ m q r
      (λ c i j. ap (λ d. newtype_variant_of (codes "Sum") d)
      (ap slice_of (map_alike term_data a.items j.0.items
      (content_only (λ (k : Msg) (x : Vec Term Global). Row IsTerm k x.items) (λ (x y : Vec Term Global). Alike SameTerm x.items y.items) a j.0 c i
      j.2))) ∙ term_by w (Term-F.Sum j.0) j.1))

  pub term_only : (v : Term) → term_fits v → TermOnly v
  term_only = term_induction (λ v. term_fits v → TermOnly v)
      (λ v h fits. subst (λ d. LowersTo s d (λ m. Only IsTerm SameTerm m v)) (sym (term_is v))
      (lowers_then s (term_level (map-Term Term (Option Data) term_data (out-Term v))) (TermLevelOnly (out-Term v)) (λ m. Only IsTerm SameTerm m v)
      (term_level_only (out-Term v) h (term_fits_out v fits)) (λ m q w r. term_is v ∙ q w (term_out m w r))))
