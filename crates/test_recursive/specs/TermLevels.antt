-- What the recursive type Term is read from and written as, level by level. Written by tools/derive.py.
use Rattle.std.proofs.Common.{◌≡◌, ◌∙◌, refl, sym, ap, subst, ℕ, zero, suc, List, [], ◌∷◌, All, Option, None, Some, String, Box}
use Rattle.std.specs.Char.{IsScalar}
use Rattle.std.specs.Int.{w64, w128}
use Rattle.std.specs.List.{AllByRecursion}
use Rattle.std.specs.Prelude.{◌<◌, ◌^◌, ⊤, codes, Vec, Bool, ℤ, pos, negsuc, FitsSigned, IsUtf8, IfSome, string_bytes}
use Rattle.std.specs.declared.alloc.Global.{Global}
use Rattle.rmp_wire.specs.Msg.{Msg}
use Rattle.rmp_wire.specs.Types.{buffer_bytes}
use Rattle.rmp_wire.specs.declared.types.ByteBuf.{ByteBuf}
use Rattle.rmp_wire.specs.declared.types.F32Bits.{F32Bits}
use Rattle.rmp_wire.specs.declared.types.F64Bits.{F64Bits}
use Rattle.rmp_decode.specs.Buffers.{IsBuffer}
use Rattle.rmp_decode.specs.Wide.{IsUnsigned128, IsSigned128}
use Rattle.rmp_decode.specs.Law.{Readable}
use Rattle.rmp_decode.specs.Options.{IsOption}
use Rattle.rmp_decode.specs.Read.{IsUnsigned, IsSigned, IsRaw, IsChar}
use Rattle.rmp_decode.specs.Variants.{OfVariant, Case, NoCase, Bare, Content}
use Rattle.rmp_encode.specs.Data.{Data, whole, unsigned128, signed128, truth, float32, float64, char, text, bytes, unit_variant}
use Rattle.rmp_encode.specs.Trees.{slice_of, option_of, newtype_variant_of}
use Rattle.rmp_recursive.specs.Parts.{Row, Boxed, InSteps, row_as, row_in, option_as, option_in, variant_as, variant_in, each_holds, through}
use Rattle.test_recursive.specs.declared.trees.Term.{Term, out-Term}
use Rattle.test_recursive.specs.declared.trees.Term.TheFolds.{ind-Term, fold-Term, rec-Term, map-Term, rec-roll-Term, fold_out-Term}
use Rattle.test_recursive.specs.declared.trees.Term.TheOpen.{Term-F}
use Rattle.test_recursive.specs.declared.trees.Term.TheViews.{roll-Term, out-roll-Term, roll-out-Term}
use Rattle.rmp_wire.specs.Msg as msg

abbrev pub term_names : List (List ℕ)
term_names = codes "Nothing" ∷ (codes "Number" ∷ (codes "Name"
    ∷ (codes "Truth" ∷ (codes "Letter" ∷ (codes "Half"
    ∷ (codes "Whole" ∷ (codes "Bytes" ∷ (codes "Size" ∷
    (codes "Offset" ∷ (codes "Big" ∷ (codes "Wide" ∷ (codes "Not" ∷ (codes "Next" ∷ (codes "Sum" ∷ []))))))))))))))

-- ---- what it is read from

abbrev pub TermCase : (Msg → Term → Type 0) → Term → ℕ × Option Msg → Type 0
TermCase reads v = Case (λ c. (out-Term v ≡ Term-F.Nothing) × Bare c)
    (Case (λ c. (a : ℤ) × (out-Term v ≡ Term-F.Number a) × Content (λ k. IsSigned (negsuc 9223372036854775807) (pos 9223372036854775807) k a) c)
    (Case (λ c. (a : String Global) × (out-Term v ≡ Term-F.Name a) × Content (λ k. IsRaw k (string_bytes a)) c)
    (Case (λ c. (a : Bool) × (out-Term v ≡ Term-F.Truth a) × Content (λ k. k ≡ msg.truth a) c)
    (Case (λ c. (a : ℕ) × (out-Term v ≡ Term-F.Letter a) × Content (λ k. IsChar k a) c)
    (Case (λ c. (a : F32Bits) × (out-Term v ≡ Term-F.Half a) × Content (λ k. k ≡ msg.float32 a.0) c)
    (Case (λ c. (a : F64Bits) × (out-Term v ≡ Term-F.Whole a) × Content (λ k. k ≡ msg.float64 a.0) c)
    (Case (λ c. (a : ByteBuf) × (out-Term v ≡ Term-F.Bytes a) × Content (λ k. IsBuffer k (buffer_bytes a)) c)
    (Case (λ c. (a : ℕ) × (out-Term v ≡ Term-F.Size a) × Content (λ k. IsUnsigned 18446744073709551615 k a) c)
    (Case (λ c. (a : ℤ) × (out-Term v ≡ Term-F.Offset a) × Content (λ k. IsSigned (negsuc 9223372036854775807) (pos 9223372036854775807) k a) c)
    (Case (λ c. (a : ℕ) × (out-Term v ≡ Term-F.Big a) × Content (λ k. IsUnsigned128 k a) c)
    (Case (λ c. (a : ℤ) × (out-Term v ≡ Term-F.Wide a) × Content (λ k. IsSigned128 k a) c)
    (Case (λ c. (a : Box Term Global) × (out-Term v ≡ Term-F.Not a) × Content (λ k. reads k a.value) c)
    (Case (λ c. (a : Option (Box Term Global)) × (out-Term v ≡ Term-F.Next a) × Content (λ k. IsOption (Boxed reads) k a) c)
    (Case (λ c. (a : Vec Term Global) × (out-Term v ≡ Term-F.Sum a) × Content (λ k. Row reads k a.items) c)
    NoCase))))))))))))))

abbrev pub TermIn : ℕ → Msg → Term → Type 0
TermIn zero m v = ⊥
TermIn (suc n) m v = OfVariant term_names (TermCase (TermIn n) v) m

-- in some number of steps the message is read as the value
abbrev pub IsTerm : Msg → Term → Type 0
IsTerm m v = InSteps TermIn m v

-- ---- what it is written as: one level, of what its parts are written as

abbrev pub term_level : Term-F (Option Data) → Option Data
term_level Term-F.Nothing = Some (unit_variant (codes "Nothing"))
term_level (Term-F.Number a) = newtype_variant_of (codes "Number") (Some (whole a))
term_level (Term-F.Name a) = newtype_variant_of (codes "Name") (Some (text (string_bytes a)))
term_level (Term-F.Truth a) = newtype_variant_of (codes "Truth") (Some (truth a))
term_level (Term-F.Letter a) = newtype_variant_of (codes "Letter") (Some (char a))
term_level (Term-F.Half a) = newtype_variant_of (codes "Half") (Some (float32 a.0))
term_level (Term-F.Whole a) = newtype_variant_of (codes "Whole") (Some (float64 a.0))
term_level (Term-F.Bytes a) = newtype_variant_of (codes "Bytes") (Some (bytes (buffer_bytes a)))
term_level (Term-F.Size a) = newtype_variant_of (codes "Size") (Some (whole (pos a)))
term_level (Term-F.Offset a) = newtype_variant_of (codes "Offset") (Some (whole a))
term_level (Term-F.Big a) = newtype_variant_of (codes "Big") (Some (unsigned128 a))
term_level (Term-F.Wide a) = newtype_variant_of (codes "Wide") (Some (signed128 a))
term_level (Term-F.Not a) = newtype_variant_of (codes "Not") (a.value)
term_level (Term-F.Next a) = newtype_variant_of (codes "Next") (option_of (λ b. b.value) a)
term_level (Term-F.Sum a) = newtype_variant_of (codes "Sum") (slice_of a.items)

abbrev pub term_data : Term → Option Data
term_data = fold-Term (Option Data) term_level

-- ---- what is known of a value

abbrev pub term_layer_fits : (X : Type 0) → (X → Term) → (X → Type 0) → Term-F X → Type 0
term_layer_fits X at fits Term-F.Nothing = ⊤
term_layer_fits X at fits (Term-F.Number a) = FitsSigned w64 a
term_layer_fits X at fits (Term-F.Name a) = IsUtf8 (string_bytes a)
term_layer_fits X at fits (Term-F.Truth a) = ⊤
term_layer_fits X at fits (Term-F.Letter a) = IsScalar a
term_layer_fits X at fits (Term-F.Half a) = a.0 < 2 ^ 32
term_layer_fits X at fits (Term-F.Whole a) = a.0 < 2 ^ 64
term_layer_fits X at fits (Term-F.Bytes a) = ⊤
term_layer_fits X at fits (Term-F.Size a) = a < 2 ^ 64
term_layer_fits X at fits (Term-F.Offset a) = FitsSigned w64 a
term_layer_fits X at fits (Term-F.Big a) = a < 2 ^ 128
term_layer_fits X at fits (Term-F.Wide a) = FitsSigned w128 a
term_layer_fits X at fits (Term-F.Not a) = fits a.value
term_layer_fits X at fits (Term-F.Next a) = IfSome a (λ b. fits b.value)
term_layer_fits X at fits (Term-F.Sum a) = AllByRecursion fits a.items

abbrev pub term_fits : Term → Type 0
term_fits = rec-Term (Type 0) term_layer_fits

-- ---- one step more

term_as : (P Q : Msg → Term → Type 0) → ((m : Msg) (v : Term) → P m v → Q m v) → (v : Term) (k : ℕ) (c : Option Msg) → TermCase P v (k, c) → TermCase Q v (k, c)
term_as P Q f v zero c h = h
term_as P Q f v (suc zero) c h = h
term_as P Q f v (suc (suc zero)) c h = h
term_as P Q f v (suc (suc (suc zero))) c h = h
term_as P Q f v (suc (suc (suc (suc zero)))) c h = h
term_as P Q f v (suc (suc (suc (suc (suc zero))))) c h = h
term_as P Q f v (suc (suc (suc (suc (suc (suc zero)))))) c h = h
term_as P Q f v (suc (suc (suc (suc (suc (suc (suc zero))))))) c h = h
term_as P Q f v (suc (suc (suc (suc (suc (suc (suc (suc zero)))))))) c h = h
term_as P Q f v (suc (suc (suc (suc (suc (suc (suc (suc (suc zero))))))))) c h = h
term_as P Q f v (suc (suc (suc (suc (suc (suc (suc (suc (suc (suc zero)))))))))) c h = h
term_as P Q f v (suc (suc (suc (suc (suc (suc (suc (suc (suc (suc (suc zero))))))))))) c h = h
term_as P Q f v (suc (suc (suc (suc (suc (suc (suc (suc (suc (suc (suc (suc zero)))))))))))) None (a, e, h) = absurd h
term_as P Q f v (suc (suc (suc (suc (suc (suc (suc (suc (suc (suc (suc (suc zero)))))))))))) (Some m) (a, e, h) = (a, e, f m a.value h)
term_as P Q f v (suc (suc (suc (suc (suc (suc (suc (suc (suc (suc (suc (suc (suc zero))))))))))))) None (a, e, h) = absurd h
term_as P Q f v (suc (suc (suc (suc (suc (suc (suc (suc (suc (suc (suc (suc (suc zero))))))))))))) (Some m)
    (a, e, h) = (a, e, option_as (Boxed P) (Boxed Q) (λ n b. f n b.value) m a h)
term_as P Q f v (suc (suc (suc (suc (suc (suc (suc (suc (suc (suc (suc (suc (suc (suc zero)))))))))))))) None (a, e, h) = absurd h
term_as P Q f v (suc (suc (suc (suc (suc (suc (suc (suc (suc (suc (suc (suc (suc (suc zero)))))))))))))) (Some m) (a, e, h) = (a, e, row_as P Q f m a.items h)
term_as P Q f v (suc (suc (suc (suc (suc (suc (suc (suc (suc (suc (suc (suc (suc (suc (suc k))))))))))))))) c h = absurd h

term_up : (n : ℕ) (m : Msg) (v : Term) → TermIn n m v → TermIn (suc n) m v
term_up zero m v h = absurd h
term_up (suc n) m v h =
    variant_as term_names (TermCase (TermIn n) v) (TermCase (TermIn (suc n)) v) (term_as (TermIn n) (TermIn (suc n)) (term_up n) v) m h

term_in : (v : Term) (k : ℕ) (c : Option Msg) → TermCase IsTerm v (k, c) → (n : ℕ) × TermCase (TermIn n) v (k, c)
term_in v zero c h = (zero, h)
term_in v (suc zero) c h = (zero, h)
term_in v (suc (suc zero)) c h = (zero, h)
term_in v (suc (suc (suc zero))) c h = (zero, h)
term_in v (suc (suc (suc (suc zero)))) c h = (zero, h)
term_in v (suc (suc (suc (suc (suc zero))))) c h = (zero, h)
term_in v (suc (suc (suc (suc (suc (suc zero)))))) c h = (zero, h)
term_in v (suc (suc (suc (suc (suc (suc (suc zero))))))) c h = (zero, h)
term_in v (suc (suc (suc (suc (suc (suc (suc (suc zero)))))))) c h = (zero, h)
term_in v (suc (suc (suc (suc (suc (suc (suc (suc (suc zero))))))))) c h = (zero, h)
term_in v (suc (suc (suc (suc (suc (suc (suc (suc (suc (suc zero)))))))))) c h = (zero, h)
term_in v (suc (suc (suc (suc (suc (suc (suc (suc (suc (suc (suc zero))))))))))) c h = (zero, h)
term_in v (suc (suc (suc (suc (suc (suc (suc (suc (suc (suc (suc (suc zero)))))))))))) None (a, e, h) = absurd h
term_in v (suc (suc (suc (suc (suc (suc (suc (suc (suc (suc (suc (suc zero)))))))))))) (Some m) (a, e, h) = let i = h in (i.0, (a, e, i.1))
term_in v (suc (suc (suc (suc (suc (suc (suc (suc (suc (suc (suc (suc (suc zero))))))))))))) None (a, e, h) = absurd h
term_in v (suc (suc (suc (suc (suc (suc (suc (suc (suc (suc (suc (suc (suc zero))))))))))))) (Some m) (a, e, h) = let i = option_in (λ n. Boxed (TermIn n))
    m a h in (i.0, (a, e, i.1))
term_in v (suc (suc (suc (suc (suc (suc (suc (suc (suc (suc (suc (suc (suc (suc zero)))))))))))))) None (a, e, h) = absurd h
term_in v (suc (suc (suc (suc (suc (suc (suc (suc (suc (suc (suc (suc (suc (suc zero)))))))))))))) (Some m) (a, e, h) = let i = row_in TermIn term_up m
    a.items h in (i.0, (a, e, i.1))
term_in v (suc (suc (suc (suc (suc (suc (suc (suc (suc (suc (suc (suc (suc (suc (suc k))))))))))))))) c h = absurd h

pub term_made : (v : Term) (m : Msg) → OfVariant term_names (TermCase IsTerm v) m → IsTerm m v
term_made v m h = let i = variant_in term_names (TermCase IsTerm v) (λ n. TermCase (TermIn n) v) (term_in v) m h in (suc i.0, i.1)

pub term_out : (m : Msg) (v : Term) → IsTerm m v → OfVariant term_names (TermCase IsTerm v) m
term_out m v (zero, h) = absurd h
term_out m v (suc n, h) = variant_as term_names (TermCase (TermIn n) v) (TermCase IsTerm v) (term_as (TermIn n) IsTerm (λ k w p. (n, p)) v) m h

pub term_variant : (m : Msg) → Readable IsTerm m → Readable (λ k v. OfVariant term_names (TermCase IsTerm v) k) m
term_variant m (v, h) = (v, term_out m v h)

-- ---- induction

-- P holds of the parts
abbrev pub TermParts : (Term → Type 0) → Term-F Term → Type 0
TermParts P Term-F.Nothing = ⊤
TermParts P (Term-F.Number a) = ⊤
TermParts P (Term-F.Name a) = ⊤
TermParts P (Term-F.Truth a) = ⊤
TermParts P (Term-F.Letter a) = ⊤
TermParts P (Term-F.Half a) = ⊤
TermParts P (Term-F.Whole a) = ⊤
TermParts P (Term-F.Bytes a) = ⊤
TermParts P (Term-F.Size a) = ⊤
TermParts P (Term-F.Offset a) = ⊤
TermParts P (Term-F.Big a) = ⊤
TermParts P (Term-F.Wide a) = ⊤
TermParts P (Term-F.Not a) = P a.value
TermParts P (Term-F.Next a) = IfSome a (λ b. P b.value)
TermParts P (Term-F.Sum a) = All P a.items

term_parts_hold : {B : Type 0} (P : Term → Type 0) (first : B → Term) → ((b : B) → P (first b)) → (y : Term-F B) → TermParts P (map-Term B Term first y)
term_parts_hold P first h Term-F.Nothing = tt
term_parts_hold P first h (Term-F.Number a) = tt
term_parts_hold P first h (Term-F.Name a) = tt
term_parts_hold P first h (Term-F.Truth a) = tt
term_parts_hold P first h (Term-F.Letter a) = tt
term_parts_hold P first h (Term-F.Half a) = tt
term_parts_hold P first h (Term-F.Whole a) = tt
term_parts_hold P first h (Term-F.Bytes a) = tt
term_parts_hold P first h (Term-F.Size a) = tt
term_parts_hold P first h (Term-F.Offset a) = tt
term_parts_hold P first h (Term-F.Big a) = tt
term_parts_hold P first h (Term-F.Wide a) = tt
term_parts_hold P first h (Term-F.Not a) = h a.value
term_parts_hold P first h (Term-F.Next None) = tt
term_parts_hold P first h (Term-F.Next (Some a)) = h a.value
term_parts_hold P first h (Term-F.Sum a) = each_holds P first h a.items

-- what holds of a value where it holds of its parts holds of each value
pub term_induction : (P : Term → Type 0) → ((v : Term) → TermParts P (out-Term v) → P v) → (v : Term) → P v
term_induction P step =
    ind-Term P (λ x y same. step (roll-Term x) (subst (TermParts P) (same ∙ sym (out-roll-Term x)) (term_parts_hold P (λ e. e.0) (λ e. e.1) y)))

term_through : (X : Type 0) (at : X → Term) (k : Term → Type 0) (x : Term-F X)
    → term_layer_fits X at (λ p. k (at p)) x ≡ term_layer_fits Term (λ y. y) k (map-Term X Term at x)
term_through X at k Term-F.Nothing = refl
term_through X at k (Term-F.Number a) = refl
term_through X at k (Term-F.Name a) = refl
term_through X at k (Term-F.Truth a) = refl
term_through X at k (Term-F.Letter a) = refl
term_through X at k (Term-F.Half a) = refl
term_through X at k (Term-F.Whole a) = refl
term_through X at k (Term-F.Bytes a) = refl
term_through X at k (Term-F.Size a) = refl
term_through X at k (Term-F.Offset a) = refl
term_through X at k (Term-F.Big a) = refl
term_through X at k (Term-F.Wide a) = refl
term_through X at k (Term-F.Not a) = λ i. k (at a.value)
term_through X at k (Term-F.Next None) = λ i. ⊤
term_through X at k (Term-F.Next (Some a)) = λ i. k (at a.value)
term_through X at k (Term-F.Sum a) = λ i. through at k a.items i

abbrev pub TermFits : Term-F Term → Type 0
TermFits x = term_layer_fits Term (λ y. y) term_fits x

term_fits_is : (v : Term) → term_fits v ≡ TermFits (out-Term v)
term_fits_is v = ap term_fits (sym (roll-out-Term v)) ∙ rec-roll-Term (Type 0) term_layer_fits term_through (out-Term v)

pub term_fits_out : (v : Term) → term_fits v → TermFits (out-Term v)
term_fits_out v h = subst (λ T. T) (term_fits_is v) h

pub term_fits_in : (v : Term) (x : Term-F Term) → out-Term v ≡ x → TermFits x → term_fits v
term_fits_in v x e h = subst (λ T. T) (sym (term_fits_is v)) (subst TermFits (sym e) h)

pub term_is : (v : Term) → term_data v ≡ term_level (map-Term Term (Option Data) term_data (out-Term v))
term_is v = fold_out-Term (Option Data) term_level v

pub term_is_at : (v : Term) (x : Term-F Term) → out-Term v ≡ x → term_data v ≡ term_level (map-Term Term (Option Data) term_data x)
term_is_at v x e = term_is v ∙ ap (λ z. term_level (map-Term Term (Option Data) term_data z)) e

pub term_at_Next : (a : Option (Box Term Global)) → term_level (map-Term Term (Option Data) term_data (Term-F.Next a)) ≡ newtype_variant_of (codes "Next")
    (option_of (λ (b : Box Term Global). term_data b.value) a)
term_at_Next None = refl
term_at_Next (Some a) = refl
