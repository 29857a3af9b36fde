-- What Span is read from and written as, where a recursive type holds it. Written by tools/derive.py.
use Rattle.std.proofs.Common.{◌≡◌, refl, ap, ℕ, List, [], ◌∷◌, Option, None, Some}
use Rattle.std.specs.Prelude.{◌≢◌, ◌<◌, ◌^◌, codes, pos, IsSome, IfSome}
use Rattle.rmp_wire.specs.Msg.{Msg, nil}
use Rattle.rmp_decode.specs.Fields.{OfFields, Field, Absent, NoField}
use Rattle.rmp_decode.specs.Options.{IsOption}
use Rattle.rmp_decode.specs.Read.{IsUnsigned}
use Rattle.rmp_encode.specs.Data.{Data, whole}
use Rattle.rmp_encode.specs.Trees.{tree_of, option_of, structure_of}
use Rattle.rmp_encode.specs.declared.settings.Settings.{Settings}
use Rattle.rmp_round_trip.specs.LeafRounds.{unsigned_row_32, pos_other}
use Rattle.rmp_round_trip.specs.OnlyFields.{fields_both, field_only, last_field}
use Rattle.rmp_round_trip.specs.OnlyLeaves.{unsigned_only}
use Rattle.rmp_round_trip.specs.OnlyRows.{option_only, lowers_then}
use Rattle.rmp_round_trip.specs.RoundTrip.{AlikeOption, LowersTo, Only}
use Rattle.rmp_round_trip.specs.Rounds.{option_some, option_row}
use Rattle.rmp_round_trip.specs.StructRounds.{structure_all, structure_row, structure_other, fields_none, fields_cons}
use Rattle.rmp_recursive.specs.Leaves.{option_alike_by}
use Rattle.test_recursive.specs.declared.tasks.Span.{Span}

abbrev pub span_names : List (List ℕ)
span_names = codes "first" ∷ (codes "last" ∷ [])

abbrev pub span_data : Span → Option Data
span_data v = structure_of ((codes "first", Some (whole (pos v.first))) ∷ ((codes "last", option_of (λ (q : ℕ). Some (whole (pos q))) v.last) ∷ []))

abbrev pub span_fits : Span → Type 0
span_fits v = (v.first < 2 ^ 32) × (IfSome v.last (λ (q : ℕ). q < 2 ^ 32))

abbrev pub IsSpan : Msg → Span → Type 0
IsSpan m v = OfFields span_names (Field (λ j. IsUnsigned 4294967295 j v.first) (Absent None v.first)
    (Field (λ j. IsOption (λ j q. IsUnsigned 4294967295 j q) j v.last) (Absent (Some None) v.last) NoField)) m

pub span_some : (v : Span) → IsSome (span_data v)
span_some v = structure_all ((codes "first", Some (whole (pos v.first))) ∷ ((codes "last", option_of (λ (q : ℕ). Some (whole (pos q))) v.last) ∷ []))
    (refl, ((option_some (λ (q : ℕ). Some (whole (pos q))) (λ (q : ℕ). refl) v.last), tt))

-- values of the same content are written alike
abbrev pub SameSpan : Span → Span → Type 0
SameSpan v w = (v.first ≡ w.first) × (AlikeOption (λ (q r : ℕ). q ≡ r) v.last w.last)

pub span_alike : (v w : Span) → SameSpan v w → span_data v ≡ span_data w
span_alike v w e = λ t. structure_of ((codes "first", (ap (λ n. Some (whole (pos n))) e.0) t)
    ∷ ((
      codes "last",
      (option_alike_by (λ (q : ℕ). Some (whole (pos q))) (λ (q r : ℕ). q ≡ r) (λ q r e. ap (λ n. Some (whole (pos n))) e) v.last w.last e.1)
          t,
    ) ∷ []))

module _ (s : Settings) where
  pub span_other : (v : Span) → tree_of s (span_data v) ≢ Some nil
  span_other v = structure_other s ((codes "first", Some (whole (pos v.first))) ∷ ((codes "last", option_of (λ (q : ℕ). Some (whole (pos q))) v.last) ∷ []))

  pub span_row : (v : Span) → span_fits v → LowersTo s (span_data v) (λ m. IsSpan m v)
  span_row v fit = structure_row s span_names ((codes "first", Some (whole (pos v.first)))
      ∷ ((codes "last", option_of (λ (q : ℕ). Some (whole (pos q))) v.last) ∷ [])) _ refl
      (fields_cons s (codes "first") _ _ _ (λ j. IsUnsigned 4294967295 j v.first) (Absent None v.first) _ (unsigned_row_32 s v.first fit.0)
      (fields_cons s (codes "last") _ _ _ (λ j. IsOption (λ j q. IsUnsigned 4294967295 j q) j v.last) (Absent (Some None) v.last) _
      (option_row s (λ (q : ℕ). Some (whole (pos q))) (λ (q : ℕ). q < 2 ^ 32) (λ (j : Msg) (q : ℕ). IsUnsigned 4294967295 j q)
      (λ (q : ℕ). pos_other s q) (λ q u. unsigned_row_32 s q u) v.last fit.1) (fields_none s)))

  pub span_only : (v : Span) → span_fits v → LowersTo s (span_data v) (λ m. (w : Span) → IsSpan m w → SameSpan v w)
  span_only v fit = lowers_then s (span_data v) _ (λ m. (w : Span) → IsSpan m w → SameSpan v w)
      (structure_row s span_names ((codes "first", Some (whole (pos v.first))) ∷ ((codes "last", option_of (λ (q : ℕ). Some (whole (pos q))) v.last) ∷ []))
      (Field (λ k. Only (λ (j : Msg) (q : ℕ). IsUnsigned 4294967295 j q) (λ (q r : ℕ). q ≡ r) k v.first) ⊥
      (Field (λ k. Only (λ (j : Msg) (q : Option (ℕ)). IsOption (λ j q. IsUnsigned 4294967295 j q) j q)
      (λ (q r : Option (ℕ)). AlikeOption (λ (q r : ℕ). q ≡ r) q r) k v.last) ⊥ NoField)) refl
      (fields_cons s (codes "first") _ _ _ (λ k. Only (λ (j : Msg) (q : ℕ). IsUnsigned 4294967295 j q) (λ (q r : ℕ). q ≡ r) k v.first) ⊥ _
      (unsigned_only s 4294967295 v.first) (fields_cons s (codes "last") _ _ _
      (λ k. Only (λ (j : Msg) (q : Option (ℕ)). IsOption (λ j q. IsUnsigned 4294967295 j q) j q)
      (λ (q r : Option (ℕ)). AlikeOption (λ (q r : ℕ). q ≡ r) q r) k v.last) ⊥ _
      (option_only s (option_of (λ (q : ℕ). Some (whole (pos q))) v.last) (λ (j : Msg) (q : ℕ). IsUnsigned 4294967295 j q) (λ (q r : ℕ). q ≡ r) v.last
      (option_row s (λ (q : ℕ). Some (whole (pos q))) (λ (q : ℕ). q < 2 ^ 32) (Only (λ (j : Msg) (q : ℕ). IsUnsigned 4294967295 j q) (λ (q r : ℕ). q ≡ r))
      (λ (q : ℕ). pos_other s q) (λ q u. unsigned_only s 4294967295 q) v.last fit.1)) (fields_none s))))
      (λ m q w r. fields_both span_names _ _ _ m q r (λ fs i j.
      let x = (field_only (λ (j : Msg) (q : ℕ). IsUnsigned 4294967295 j q) (λ (q r : ℕ). q ≡ r) v.first w.first _ _ _ _
      (last_field (λ (j : Msg) (q : Option (ℕ)). IsOption (λ j q. IsUnsigned 4294967295 j q) j q)
      (λ (q r : Option (ℕ)). AlikeOption (λ (q r : ℕ). q ≡ r) q r) v.last w.last _)) fs i j in (x.0, x.1)))
