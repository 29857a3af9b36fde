-- Each Doc is read as it was written, and as nothing else. Written by tools/derive.py.
use Rattle.std.proofs.Common.{◌≡◌, ◌∙◌, refl, sym, ap, subst, [], ◌∷◌, map, Option, None, Some, String, Box}
use Rattle.std.specs.Prelude.{◌≢◌, codes, Vec, IsUtf8, IsSome, string_bytes}
use Rattle.std.specs.declared.alloc.Global.{Global}
use Rattle.rmp_wire.specs.Msg.{Msg, nil}
use Rattle.rmp_decode.specs.Fields.{OfFields, Field, Absent, NoField}
use Rattle.rmp_decode.specs.Read.{IsRaw}
use Rattle.rmp_decode.specs.Rows.{ReadsEach, AndThen, NoMore}
use Rattle.rmp_decode.specs.Seq.{OfRow}
use Rattle.rmp_decode.specs.Variants.{OfVariant, Content}
use Rattle.rmp_encode.specs.Data.{Data, text, unit_variant}
use Rattle.rmp_encode.specs.Trees.{tree_of, tuple_of, slice_of, newtype_variant_of, struct_variant_of}
use Rattle.rmp_encode.specs.declared.settings.Settings.{Settings}
use Rattle.rmp_round_trip.specs.LeafRounds.{string_row}
use Rattle.rmp_round_trip.specs.OnlyFields.{AtPlace, AnyContent, content_only, content_fields, variant_both, field_only, last_field}
use Rattle.rmp_round_trip.specs.OnlyLeaves.{string_only}
use Rattle.rmp_round_trip.specs.OnlyRows.{row_both, inside_only, item_only, last_only, list_only, lowers_then}
use Rattle.rmp_round_trip.specs.RoundTrip.{Alike, LowersTo, Only}
use Rattle.rmp_round_trip.specs.Rounds.{slice_some, each_row, slice_row, tuple_row, rows_none, rows_cons}
use Rattle.rmp_round_trip.specs.StructRounds.{tuple_all, struct_variant_all, fields_none, fields_cons}
use Rattle.rmp_round_trip.specs.VariantRounds.{
  newtype_variant_some,
  bare_row,
  newtype_variant_row,
  struct_variant_row,
  bare_other,
  newtype_variant_other,
  struct_variant_other,
}
use Rattle.rmp_recursive.specs.Parts.{Row, each_from}
use Rattle.rmp_recursive.specs.Given.{alike_as}
use Rattle.rmp_recursive.specs.Shapes.{each_both, each_as}
use Rattle.rmp_recursive.specs.Leaves.{maps_alike_by}
use Rattle.rmp_recursive.specs.Rounds.{each_data, lowers_as, map_alike}
use Rattle.test_nodes.specs.declared.parts.Doc.{Doc, out-Doc}
use Rattle.test_nodes.specs.declared.parts.Doc.TheFolds.{map-Doc}
use Rattle.test_nodes.specs.declared.parts.Doc.TheOpen.{Doc-F}
use Rattle.test_nodes.specs.DocLevels.{
  DocCase,
  IsDoc,
  DocParts,
  DocFits,
  DocFramedFields,
  doc_framed_names,
  doc_at_Object,
  doc_names,
  doc_level,
  doc_data,
  doc_fits,
  doc_made,
  doc_out,
  doc_induction,
  doc_fits_out,
  doc_is,
  doc_is_at,
}
use Rattle.test_nodes.specs.declared.parts.Id.{Id as TheId}
use Rattle.test_nodes.specs.declared.parts.Width.{Width as TheWidth}

module _ (data_of : (TheWidth → Option Data) × (TheId → Option Data))
    (some_of : ((x : TheWidth) → IsSome (data_of.0 x)) × ((x : TheId) → IsSome (data_of.1 x))) where
  -- ---- no value is refused

  doc_level_some : (x : Doc-F Doc) → DocParts (λ t. IsSome ((doc_data data_of) t)) x
      → IsSome ((doc_level data_of) (map-Doc Doc (Option Data) (doc_data data_of) x))
  doc_level_some Doc-F.Null h = refl
  doc_level_some (Doc-F.Wide a) h = newtype_variant_some (codes "Wide") (data_of.0 a) (some_of.0 a)
  doc_level_some (Doc-F.Framed a0 a1) h = struct_variant_all (codes "Framed")
      ((codes "id", data_of.1 a0) ∷ ((codes "doc", (doc_data data_of) a1.value) ∷ [])) ((some_of.1 a0), (h, tt))
  doc_level_some (Doc-F.Array a) h = newtype_variant_some (codes "Array") (slice_of (map (doc_data data_of) a.items))
      (slice_some (map (doc_data data_of) a.items) (each_data (doc_data data_of) a.items h))
  doc_level_some (Doc-F.Object a) h = subst IsSome (sym ((doc_at_Object data_of) a))
      (newtype_variant_some (codes "Object") (slice_of (map
      (λ (q : String Global × Doc). tuple_of (Some (text (string_bytes q.0)) ∷ ((doc_data data_of) q.1 ∷ []))) a.items))
      (slice_some (map (λ (q : String Global × Doc). tuple_of (Some (text (string_bytes q.0)) ∷ ((doc_data data_of) q.1 ∷ []))) a.items)
      (each_data (λ (q : String Global × Doc). tuple_of (Some (text (string_bytes q.0)) ∷ ((doc_data data_of) q.1 ∷ []))) a.items
      (each_as _ _ (λ (q : String Global × Doc) g. (tuple_all (Some (text (string_bytes q.0)) ∷ ((doc_data data_of) q.1 ∷ [])) (refl, (g, tt))))
      a.items h))))

  pub doc_some : (v : Doc) → IsSome ((doc_data data_of) v)
  doc_some = doc_induction (λ v. IsSome ((doc_data data_of) v)) (λ v h. subst IsSome (sym ((doc_is data_of) v)) (doc_level_some (out-Doc v) h))

module _ (s : Settings) (data_of : (TheWidth → Option Data) × (TheId → Option Data)) where
  -- ---- it is never nil

  doc_level_other : (x : Doc-F (Option Data)) → tree_of s ((doc_level data_of) x) ≢ Some nil
  doc_level_other Doc-F.Null e = bare_other s (codes "Null") e
  doc_level_other (Doc-F.Wide a) e = newtype_variant_other s (codes "Wide") (data_of.0 a) e
  doc_level_other (Doc-F.Framed a0 a1) e = struct_variant_other s (codes "Framed") ((codes "id", data_of.1 a0) ∷ ((codes "doc", a1.value) ∷ [])) e
  doc_level_other (Doc-F.Array a) e = newtype_variant_other s (codes "Array") (slice_of a.items) e
  doc_level_other (Doc-F.Object a) e = newtype_variant_other s (codes "Object")
      (slice_of (map (λ (q : String Global × (Option Data)). tuple_of (Some (text (string_bytes q.0)) ∷ (q.1 ∷ []))) a.items)) e

  pub doc_other : (v : Doc) → tree_of s ((doc_data data_of) v) ≢ Some nil
  doc_other v e = doc_level_other (map-Doc Doc (Option Data) (doc_data data_of) (out-Doc v)) (ap (tree_of s) (sym ((doc_is data_of) v)) ∙ e)

module _ (s : Settings) (reads_of : (Msg → TheWidth → Type 0) × (Msg → TheId → Type 0)) (data_of : (TheWidth → Option Data) × (TheId → Option Data))
    (fits_of : (TheWidth → Type 0) × (TheId → Type 0))
    (row_of : ((x : TheWidth) → fits_of.0 x → LowersTo s (data_of.0 x) (λ m. reads_of.0 m x)) × ((x : TheId) → fits_of.1 x
    → LowersTo s (data_of.1 x) (λ m. reads_of.1 m x))) where
  -- ---- what a value lowers to is read as that value

  abbrev DocBack : Doc → Type 0
  DocBack v = LowersTo s ((doc_data data_of) v) (λ m. (IsDoc reads_of) m v)

  abbrev DocRound : Doc → Type 0
  DocRound v = (doc_fits fits_of) v → DocBack v

  doc_level_round : (v : Doc) (x : Doc-F Doc) → out-Doc v ≡ x → DocParts DocRound x → (DocFits fits_of) x
      → LowersTo s ((doc_level data_of) (map-Doc Doc (Option Data) (doc_data data_of) x))
      (λ m. OfVariant (doc_names reads_of) ((DocCase reads_of) (IsDoc reads_of) v) m)
  doc_level_round v Doc-F.Null e h fit = bare_row s (doc_names reads_of) (codes "Null") 0 refl ((DocCase reads_of) (IsDoc reads_of) v) (e, tt)
  doc_level_round v (Doc-F.Wide a) e h fit = newtype_variant_row s (doc_names reads_of) (codes "Wide") 1 refl ((DocCase reads_of) (IsDoc reads_of) v)
      (data_of.0 a) (λ m. reads_of.0 m a) (λ m p. (a, e, p)) (row_of.0 a fit)
  doc_level_round v (Doc-F.Framed a0 a1) e h fit = struct_variant_row s (doc_names reads_of) (codes "Framed") 2 refl ((DocCase reads_of) (IsDoc reads_of) v)
      (doc_framed_names reads_of) _ (λ fs. (DocFramedFields reads_of) (IsDoc reads_of) fs (a0, a1)) refl (λ m p. ((a0, a1), e, p))
      (fields_cons s (codes "id") _ _ _ (λ k. reads_of.1 k a0) (Absent None a0) _ (row_of.1 a0 fit.0)
      (fields_cons s (codes "doc") _ _ _ (λ k. (IsDoc reads_of) k a1.value) (Absent None a1) _ (h fit.1) (fields_none s)))
  doc_level_round v (Doc-F.Array a) e h fit = newtype_variant_row s (doc_names reads_of) (codes "Array") 3 refl ((DocCase reads_of) (IsDoc reads_of) v)
      (slice_of (map (doc_data data_of) a.items)) (λ m. Row (IsDoc reads_of) m a.items) (λ m p. (a, e, p))
      (slice_row s (map (doc_data data_of) a.items) (λ ms. ReadsEach (IsDoc reads_of) ms a.items)
      (each_row s (doc_data data_of) DocBack (IsDoc reads_of) (λ w p. p) a.items (each_from (doc_fits fits_of) DocBack a.items h fit)))
  doc_level_round v (Doc-F.Object a) e h fit = subst (λ d. LowersTo s d (λ m. OfVariant (doc_names reads_of) ((DocCase reads_of) (IsDoc reads_of) v) m))
      (sym ((doc_at_Object data_of) a))
      (newtype_variant_row s (doc_names reads_of) (codes "Object") 4 refl ((DocCase reads_of) (IsDoc reads_of) v)
      (slice_of (map (λ (q : String Global × Doc). tuple_of (Some (text (string_bytes q.0)) ∷ ((doc_data data_of) q.1 ∷ []))) a.items))
      (λ m. Row (λ j q. OfRow (AndThen (λ j. IsRaw j (string_bytes q.0)) (AndThen (λ j. (IsDoc reads_of) j q.1) NoMore)) j) m a.items)
      (λ m p. (a, e, p)) (slice_row s (map (λ (q : String Global × Doc). tuple_of (Some (text (string_bytes q.0)) ∷ ((doc_data data_of) q.1 ∷ [])))
      a.items) (λ ms. ReadsEach (λ (j : Msg) (q : String Global × Doc). OfRow
      (AndThen (λ j. IsRaw j (string_bytes q.0)) (AndThen (λ j. (IsDoc reads_of) j q.1) NoMore)) j) ms a.items)
      (each_row s (λ (q : String Global × Doc). tuple_of (Some (text (string_bytes q.0)) ∷ ((doc_data data_of) q.1 ∷ [])))
      (λ (q : String Global × Doc). LowersTo s (tuple_of (Some (text (string_bytes q.0)) ∷ ((doc_data data_of) q.1 ∷ [])))
      (λ m. (λ (j : Msg) (q : String Global × Doc). OfRow (AndThen (λ j. IsRaw j (string_bytes q.0)) (AndThen (λ j. (IsDoc reads_of) j q.1) NoMore)) j)
      m q)) (λ (j : Msg) (q : String Global × Doc). OfRow (AndThen (λ j. IsRaw j (string_bytes q.0)) (AndThen (λ j. (IsDoc reads_of) j q.1) NoMore)) j)
      (λ q u. u) a.items
      (each_both (λ (q : String Global × Doc). ((λ (v : Doc). (doc_fits fits_of) v → DocBack v) q.1))
      (λ (q : String Global × Doc). (IsUtf8 (string_bytes q.0)) × ((doc_fits fits_of) q.1))
      (λ (q : String Global × Doc). LowersTo s (tuple_of (Some (text (string_bytes q.0)) ∷ ((doc_data data_of) q.1 ∷ [])))
      (λ m. (λ (j : Msg) (q : String Global × Doc). OfRow (AndThen (λ j. IsRaw j (string_bytes q.0)) (AndThen (λ j. (IsDoc reads_of) j q.1) NoMore)) j)
      m q)) (λ q g u. tuple_row s _ _ (rows_cons s _ _ (λ j. IsRaw j (string_bytes q.0)) _ (string_row s (string_bytes q.0))
      (rows_cons s _ _ (λ j. (IsDoc reads_of) j q.1) _ (g u.1) (rows_none s)))) a.items h fit))))

  pub doc_round : (v : Doc) → DocRound v
  doc_round = doc_induction DocRound
      (λ v h fits. subst (λ d. LowersTo s d (λ m. (IsDoc reads_of) m v)) (sym ((doc_is data_of) v))
      (lowers_as s ((doc_level data_of) (map-Doc Doc (Option Data) (doc_data data_of) (out-Doc v)))
      (λ m. OfVariant (doc_names reads_of) ((DocCase reads_of) (IsDoc reads_of) v) m) (λ m. (IsDoc reads_of) m v)
      ((doc_made reads_of) v) (doc_level_round v (out-Doc v) refl h ((doc_fits_out fits_of) v fits))))

module _ (same_of : (TheWidth → TheWidth → Type 0) × (TheId → TheId → Type 0)) where
  -- ---- values of the same content are written alike

  abbrev pub SameDoc : Doc → Doc → Type 0
  SameDoc v w = (data_of : (TheWidth → Option Data) × (TheId → Option Data))
      → (((x y : TheWidth) → same_of.0 x y → data_of.0 x ≡ data_of.0 y) × ((x y : TheId) → same_of.1 x y → data_of.1 x ≡ data_of.1 y))
      → (doc_data data_of) v ≡ (doc_data data_of) w

module _ (data_of : (TheWidth → Option Data) × (TheId → Option Data)) where
  doc_by : (w : Doc) (y : Doc-F Doc) → out-Doc w ≡ y → (doc_level data_of) (map-Doc Doc (Option Data) (doc_data data_of) y) ≡ (doc_data data_of) w
  doc_by w y e = sym ((doc_is_at data_of) w y e)

module _ (s : Settings) (reads_of : (Msg → TheWidth → Type 0) × (Msg → TheId → Type 0)) (data_of : (TheWidth → Option Data) × (TheId → Option Data))
    (fits_of : (TheWidth → Type 0) × (TheId → Type 0)) (same_of : (TheWidth → TheWidth → Type 0) × (TheId → TheId → Type 0))
    (only_of : ((x : TheWidth) → fits_of.0 x → LowersTo s (data_of.0 x) (λ m. Only reads_of.0 same_of.0 m x)) × ((x : TheId) → fits_of.1 x
    → LowersTo s (data_of.1 x) (λ m. Only reads_of.1 same_of.1 m x))) where
  abbrev DocOnly : Doc → Type 0
  DocOnly v = LowersTo s ((doc_data data_of) v) (λ m. Only (IsDoc reads_of) (SameDoc same_of) m v)

  abbrev DocLevelOnly : Doc-F Doc → Msg → Type 0
  DocLevelOnly x m = (w : Doc) → OfVariant (doc_names reads_of) ((DocCase reads_of) (IsDoc reads_of) w) m
      → (data_of : (TheWidth → Option Data) × (TheId → Option Data))
      → (((x y : TheWidth) → same_of.0 x y → data_of.0 x ≡ data_of.0 y) × ((x y : TheId) → same_of.1 x y → data_of.1 x ≡ data_of.1 y))
      → (doc_level data_of) (map-Doc Doc (Option Data) (doc_data data_of) x) ≡ (doc_data data_of) w

  doc_level_only : (x : Doc-F Doc) → DocParts (λ v. (doc_fits fits_of) v → DocOnly v) x → (DocFits fits_of) x
      → LowersTo s ((doc_level data_of) (map-Doc Doc (Option Data) (doc_data data_of) x)) (DocLevelOnly x)
  doc_level_only Doc-F.Null h fit =
      lowers_then s (Some (unit_variant (codes "Null"))) (OfVariant (doc_names reads_of) (AtPlace 0 AnyContent)) (DocLevelOnly Doc-F.Null)
      (bare_row s (doc_names reads_of) (codes "Null") 0 refl (AtPlace 0 AnyContent) (refl, tt))
      (λ m q w r. variant_both (doc_names reads_of) 0 AnyContent ((DocCase reads_of) (IsDoc reads_of) w) _ m q r
      (λ c i j data_of alike_of. (doc_by data_of) w Doc-F.Null j.0))
  doc_level_only (Doc-F.Wide a) h fit =
      lowers_then s (newtype_variant_of (codes "Wide") (data_of.0 a)) _ (DocLevelOnly (Doc-F.Wide a))
      (newtype_variant_row s (doc_names reads_of) (codes "Wide") 1 refl
      (AtPlace 1 (Content (λ k. Only (λ (k : Msg) (x : TheWidth). reads_of.0 k x) (λ (x y : TheWidth). same_of.0 x y) k a))) (data_of.0 a)
      (λ k. Only (λ (k : Msg) (x : TheWidth). reads_of.0 k x) (λ (x y : TheWidth). same_of.0 x y) k a) (λ m p. (refl, p)) (only_of.0 a fit))
      (λ m q w r. variant_both (doc_names reads_of) 1 _ ((DocCase reads_of) (IsDoc reads_of) w) _ m q r
      (λ c i j data_of alike_of. ap (λ d. newtype_variant_of (codes "Wide") d)
      (alike_of.0 a j.0 (content_only (λ (k : Msg) (x : TheWidth). reads_of.0 k x) (λ (x y : TheWidth). same_of.0 x y) a j.0 c i j.2))
      ∙ (doc_by data_of) w (Doc-F.Wide j.0) j.1))
  doc_level_only (Doc-F.Framed a0 a1) h fit =
      lowers_then s (struct_variant_of (codes "Framed") ((codes "id", data_of.1 a0) ∷ ((codes "doc", (doc_data data_of) a1.value) ∷ []))) _
      (DocLevelOnly (Doc-F.Framed a0 a1))
      (struct_variant_row s (doc_names reads_of) (codes "Framed") 2 refl
      (AtPlace 2 (Content (OfFields (doc_framed_names reads_of)
      (Field (λ k. Only (λ (k : Msg) (x : TheId). reads_of.1 k x) (λ (x y : TheId). same_of.1 x y) k a0) ⊥
      (Field (λ k. Only (λ (k : Msg) (x : Box Doc Global). (IsDoc reads_of) k x.value) (λ (x y : Box Doc Global). (SameDoc same_of) x.value y.value) k
      a1) ⊥ NoField))))) (doc_framed_names reads_of) _ _ refl (λ m p. (refl, p))
      (fields_cons s (codes "id") _ _ _ (λ k. Only (λ (k : Msg) (x : TheId). reads_of.1 k x) (λ (x y : TheId). same_of.1 x y) k a0) ⊥ _ (only_of.1 a0 fit.0)
      (fields_cons s (codes "doc") _ _ _ (λ k. Only (λ (k : Msg) (x : Box Doc Global). (IsDoc reads_of) k x.value)
      (λ (x y : Box Doc Global). (SameDoc same_of) x.value y.value) k a1) ⊥ _
      (inside_only s ((doc_data data_of) a1.value) (λ b. b.value) (IsDoc reads_of) (SameDoc same_of) a1.value (h fit.1)) (fields_none s))))
      (λ m q w r. variant_both (doc_names reads_of) 2 _ ((DocCase reads_of) (IsDoc reads_of) w) _ m q r
      (λ c i j data_of alike_of. let x = content_fields (doc_framed_names reads_of) _ _ _ c i j.2
      (λ fs q r. field_only (λ (k : Msg) (x : TheId). reads_of.1 k x) (λ (x y : TheId). same_of.1 x y) a0 j.0.0 _ _ _ _
      (last_field (λ (k : Msg) (x : Box Doc Global). (IsDoc reads_of) k x.value) (λ (x y : Box Doc Global). (SameDoc same_of) x.value y.value) a1 j.0.1
      _) fs q r) in
      let same : struct_variant_of (codes "Framed") ((codes "id", data_of.1 a0) ∷ ((codes "doc", (doc_data data_of) a1.value) ∷ [])) ≡ struct_variant_of
      (codes "Framed") ((codes "id", data_of.1 j.0.0) ∷ ((codes "doc", (doc_data data_of) j.0.1.value) ∷ [])) = λ t. struct_variant_of (codes "Framed")
      ((codes "id", (alike_of.1 a0 j.0.0 x.0) t) ∷ ((codes "doc", ((x.1 data_of alike_of)) t) ∷ []))
      in same ∙ (doc_by data_of) w (Doc-F.Framed j.0.0 j.0.1) j.1))
  doc_level_only (Doc-F.Array a) h fit =
      lowers_then s (newtype_variant_of (codes "Array") (slice_of (map (doc_data data_of) a.items))) _ (DocLevelOnly (Doc-F.Array a))
      (newtype_variant_row s (doc_names reads_of) (codes "Array") 3 refl
      (AtPlace 3 (Content (λ k. Only (λ (k : Msg) (x : Vec Doc Global). Row (IsDoc reads_of) k x.items)
      (λ (x y : Vec Doc Global). Alike (SameDoc same_of) x.items y.items) k a))) (slice_of (map (doc_data data_of) a.items))
      (λ k. Only (λ (k : Msg) (x : Vec Doc Global). Row (IsDoc reads_of) k x.items) (λ (x y : Vec Doc Global). Alike (SameDoc same_of) x.items y.items) k a)
      (λ m p. (refl, p)) (list_only s (slice_of (map (doc_data data_of) a.items)) (λ us. us.items) (IsDoc reads_of) (SameDoc same_of) a.items
      (slice_row s (map (doc_data data_of) a.items) (λ ms. ReadsEach (Only (IsDoc reads_of) (SameDoc same_of)) ms a.items)
      (each_row s (doc_data data_of) DocOnly (Only (IsDoc reads_of) (SameDoc same_of)) (λ w p. p) a.items
      (each_from (doc_fits fits_of) DocOnly a.items h fit)))))
      (λ m q w r. variant_both (doc_names reads_of) 3 _ ((DocCase reads_of) (IsDoc reads_of) w) _ m q r
      (λ c i j data_of alike_of. ap (λ d. newtype_variant_of (codes "Array") d)
      (ap slice_of (map_alike (doc_data data_of) a.items j.0.items
      (alike_as (SameDoc same_of) (λ v w. (doc_data data_of) v ≡ (doc_data data_of) w) (λ v w h. h data_of alike_of) a.items j.0.items
      (content_only (λ (k : Msg) (x : Vec Doc Global). Row (IsDoc reads_of) k x.items)
      (λ (x y : Vec Doc Global). Alike (SameDoc same_of) x.items y.items) a j.0 c i j.2)))) ∙ (doc_by data_of) w (Doc-F.Array j.0) j.1))
  doc_level_only (Doc-F.Object a) h fit =
      subst (λ d. LowersTo s d (DocLevelOnly (Doc-F.Object a))) (sym ((doc_at_Object data_of) a))
      (lowers_then s (newtype_variant_of (codes "Object")
      (slice_of (map (λ (q : String Global × Doc). tuple_of (Some (text (string_bytes q.0)) ∷ ((doc_data data_of) q.1 ∷ []))) a.items))) _
      (DocLevelOnly (Doc-F.Object a))
      (newtype_variant_row s (doc_names reads_of) (codes "Object") 4 refl
      (AtPlace 4 (Content (λ k. Only (λ (k : Msg) (x : Vec (String Global × Doc) Global). Row
      (λ j q. OfRow (AndThen (λ j. IsRaw j (string_bytes q.0)) (AndThen (λ j. (IsDoc reads_of) j q.1) NoMore)) j) k x.items)
      (λ (x y : Vec (String Global × Doc) Global). Alike
      (λ (q r : String Global × Doc). (string_bytes q.0 ≡ string_bytes r.0) × ((SameDoc same_of) q.1 r.1)) x.items y.items) k a)))
      (slice_of (map (λ (q : String Global × Doc). tuple_of (Some (text (string_bytes q.0)) ∷ ((doc_data data_of) q.1 ∷ []))) a.items))
      (λ k. Only (λ (k : Msg) (x : Vec (String Global × Doc) Global). Row
      (λ j q. OfRow (AndThen (λ j. IsRaw j (string_bytes q.0)) (AndThen (λ j. (IsDoc reads_of) j q.1) NoMore)) j) k x.items)
      (λ (x y : Vec (String Global × Doc) Global). Alike
      (λ (q r : String Global × Doc). (string_bytes q.0 ≡ string_bytes r.0) × ((SameDoc same_of) q.1 r.1)) x.items y.items) k a) (λ m p. (refl, p))
      (list_only s (slice_of (map (λ (q : String Global × Doc). tuple_of (Some (text (string_bytes q.0)) ∷ ((doc_data data_of) q.1 ∷ []))) a.items))
      (λ (us : Vec (String Global × Doc) Global). us.items)
      (λ (j : Msg) (q : String Global × Doc). OfRow (AndThen (λ j. IsRaw j (string_bytes q.0)) (AndThen (λ j. (IsDoc reads_of) j q.1) NoMore)) j)
      (λ (q r : String Global × Doc). (string_bytes q.0 ≡ string_bytes r.0) × ((SameDoc same_of) q.1 r.1)) a.items
      (slice_row s (map (λ (q : String Global × Doc). tuple_of (Some (text (string_bytes q.0)) ∷ ((doc_data data_of) q.1 ∷ []))) a.items)
      (λ ms. ReadsEach (Only (λ (j : Msg) (q : String Global × Doc). OfRow
      (AndThen (λ j. IsRaw j (string_bytes q.0)) (AndThen (λ j. (IsDoc reads_of) j q.1) NoMore)) j)
      (λ (q r : String Global × Doc). (string_bytes q.0 ≡ string_bytes r.0) × ((SameDoc same_of) q.1 r.1))) ms a.items)
      (each_row s (λ (q : String Global × Doc). tuple_of (Some (text (string_bytes q.0)) ∷ ((doc_data data_of) q.1 ∷ [])))
      (λ (q : String Global × Doc). LowersTo s (tuple_of (Some (text (string_bytes q.0)) ∷ ((doc_data data_of) q.1 ∷ [])))
      (λ m. Only (λ (j : Msg) (q : String Global × Doc). OfRow
      (AndThen (λ j. IsRaw j (string_bytes q.0)) (AndThen (λ j. (IsDoc reads_of) j q.1) NoMore)) j)
      (λ (q r : String Global × Doc). (string_bytes q.0 ≡ string_bytes r.0) × ((SameDoc same_of) q.1 r.1)) m q))
      (Only (λ (j : Msg) (q : String Global × Doc). OfRow (AndThen (λ j. IsRaw j (string_bytes q.0)) (AndThen (λ j. (IsDoc reads_of) j q.1) NoMore)) j)
      (λ (q r : String Global × Doc). (string_bytes q.0 ≡ string_bytes r.0) × ((SameDoc same_of) q.1 r.1))) (λ q u. u)
      a.items (each_both (λ (q : String Global × Doc). ((λ (v : Doc). (doc_fits fits_of) v → DocOnly v) q.1))
      (λ (q : String Global × Doc). (IsUtf8 (string_bytes q.0)) × ((doc_fits fits_of) q.1))
      (λ (q : String Global × Doc). LowersTo s (tuple_of (Some (text (string_bytes q.0)) ∷ ((doc_data data_of) q.1 ∷ [])))
      (λ m. Only (λ (j : Msg) (q : String Global × Doc). OfRow
      (AndThen (λ j. IsRaw j (string_bytes q.0)) (AndThen (λ j. (IsDoc reads_of) j q.1) NoMore)) j)
      (λ (q r : String Global × Doc). (string_bytes q.0 ≡ string_bytes r.0) × ((SameDoc same_of) q.1 r.1)) m q))
      (λ q g u. lowers_then s _ _ (λ m. (w : String Global × Doc)
      → OfRow (AndThen (λ j. IsRaw j (string_bytes w.0)) (AndThen (λ j. (IsDoc reads_of) j w.1) NoMore)) m
      → (string_bytes q.0 ≡ string_bytes w.0) × ((SameDoc same_of) q.1 w.1))
      (tuple_row s _ (AndThen (λ k. Only (λ (j : Msg) (q : String Global). IsRaw j (string_bytes q))
      (λ (q r : String Global). string_bytes q ≡ string_bytes r) k q.0)
      (AndThen (λ k. Only (λ (j : Msg) (q : Doc). (IsDoc reads_of) j q) (λ (q r : Doc). (SameDoc same_of) q r) k q.1) NoMore))
      (rows_cons s _ _ (λ k. Only (λ (j : Msg) (q : String Global). IsRaw j (string_bytes q)) (λ (q r : String Global). string_bytes q ≡ string_bytes r)
      k q.0) _ (string_only s (λ (w : String Global). string_bytes w) (string_bytes q.0))
      (rows_cons s _ _ (λ k. Only (λ (j : Msg) (q : Doc). (IsDoc reads_of) j q) (λ (q r : Doc). (SameDoc same_of) q r) k q.1) _ (g u.1) (rows_none s))))
      (λ m o w r. row_both _ _ _ m o r (λ ks i j. let x =
      (item_only (λ (j : Msg) (q : String Global). IsRaw j (string_bytes q)) (λ (q r : String Global). string_bytes q ≡ string_bytes r) q.0 w.0 _ _ _
      (last_only (λ (j : Msg) (q : Doc). (IsDoc reads_of) j q) (λ (q r : Doc). (SameDoc same_of) q r) q.1 w.1)) ks i j in (x.0, x.1)))) a.items h
      fit)))))
      (λ m q w r. variant_both (doc_names reads_of) 4 _ ((DocCase reads_of) (IsDoc reads_of) w) _ m q r
      (λ c i j data_of alike_of. (doc_at_Object data_of) a
      ∙ ap (λ d. newtype_variant_of (codes "Object") d) (ap slice_of
      (maps_alike_by (λ (q : String Global × Doc). tuple_of (Some (text (string_bytes q.0)) ∷ ((doc_data data_of) q.1 ∷ [])))
      (λ (q r : String Global × Doc). (string_bytes q.0 ≡ string_bytes r.0) × ((SameDoc same_of) q.1 r.1))
      (λ q r e. let p : tuple_of (Some (text (string_bytes q.0)) ∷ ((doc_data data_of) q.1 ∷ [])) ≡ tuple_of
      (Some (text (string_bytes r.0)) ∷ ((doc_data data_of) r.1 ∷ [])) = λ t. tuple_of
      ((ap (λ n. Some (text n)) e.0) t ∷ (((e.1 data_of alike_of)) t ∷ []))
      in p) a.items j.0.items (content_only (λ (k : Msg) (x : Vec (String Global × Doc) Global). Row
      (λ j q. OfRow (AndThen (λ j. IsRaw j (string_bytes q.0)) (AndThen (λ j. (IsDoc reads_of) j q.1) NoMore)) j) k x.items)
      (λ (x y : Vec (String Global × Doc) Global). Alike
      (λ (q r : String Global × Doc). (string_bytes q.0 ≡ string_bytes r.0) × ((SameDoc same_of) q.1 r.1)) x.items y.items) a j.0 c i j.2)))
      ∙ sym ((doc_at_Object data_of) j.0) ∙ (doc_by data_of) w (Doc-F.Object j.0) j.1)))

  pub doc_only : (v : Doc) → (doc_fits fits_of) v → DocOnly v
  doc_only = doc_induction (λ v. (doc_fits fits_of) v → DocOnly v)
      (λ v h fits. subst (λ d. LowersTo s d (λ m. Only (IsDoc reads_of) (SameDoc same_of) m v)) (sym ((doc_is data_of) v))
      (lowers_then s ((doc_level data_of) (map-Doc Doc (Option Data) (doc_data data_of) (out-Doc v))) (DocLevelOnly (out-Doc v))
      (λ m. Only (IsDoc reads_of) (SameDoc same_of) m v)
      (doc_level_only (out-Doc v) h ((doc_fits_out fits_of) v fits))
      (λ m q w r data_of alike_of. (doc_is data_of) v ∙ q w ((doc_out reads_of) m w r) data_of alike_of)))
