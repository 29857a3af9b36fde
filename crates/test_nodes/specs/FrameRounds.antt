-- Each Frame is read as it was written, and as nothing else. Written by tools/derive.py.
use Rattle.std.proofs.Common.{◌≡◌, ◌∙◌, refl, sym, ap, subst, ℕ, List, [], ◌∷◌, map, Option, None, Some, String}
use Rattle.std.specs.declared.collections.BTreeMap.{BTreeMap}
use Rattle.std.specs.declared.collections.VecDeque.{VecDeque}
use Rattle.std.specs.Prelude.{◌≢◌, codes, IsSome}
use Rattle.std.specs.declared.alloc.Global.{Global}
use Rattle.rmp_wire.specs.Msg.{Msg, nil}
use Rattle.rmp_decode.specs.Fields.{Field, Absent, NoField}
use Rattle.rmp_decode.specs.Rows.{ReadsEach}
use Rattle.rmp_encode.specs.Data.{Data}
use Rattle.rmp_encode.specs.Trees.{tree_of, sequence_of, structure_of}
use Rattle.rmp_encode.specs.declared.settings.Settings.{Settings}
use Rattle.rmp_round_trip.specs.OnlyFields.{fields_both, field_only, last_field}
use Rattle.rmp_round_trip.specs.OnlyRows.{list_only, lowers_then}
use Rattle.rmp_round_trip.specs.RoundTrip.{Alike, LowersTo, Only}
use Rattle.rmp_round_trip.specs.Rounds.{each_row, sequence_some, sequence_row}
use Rattle.rmp_round_trip.specs.StructRounds.{structure_all, structure_row, structure_other, fields_none, fields_cons}
use Rattle.rmp_recursive.specs.Parts.{Row, each_from}
use Rattle.rmp_recursive.specs.Given.{alike_as}
use Rattle.rmp_recursive.specs.Rounds.{each_data, lowers_as, map_alike}
use Rattle.test_nodes.specs.declared.parts.Frame.{Frame, out-Frame}
use Rattle.test_nodes.specs.FrameLevels.{
  IsFrame,
  FrameFields,
  FrameRead,
  frame_names,
  frame_data,
  frame_fits,
  frame_made,
  frame_out,
  frame_induction,
  frame_fits_out,
  frame_own,
  frame_is_own,
}
use Rattle.test_nodes.specs.declared.parts.Id.{Id as TheId}
use Rattle.test_nodes.specs.declared.parts.Width.{Width as TheWidth}

module _ (data_of : (TheId → Option Data) × (TheWidth → Option Data) × ((List (ℕ)) → Option Data) × ((BTreeMap (String Global) (ℕ) Global) → Option Data)
    × ((Option (TheWidth)) → Option Data)) (some_of : ((x : TheId) → IsSome (data_of.0 x)) × ((x : TheWidth) → IsSome (data_of.1 x)) × ((x : (List (ℕ)))
    → IsSome (data_of.2 x)) × ((x : (BTreeMap (String Global) (ℕ) Global)) → IsSome (data_of.3 x)) × ((x : (Option (TheWidth)))
    → IsSome (data_of.4 x))) where
  -- ---- no value is refused

  pub frame_some : (v : Frame) → IsSome ((frame_data data_of) v)
  frame_some = frame_induction (λ v. IsSome ((frame_data data_of) v))
      (λ v h. subst IsSome (sym ((frame_is_own data_of) v))
      (structure_all ((codes "id", data_of.0 (out-Frame v).id)
      ∷ ((codes "width", data_of.1 (out-Frame v).width) ∷
      ((codes "hash", data_of.2 (out-Frame v).hash) ∷ ((codes "counts", data_of.3 (out-Frame v).counts)
      ∷ ((codes "least", data_of.4 (out-Frame v).least) ∷ ((codes "frames", sequence_of (map (frame_data data_of) (out-Frame v).frames.items)) ∷ [])))))) (
        (some_of.0 (out-Frame v).id),
        (
          (some_of.1 (out-Frame v).width),
          (
            (some_of.2 (out-Frame v).hash),
            (
              (some_of.3 (out-Frame v).counts),
              (
                (some_of.4 (out-Frame v).least),
                (
                  (sequence_some (map (frame_data data_of) (out-Frame v).frames.items)
                      (each_data (frame_data data_of) (out-Frame v).frames.items h)),
                  tt,
                ),
              ),
            ),
          ),
        ),
      )))

module _ (s : Settings) (data_of : (TheId → Option Data) × (TheWidth → Option Data) × ((List (ℕ)) → Option Data) × ((BTreeMap (String Global) (ℕ) Global)
    → Option Data) × ((Option (TheWidth)) → Option Data)) where
  -- ---- it is never nil

  pub frame_other : (v : Frame) → tree_of s ((frame_data data_of) v) ≢ Some nil
  frame_other v e = structure_other s ((codes "id", data_of.0 (out-Frame v).id)
      ∷ ((codes "width", data_of.1 (out-Frame v).width) ∷
      ((codes "hash", data_of.2 (out-Frame v).hash) ∷ ((codes "counts", data_of.3 (out-Frame v).counts)
      ∷ ((codes "least", data_of.4 (out-Frame v).least) ∷ ((codes "frames", sequence_of (map (frame_data data_of) (out-Frame v).frames.items)) ∷ []))))))
      (ap (tree_of s) (sym ((frame_is_own data_of) v)) ∙ e)

module _ (s : Settings) (reads_of : (Msg → TheId → Type 0) × (Msg → TheWidth → Type 0) × (Msg → (List (ℕ)) → Type 0) × (Msg
    → (BTreeMap (String Global) (ℕ) Global) → Type 0) × (Msg → (Option (TheWidth)) → Type 0))
    (data_of : (TheId → Option Data) × (TheWidth → Option Data) × ((List (ℕ)) → Option Data) × ((BTreeMap (String Global) (ℕ) Global) → Option Data)
    × ((Option (TheWidth)) → Option Data)) (fits_of : (TheId → Type 0) × (TheWidth → Type 0) × ((List (ℕ)) → Type 0)
    × ((BTreeMap (String Global) (ℕ) Global) → Type 0) × ((Option (TheWidth)) → Type 0))
    (row_of : ((x : TheId) → fits_of.0 x → LowersTo s (data_of.0 x) (λ m. reads_of.0 m x)) × ((x : TheWidth) → fits_of.1 x
    → LowersTo s (data_of.1 x) (λ m. reads_of.1 m x)) × ((x : (List (ℕ))) → fits_of.2 x → LowersTo s (data_of.2 x) (λ m. reads_of.2 m x))
    × ((x : (BTreeMap (String Global) (ℕ) Global)) → fits_of.3 x → LowersTo s (data_of.3 x) (λ m. reads_of.3 m x)) × ((x : (Option (TheWidth)))
    → fits_of.4 x → LowersTo s (data_of.4 x) (λ m. reads_of.4 m x))) where
  -- ---- what a value lowers to is read as that value

  abbrev FrameBack : Frame → Type 0
  FrameBack v = LowersTo s ((frame_data data_of) v) (λ m. (IsFrame reads_of) m v)

  abbrev FrameRound : Frame → Type 0
  FrameRound v = (frame_fits fits_of) v → FrameBack v

  pub frame_round : (v : Frame) → FrameRound v
  frame_round = frame_induction FrameRound (λ v h fits.
      let fit = (frame_fits_out fits_of) v fits in
      subst (λ d. LowersTo s d (λ m. (IsFrame reads_of) m v)) (sym ((frame_is_own data_of) v))
      (lowers_as s ((frame_own data_of) (out-Frame v)) (λ m. (FrameRead reads_of) m v) (λ m. (IsFrame reads_of) m v) ((frame_made reads_of) v)
      (structure_row s (frame_names reads_of) ((codes "id", data_of.0 (out-Frame v).id)
      ∷ ((codes "width", data_of.1 (out-Frame v).width) ∷
      ((codes "hash", data_of.2 (out-Frame v).hash) ∷ ((codes "counts", data_of.3 (out-Frame v).counts)
      ∷ ((codes "least", data_of.4 (out-Frame v).least) ∷
      ((codes "frames", sequence_of (map (frame_data data_of) (out-Frame v).frames.items)) ∷ []))))))
      (λ fs. (FrameFields reads_of) (IsFrame reads_of) fs v) refl
      (fields_cons s (codes "id") _ _ _ (λ k. reads_of.0 k (out-Frame v).id) (Absent None (out-Frame v).id) _ (row_of.0 (out-Frame v).id fit.0)
      (fields_cons s (codes "width") _ _ _ (λ k. reads_of.1 k (out-Frame v).width) (Absent None (out-Frame v).width) _
      (row_of.1 (out-Frame v).width fit.1) (fields_cons s (codes "hash") _ _ _ (λ k. reads_of.2 k (out-Frame v).hash) (Absent None (out-Frame v).hash) _
      (row_of.2 (out-Frame v).hash fit.2) (fields_cons s (codes "counts") _ _ _ (λ k. reads_of.3 k (out-Frame v).counts)
      (Absent None (out-Frame v).counts) _ (row_of.3 (out-Frame v).counts fit.3)
      (fields_cons s (codes "least") _ _ _ (λ k. reads_of.4 k (out-Frame v).least) (Absent (Some None) (out-Frame v).least) _
      (row_of.4 (out-Frame v).least fit.4) (fields_cons s (codes "frames") _ _ _ (λ k. Row (IsFrame reads_of) k (out-Frame v).frames.items)
      (Absent None (out-Frame v).frames) _ (sequence_row s (map (frame_data data_of) (out-Frame v).frames.items)
      (λ ms. ReadsEach (IsFrame reads_of) ms (out-Frame v).frames.items)
      (each_row s (frame_data data_of) FrameBack (IsFrame reads_of) (λ w p. p) (out-Frame v).frames.items
      (each_from (frame_fits fits_of) FrameBack (out-Frame v).frames.items h fit.5))) (fields_none s))))))))))

module _ (same_of : (TheId → TheId → Type 0) × (TheWidth → TheWidth → Type 0) × ((List (ℕ)) → (List (ℕ)) → Type 0) × ((BTreeMap (String Global) (ℕ) Global)
    → (BTreeMap (String Global) (ℕ) Global) → Type 0) × ((Option (TheWidth)) → (Option (TheWidth)) → Type 0)) where
  -- ---- values of the same content are written alike

  abbrev pub SameFrame : Frame → Frame → Type 0
  SameFrame v w = (data_of : (TheId → Option Data) × (TheWidth → Option Data) × ((List (ℕ)) → Option Data) × ((BTreeMap (String Global) (ℕ) Global)
      → Option Data) × ((Option (TheWidth)) → Option Data))
      → (((x y : TheId) → same_of.0 x y → data_of.0 x ≡ data_of.0 y) × ((x y : TheWidth) → same_of.1 x y → data_of.1 x ≡ data_of.1 y) × ((x y : (List (ℕ)))
      → same_of.2 x y → data_of.2 x ≡ data_of.2 y) × ((x y : (BTreeMap (String Global) (ℕ) Global)) → same_of.3 x y → data_of.3 x ≡ data_of.3 y)
      × ((x y : (Option (TheWidth))) → same_of.4 x y → data_of.4 x ≡ data_of.4 y)) → (frame_data data_of) v ≡ (frame_data data_of) w

module _ (s : Settings) (reads_of : (Msg → TheId → Type 0) × (Msg → TheWidth → Type 0) × (Msg → (List (ℕ)) → Type 0) × (Msg
    → (BTreeMap (String Global) (ℕ) Global) → Type 0) × (Msg → (Option (TheWidth)) → Type 0))
    (data_of : (TheId → Option Data) × (TheWidth → Option Data) × ((List (ℕ)) → Option Data) × ((BTreeMap (String Global) (ℕ) Global) → Option Data)
    × ((Option (TheWidth)) → Option Data)) (fits_of : (TheId → Type 0) × (TheWidth → Type 0) × ((List (ℕ)) → Type 0)
    × ((BTreeMap (String Global) (ℕ) Global) → Type 0) × ((Option (TheWidth)) → Type 0))
    (same_of : (TheId → TheId → Type 0) × (TheWidth → TheWidth → Type 0) × ((List (ℕ)) → (List (ℕ)) → Type 0) × ((BTreeMap (String Global) (ℕ) Global)
    → (BTreeMap (String Global) (ℕ) Global) → Type 0) × ((Option (TheWidth)) → (Option (TheWidth)) → Type 0))
    (only_of : ((x : TheId) → fits_of.0 x → LowersTo s (data_of.0 x) (λ m. Only reads_of.0 same_of.0 m x)) × ((x : TheWidth) → fits_of.1 x
    → LowersTo s (data_of.1 x) (λ m. Only reads_of.1 same_of.1 m x)) × ((x : (List (ℕ))) → fits_of.2 x
    → LowersTo s (data_of.2 x) (λ m. Only reads_of.2 same_of.2 m x)) × ((x : (BTreeMap (String Global) (ℕ) Global)) → fits_of.3 x
    → LowersTo s (data_of.3 x) (λ m. Only reads_of.3 same_of.3 m x)) × ((x : (Option (TheWidth))) → fits_of.4 x
    → LowersTo s (data_of.4 x) (λ m. Only reads_of.4 same_of.4 m x))) where
  abbrev FrameOnly : Frame → Type 0
  FrameOnly v = LowersTo s ((frame_data data_of) v) (λ m. Only (IsFrame reads_of) (SameFrame same_of) m v)

  pub frame_only : (v : Frame) → (frame_fits fits_of) v → FrameOnly v
  frame_only = frame_induction (λ v. (frame_fits fits_of) v → FrameOnly v) (λ v h fits.
      let fit = (frame_fits_out fits_of) v fits in
      subst (λ d. LowersTo s d (λ m. Only (IsFrame reads_of) (SameFrame same_of) m v)) (sym ((frame_is_own data_of) v))
      (lowers_then s ((frame_own data_of) (out-Frame v)) _ (λ m. Only (IsFrame reads_of) (SameFrame same_of) m v)
      (structure_row s (frame_names reads_of) ((codes "id", data_of.0 (out-Frame v).id)
      ∷ ((codes "width", data_of.1 (out-Frame v).width) ∷
      ((codes "hash", data_of.2 (out-Frame v).hash) ∷ ((codes "counts", data_of.3 (out-Frame v).counts)
      ∷ ((codes "least", data_of.4 (out-Frame v).least) ∷
      ((codes "frames", sequence_of (map (frame_data data_of) (out-Frame v).frames.items)) ∷ []))))))
      (Field (λ k. Only (λ (k : Msg) (x : TheId). reads_of.0 k x) (λ (x y : TheId). same_of.0 x y) k (out-Frame v).id) ⊥
      (Field (λ k. Only (λ (k : Msg) (x : TheWidth). reads_of.1 k x) (λ (x y : TheWidth). same_of.1 x y) k (out-Frame v).width) ⊥
      (Field (λ k. Only (λ (k : Msg) (x : List (ℕ)). reads_of.2 k x) (λ (x y : List (ℕ)). same_of.2 x y) k (out-Frame v).hash) ⊥
      (Field (λ k. Only (λ (k : Msg) (x : BTreeMap (String Global) (ℕ) Global). reads_of.3 k x)
      (λ (x y : BTreeMap (String Global) (ℕ) Global). same_of.3 x y) k (out-Frame v).counts) ⊥
      (Field (λ k. Only (λ (k : Msg) (x : Option (TheWidth)). reads_of.4 k x) (λ (x y : Option (TheWidth)). same_of.4 x y) k (out-Frame v).least) ⊥
      (Field (λ k. Only (λ (k : Msg) (x : VecDeque Frame Global). Row (IsFrame reads_of) k x.items)
      (λ (x y : VecDeque Frame Global). Alike (SameFrame same_of) x.items y.items) k (out-Frame v).frames) ⊥ NoField)))))) refl
      (fields_cons s (codes "id") _ _ _ (λ k. Only (λ (k : Msg) (x : TheId). reads_of.0 k x) (λ (x y : TheId). same_of.0 x y) k (out-Frame v).id) ⊥ _
      (only_of.0 (out-Frame v).id fit.0) (fields_cons s (codes "width") _ _ _
      (λ k. Only (λ (k : Msg) (x : TheWidth). reads_of.1 k x) (λ (x y : TheWidth). same_of.1 x y) k (out-Frame v).width) ⊥ _
      (only_of.1 (out-Frame v).width fit.1) (fields_cons s (codes "hash") _ _ _
      (λ k. Only (λ (k : Msg) (x : List (ℕ)). reads_of.2 k x) (λ (x y : List (ℕ)). same_of.2 x y) k (out-Frame v).hash) ⊥ _
      (only_of.2 (out-Frame v).hash fit.2) (fields_cons s (codes "counts") _ _ _
      (λ k. Only (λ (k : Msg) (x : BTreeMap (String Global) (ℕ) Global). reads_of.3 k x) (λ (x y : BTreeMap (String Global) (ℕ) Global). same_of.3 x y)
      k (out-Frame v).counts) ⊥ _ (only_of.3 (out-Frame v).counts fit.3)
      (fields_cons s (codes "least") _ _ _ (λ k. Only (λ (k : Msg) (x : Option (TheWidth)). reads_of.4 k x) (λ (x y : Option (TheWidth)). same_of.4 x y)
      k (out-Frame v).least) ⊥ _ (only_of.4 (out-Frame v).least fit.4)
      (fields_cons s (codes "frames") _ _ _ (λ k. Only (λ (k : Msg) (x : VecDeque Frame Global). Row (IsFrame reads_of) k x.items)
      (λ (x y : VecDeque Frame Global). Alike (SameFrame same_of) x.items y.items) k (out-Frame v).frames) ⊥ _
      (list_only s (sequence_of (map (frame_data data_of) (out-Frame v).frames.items)) (λ us. us.items) (IsFrame reads_of) (SameFrame same_of)
      (out-Frame v).frames.items
      (sequence_row s (map (frame_data data_of) (out-Frame v).frames.items)
      (λ ms. ReadsEach (Only (IsFrame reads_of) (SameFrame same_of)) ms (out-Frame v).frames.items)
      (each_row s (frame_data data_of) FrameOnly (Only (IsFrame reads_of) (SameFrame same_of)) (λ w p. p) (out-Frame v).frames.items
      (each_from (frame_fits fits_of) FrameOnly (out-Frame v).frames.items h fit.5)))) (fields_none s))))))))
      (λ m q w r data_of alike_of. (frame_is_own data_of) v
      ∙ (fields_both (frame_names reads_of) _ (λ fs. (FrameFields reads_of) (IsFrame reads_of) fs w)
      ((frame_own data_of) (out-Frame v) ≡ (frame_own data_of) (out-Frame w)) m q ((frame_out reads_of) m w r)
      (λ fs i j. let x = field_only (λ (k : Msg) (x : TheId). reads_of.0 k x) (λ (x y : TheId). same_of.0 x y) (out-Frame v).id (out-Frame w).id _ _ _ _
      (field_only (λ (k : Msg) (x : TheWidth). reads_of.1 k x) (λ (x y : TheWidth). same_of.1 x y) (out-Frame v).width (out-Frame w).width _ _ _ _
      (field_only (λ (k : Msg) (x : List (ℕ)). reads_of.2 k x) (λ (x y : List (ℕ)). same_of.2 x y) (out-Frame v).hash (out-Frame w).hash _ _ _ _
      (field_only (λ (k : Msg) (x : BTreeMap (String Global) (ℕ) Global). reads_of.3 k x) (λ (x y : BTreeMap (String Global) (ℕ) Global). same_of.3 x y)
      (out-Frame v).counts (out-Frame w).counts _ _ _ _ (field_only (λ (k : Msg) (x : Option (TheWidth)). reads_of.4 k x)
      (λ (x y : Option (TheWidth)). same_of.4 x y) (out-Frame v).least (out-Frame w).least _ _ _ _
      (last_field (λ (k : Msg) (x : VecDeque Frame Global). Row (IsFrame reads_of) k x.items)
      (λ (x y : VecDeque Frame Global). Alike (SameFrame same_of) x.items y.items) (out-Frame v).frames (out-Frame w).frames _))))) fs i j
      in (λ i. structure_of ((codes "id", (alike_of.0 (out-Frame v).id (out-Frame w).id (x.0)) i)
      ∷ ((codes "width", (alike_of.1 (out-Frame v).width (out-Frame w).width (x.1.0)) i)
      ∷ ((codes "hash", (alike_of.2 (out-Frame v).hash (out-Frame w).hash (x.1.1.0)) i)
      ∷ ((codes "counts", (alike_of.3 (out-Frame v).counts (out-Frame w).counts (x.1.1.1.0)) i)
      ∷ ((codes "least", (alike_of.4 (out-Frame v).least (out-Frame w).least (x.1.1.1.1.0)) i)
      ∷ ((
        codes "frames",
        (ap sequence_of (map_alike (frame_data data_of) (out-Frame v).frames.items (out-Frame w).frames.items
            (alike_as (SameFrame same_of) (λ v w. (frame_data data_of) v ≡ (frame_data data_of) w) (λ v w h. h data_of alike_of) (out-Frame v).frames.items
            (out-Frame w).frames.items (x.1.1.1.1.1)))) i,
      ) ∷ []))))))))) ∙ sym ((frame_is_own data_of) w))))
