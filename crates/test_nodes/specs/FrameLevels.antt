-- What the recursive type Frame is read from and written as, level by level. Written by tools/derive.py.
use Rattle.std.proofs.Common.{◌≡◌, ◌∙◌, sym, ap, subst, ℕ, zero, suc, List, [], ◌∷◌, map, All, Option, None, Some, String}
use Rattle.std.specs.List.{AllByRecursion}
use Rattle.std.specs.declared.collections.BTreeMap.{BTreeMap}
use Rattle.std.specs.Prelude.{codes}
use Rattle.std.specs.declared.alloc.Global.{Global}
use Rattle.rmp_wire.specs.Msg.{Msg}
use Rattle.rmp_decode.specs.Fields.{OfFields, Field, Absent, NoField}
use Rattle.rmp_decode.specs.Law.{Readable}
use Rattle.rmp_encode.specs.Data.{Data}
use Rattle.rmp_encode.specs.Trees.{sequence_of, structure_of}
use Rattle.rmp_recursive.specs.Parts.{Row, InSteps, row_as, row_in, each_holds, through}
use Rattle.rmp_recursive.specs.Fields.{fields_as, fields_in, field_as, field_in}
use Rattle.test_nodes.specs.declared.parts.Frame.{Frame, out-Frame}
use Rattle.test_nodes.specs.declared.parts.Frame.TheFolds.{ind-Frame, fold-Frame, rec-Frame, map-Frame, rec-roll-Frame, fold_out-Frame}
use Rattle.test_nodes.specs.declared.parts.Frame.TheOpen.{Frame-F}
use Rattle.test_nodes.specs.declared.parts.Frame.TheViews.{roll-Frame, out-roll-Frame, roll-out-Frame}
use Rattle.test_nodes.specs.declared.parts.Id.{Id as TheId}
use Rattle.test_nodes.specs.declared.parts.Width.{Width as TheWidth}

module _ (reads_of : (Msg → TheId → Type 0) × (Msg → TheWidth → Type 0) × (Msg → (List (ℕ)) → Type 0) × (Msg → (BTreeMap (String Global) (ℕ) Global)
    → Type 0) × (Msg → (Option (TheWidth)) → Type 0)) where
  abbrev pub frame_names : List (List ℕ)
  frame_names = codes "id" ∷ (codes "width" ∷ (codes "hash" ∷ (codes "counts" ∷ (codes "least" ∷ (codes "frames" ∷ [])))))

  -- ---- what it is read from: the fields from each place on

  abbrev pub FrameFrom6 : (Msg → Frame → Type 0) → Frame-F Frame → List (Option Msg) → Type 0
  FrameFrom6 reads x fs = NoField fs

  abbrev pub FrameFrom5 : (Msg → Frame → Type 0) → Frame-F Frame → List (Option Msg) → Type 0
  FrameFrom5 reads x fs = Field (λ k. Row reads k x.frames.items) (Absent None x.frames) (FrameFrom6 reads x) fs

  abbrev pub FrameFrom4 : (Msg → Frame → Type 0) → Frame-F Frame → List (Option Msg) → Type 0
  FrameFrom4 reads x fs = Field (λ k. reads_of.4 k x.least) (Absent (Some None) x.least) (FrameFrom5 reads x) fs

  abbrev pub FrameFrom3 : (Msg → Frame → Type 0) → Frame-F Frame → List (Option Msg) → Type 0
  FrameFrom3 reads x fs = Field (λ k. reads_of.3 k x.counts) (Absent None x.counts) (FrameFrom4 reads x) fs

  abbrev pub FrameFrom2 : (Msg → Frame → Type 0) → Frame-F Frame → List (Option Msg) → Type 0
  FrameFrom2 reads x fs = Field (λ k. reads_of.2 k x.hash) (Absent None x.hash) (FrameFrom3 reads x) fs

  abbrev pub FrameFrom1 : (Msg → Frame → Type 0) → Frame-F Frame → List (Option Msg) → Type 0
  FrameFrom1 reads x fs = Field (λ k. reads_of.1 k x.width) (Absent None x.width) (FrameFrom2 reads x) fs

  abbrev pub FrameFrom0 : (Msg → Frame → Type 0) → Frame-F Frame → List (Option Msg) → Type 0
  FrameFrom0 reads x fs = Field (λ k. reads_of.0 k x.id) (Absent None x.id) (FrameFrom1 reads x) fs

  abbrev pub FrameFields : (Msg → Frame → Type 0) → List (Option Msg) → Frame → Type 0
  FrameFields reads fs v = FrameFrom0 reads (out-Frame v) fs

  abbrev pub FrameIn : ℕ → Msg → Frame → Type 0
  FrameIn zero m v = ⊥
  FrameIn (suc n) m v = OfFields frame_names (λ fs. FrameFields (FrameIn n) fs v) m

  -- in some number of steps the message is read as the value
  abbrev pub IsFrame : Msg → Frame → Type 0
  IsFrame m v = InSteps FrameIn m v

  -- its fields are, each in its own number of steps
  abbrev pub FrameRead : Msg → Frame → Type 0
  FrameRead m v = OfFields frame_names (λ fs. FrameFields IsFrame fs v) m

  -- ---- one step more

  frame_as6 : (P Q : Msg → Frame → Type 0) → ((m : Msg) (v : Frame) → P m v → Q m v) → (v : Frame) (fs : List (Option Msg)) → FrameFrom6 P (out-Frame v) fs
      → FrameFrom6 Q (out-Frame v) fs
  frame_as6 P Q f v fs h = h

  frame_as5 : (P Q : Msg → Frame → Type 0) → ((m : Msg) (v : Frame) → P m v → Q m v) → (v : Frame) (fs : List (Option Msg)) → FrameFrom5 P (out-Frame v) fs
      → FrameFrom5 Q (out-Frame v) fs
  frame_as5 P Q f v = field_as (λ k. Row P k (out-Frame v).frames.items) (λ k. Row Q k (out-Frame v).frames.items) (Absent None (out-Frame v).frames)
      (FrameFrom6 P (out-Frame v)) (FrameFrom6 Q (out-Frame v)) (λ m h. row_as P Q f m (out-Frame v).frames.items h) (frame_as6 P Q f v)

  frame_as4 : (P Q : Msg → Frame → Type 0) → ((m : Msg) (v : Frame) → P m v → Q m v) → (v : Frame) (fs : List (Option Msg)) → FrameFrom4 P (out-Frame v) fs
      → FrameFrom4 Q (out-Frame v) fs
  frame_as4 P Q f v = field_as (λ k. reads_of.4 k (out-Frame v).least) (λ k. reads_of.4 k (out-Frame v).least) (Absent (Some None) (out-Frame v).least)
      (FrameFrom5 P (out-Frame v)) (FrameFrom5 Q (out-Frame v)) (λ m h. h) (frame_as5 P Q f v)

  frame_as3 : (P Q : Msg → Frame → Type 0) → ((m : Msg) (v : Frame) → P m v → Q m v) → (v : Frame) (fs : List (Option Msg)) → FrameFrom3 P (out-Frame v) fs
      → FrameFrom3 Q (out-Frame v) fs
  frame_as3 P Q f v = field_as (λ k. reads_of.3 k (out-Frame v).counts) (λ k. reads_of.3 k (out-Frame v).counts) (Absent None (out-Frame v).counts)
      (FrameFrom4 P (out-Frame v)) (FrameFrom4 Q (out-Frame v)) (λ m h. h) (frame_as4 P Q f v)

  frame_as2 : (P Q : Msg → Frame → Type 0) → ((m : Msg) (v : Frame) → P m v → Q m v) → (v : Frame) (fs : List (Option Msg)) → FrameFrom2 P (out-Frame v) fs
      → FrameFrom2 Q (out-Frame v) fs
  frame_as2 P Q f v = field_as (λ k. reads_of.2 k (out-Frame v).hash) (λ k. reads_of.2 k (out-Frame v).hash) (Absent None (out-Frame v).hash)
      (FrameFrom3 P (out-Frame v)) (FrameFrom3 Q (out-Frame v)) (λ m h. h) (frame_as3 P Q f v)

  frame_as1 : (P Q : Msg → Frame → Type 0) → ((m : Msg) (v : Frame) → P m v → Q m v) → (v : Frame) (fs : List (Option Msg)) → FrameFrom1 P (out-Frame v) fs
      → FrameFrom1 Q (out-Frame v) fs
  frame_as1 P Q f v = field_as (λ k. reads_of.1 k (out-Frame v).width) (λ k. reads_of.1 k (out-Frame v).width) (Absent None (out-Frame v).width)
      (FrameFrom2 P (out-Frame v)) (FrameFrom2 Q (out-Frame v)) (λ m h. h) (frame_as2 P Q f v)

  frame_as0 : (P Q : Msg → Frame → Type 0) → ((m : Msg) (v : Frame) → P m v → Q m v) → (v : Frame) (fs : List (Option Msg)) → FrameFrom0 P (out-Frame v) fs
      → FrameFrom0 Q (out-Frame v) fs
  frame_as0 P Q f v = field_as (λ k. reads_of.0 k (out-Frame v).id) (λ k. reads_of.0 k (out-Frame v).id) (Absent None (out-Frame v).id)
      (FrameFrom1 P (out-Frame v)) (FrameFrom1 Q (out-Frame v)) (λ m h. h) (frame_as1 P Q f v)

  frame_up : (n : ℕ) (m : Msg) (v : Frame) → FrameIn n m v → FrameIn (suc n) m v
  frame_up zero m v h = absurd h
  frame_up (suc n) m v h = fields_as frame_names (λ fs. FrameFields (FrameIn n) fs v) (λ fs. FrameFields (FrameIn (suc n)) fs v)
      (frame_as0 (FrameIn n) (FrameIn (suc n)) (frame_up n) v) m h

  frame_in6 : (v : Frame) (fs : List (Option Msg)) → FrameFrom6 IsFrame (out-Frame v) fs → (n : ℕ) × FrameFrom6 (FrameIn n) (out-Frame v) fs
  frame_in6 v fs h = (zero, h)

  frame_in5 : (v : Frame) (fs : List (Option Msg)) → FrameFrom5 IsFrame (out-Frame v) fs → (n : ℕ) × FrameFrom5 (FrameIn n) (out-Frame v) fs
  frame_in5 v = field_in (Absent None (out-Frame v).frames) (λ k. Row IsFrame k (out-Frame v).frames.items)
      (λ i. (λ k. Row (FrameIn i) k (out-Frame v).frames.items)) (FrameFrom6 IsFrame (out-Frame v)) (λ i. FrameFrom6 (FrameIn i) (out-Frame v))
      (λ i. (λ m h. row_as (FrameIn i) (FrameIn (suc i)) (frame_up i) m (out-Frame v).frames.items h))
      (λ i. frame_as6 (FrameIn i) (FrameIn (suc i)) (frame_up i) v) (λ m h. row_in FrameIn frame_up m (out-Frame v).frames.items h) (frame_in6 v)

  frame_in4 : (v : Frame) (fs : List (Option Msg)) → FrameFrom4 IsFrame (out-Frame v) fs → (n : ℕ) × FrameFrom4 (FrameIn n) (out-Frame v) fs
  frame_in4 v = field_in (Absent (Some None) (out-Frame v).least) (λ k. reads_of.4 k (out-Frame v).least) (λ i. (λ k. reads_of.4 k (out-Frame v).least))
      (FrameFrom5 IsFrame (out-Frame v)) (λ i. FrameFrom5 (FrameIn i) (out-Frame v)) (λ i. (λ m h. h))
      (λ i. frame_as5 (FrameIn i) (FrameIn (suc i)) (frame_up i) v) (λ m h. (zero, h)) (frame_in5 v)

  frame_in3 : (v : Frame) (fs : List (Option Msg)) → FrameFrom3 IsFrame (out-Frame v) fs → (n : ℕ) × FrameFrom3 (FrameIn n) (out-Frame v) fs
  frame_in3 v = field_in (Absent None (out-Frame v).counts) (λ k. reads_of.3 k (out-Frame v).counts) (λ i. (λ k. reads_of.3 k (out-Frame v).counts))
      (FrameFrom4 IsFrame (out-Frame v)) (λ i. FrameFrom4 (FrameIn i) (out-Frame v)) (λ i. (λ m h. h))
      (λ i. frame_as4 (FrameIn i) (FrameIn (suc i)) (frame_up i) v) (λ m h. (zero, h)) (frame_in4 v)

  frame_in2 : (v : Frame) (fs : List (Option Msg)) → FrameFrom2 IsFrame (out-Frame v) fs → (n : ℕ) × FrameFrom2 (FrameIn n) (out-Frame v) fs
  frame_in2 v = field_in (Absent None (out-Frame v).hash) (λ k. reads_of.2 k (out-Frame v).hash) (λ i. (λ k. reads_of.2 k (out-Frame v).hash))
      (FrameFrom3 IsFrame (out-Frame v)) (λ i. FrameFrom3 (FrameIn i) (out-Frame v)) (λ i. (λ m h. h))
      (λ i. frame_as3 (FrameIn i) (FrameIn (suc i)) (frame_up i) v) (λ m h. (zero, h)) (frame_in3 v)

  frame_in1 : (v : Frame) (fs : List (Option Msg)) → FrameFrom1 IsFrame (out-Frame v) fs → (n : ℕ) × FrameFrom1 (FrameIn n) (out-Frame v) fs
  frame_in1 v = field_in (Absent None (out-Frame v).width) (λ k. reads_of.1 k (out-Frame v).width) (λ i. (λ k. reads_of.1 k (out-Frame v).width))
      (FrameFrom2 IsFrame (out-Frame v)) (λ i. FrameFrom2 (FrameIn i) (out-Frame v)) (λ i. (λ m h. h))
      (λ i. frame_as2 (FrameIn i) (FrameIn (suc i)) (frame_up i) v) (λ m h. (zero, h)) (frame_in2 v)

  frame_in0 : (v : Frame) (fs : List (Option Msg)) → FrameFrom0 IsFrame (out-Frame v) fs → (n : ℕ) × FrameFrom0 (FrameIn n) (out-Frame v) fs
  frame_in0 v = field_in (Absent None (out-Frame v).id) (λ k. reads_of.0 k (out-Frame v).id) (λ i. (λ k. reads_of.0 k (out-Frame v).id))
      (FrameFrom1 IsFrame (out-Frame v)) (λ i. FrameFrom1 (FrameIn i) (out-Frame v)) (λ i. (λ m h. h))
      (λ i. frame_as1 (FrameIn i) (FrameIn (suc i)) (frame_up i) v) (λ m h. (zero, h)) (frame_in1 v)

  pub frame_made : (v : Frame) (m : Msg) → FrameRead m v → IsFrame m v
  frame_made v m h =
      let i = fields_in frame_names (λ fs. FrameFields IsFrame fs v) (λ n fs. FrameFields (FrameIn n) fs v) (frame_in0 v) m h in (suc i.0, i.1)

  pub frame_out : (m : Msg) (v : Frame) → IsFrame m v → FrameRead m v
  frame_out m v (zero, h) = absurd h
  frame_out m v (suc n, h) = fields_as frame_names (λ fs. FrameFields (FrameIn n) fs v) (λ fs. FrameFields IsFrame fs v)
      (frame_as0 (FrameIn n) IsFrame (λ k w p. (n, p)) v) m h

  pub frame_read : (m : Msg) → Readable IsFrame m → Readable FrameRead m
  frame_read m (v, h) = (v, frame_out m v h)

module _ (data_of : (TheId → Option Data) × (TheWidth → Option Data) × ((List (ℕ)) → Option Data) × ((BTreeMap (String Global) (ℕ) Global) → Option Data)
    × ((Option (TheWidth)) → Option Data)) where
  -- ---- what it is written as: one level, of what its parts are written as

  abbrev pub frame_level : Frame-F (Option Data) → Option Data
  frame_level v = structure_of ((codes "id", data_of.0 v.id)
      ∷ ((codes "width", data_of.1 v.width) ∷ ((codes "hash", data_of.2 v.hash)
      ∷ ((codes "counts", data_of.3 v.counts) ∷ ((codes "least", data_of.4 v.least) ∷ ((codes "frames", sequence_of v.frames.items) ∷ []))))))

  abbrev pub frame_data : Frame → Option Data
  frame_data = fold-Frame (Option Data) frame_level

module _ (fits_of : (TheId → Type 0) × (TheWidth → Type 0) × ((List (ℕ)) → Type 0) × ((BTreeMap (String Global) (ℕ) Global) → Type 0) × ((Option (TheWidth))
    → Type 0)) where
  -- ---- what is known of a value

  abbrev pub frame_layer_fits : (X : Type 0) → (X → Frame) → (X → Type 0) → Frame-F X → Type 0
  frame_layer_fits X at fits v = (fits_of.0 v.id) × (fits_of.1 v.width) × (fits_of.2 v.hash) × (fits_of.3 v.counts) × (fits_of.4 v.least)
      × (AllByRecursion fits v.frames.items)

  abbrev pub frame_fits : Frame → Type 0
  frame_fits = rec-Frame (Type 0) frame_layer_fits

-- ---- induction

-- P holds of the parts
abbrev pub FrameParts : (Frame → Type 0) → Frame-F Frame → Type 0
FrameParts P x = (All P x.frames.items)

frame_parts_hold : {B : Type 0} (P : Frame → Type 0) (first : B → Frame) → ((b : B) → P (first b)) → (y : Frame-F B) → FrameParts P (map-Frame B Frame first y)
frame_parts_hold P first h y = each_holds P first h y.frames.items

-- what holds of a value where it holds of its parts holds of each value
pub frame_induction : (P : Frame → Type 0) → ((v : Frame) → FrameParts P (out-Frame v) → P v) → (v : Frame) → P v
frame_induction P step =
    ind-Frame P (λ x y same. step (roll-Frame x) (subst (FrameParts P) (same ∙ sym (out-roll-Frame x)) (frame_parts_hold P (λ e. e.0) (λ e. e.1) y)))

module _ (fits_of : (TheId → Type 0) × (TheWidth → Type 0) × ((List (ℕ)) → Type 0) × ((BTreeMap (String Global) (ℕ) Global) → Type 0) × ((Option (TheWidth))
    → Type 0)) where
  frame_through : (X : Type 0) (at : X → Frame) (k : Frame → Type 0) (x : Frame-F X)
      → (frame_layer_fits fits_of) X at (λ p. k (at p)) x ≡ (frame_layer_fits fits_of) Frame (λ y. y) k (map-Frame X Frame at x)
  frame_through X at k x = λ i. (fits_of.0 x.id) × (fits_of.1 x.width) × (fits_of.2 x.hash) × (fits_of.3 x.counts) × (fits_of.4 x.least)
      × (through at k x.frames.items i)

module _ (fits_of : (TheId → Type 0) × (TheWidth → Type 0) × ((List (ℕ)) → Type 0) × ((BTreeMap (String Global) (ℕ) Global) → Type 0) × ((Option (TheWidth))
    → Type 0)) where
  abbrev pub FrameFits : Frame-F Frame → Type 0
  FrameFits x = (frame_layer_fits fits_of) Frame (λ y. y) (frame_fits fits_of) x

  frame_fits_is : (v : Frame) → (frame_fits fits_of) v ≡ FrameFits (out-Frame v)
  frame_fits_is v = ap (frame_fits fits_of) (sym (roll-out-Frame v)) ∙ rec-roll-Frame (Type 0) (frame_layer_fits fits_of) (frame_through fits_of) (out-Frame v)

  pub frame_fits_out : (v : Frame) → (frame_fits fits_of) v → FrameFits (out-Frame v)
  frame_fits_out v h = subst (λ T. T) (frame_fits_is v) h

  pub frame_fits_in : (v : Frame) (x : Frame-F Frame) → out-Frame v ≡ x → FrameFits x → (frame_fits fits_of) v
  frame_fits_in v x e h = subst (λ T. T) (sym (frame_fits_is v)) (subst FrameFits (sym e) h)

module _ (data_of : (TheId → Option Data) × (TheWidth → Option Data) × ((List (ℕ)) → Option Data) × ((BTreeMap (String Global) (ℕ) Global) → Option Data)
    × ((Option (TheWidth)) → Option Data)) where
  pub frame_is : (v : Frame) → (frame_data data_of) v ≡ (frame_level data_of) (map-Frame Frame (Option Data) (frame_data data_of) (out-Frame v))
  frame_is v = fold_out-Frame (Option Data) (frame_level data_of) v

  pub frame_is_at : (v : Frame) (x : Frame-F Frame) → out-Frame v ≡ x
      → (frame_data data_of) v ≡ (frame_level data_of) (map-Frame Frame (Option Data) (frame_data data_of) x)
  frame_is_at v x e = frame_is v ∙ ap (λ z. (frame_level data_of) (map-Frame Frame (Option Data) (frame_data data_of) z)) e

module _ (data_of : (TheId → Option Data) × (TheWidth → Option Data) × ((List (ℕ)) → Option Data) × ((BTreeMap (String Global) (ℕ) Global) → Option Data)
    × ((Option (TheWidth)) → Option Data)) where
  -- ---- what it is written as, by what its parts are

  abbrev pub frame_own : Frame-F Frame → Option Data
  frame_own x = structure_of ((codes "id", data_of.0 x.id)
      ∷ ((codes "width", data_of.1 x.width) ∷ ((codes "hash", data_of.2 x.hash)
      ∷ ((codes "counts", data_of.3 x.counts) ∷ ((codes "least", data_of.4 x.least)
      ∷ ((codes "frames", sequence_of (map (frame_data data_of) x.frames.items)) ∷ []))))))

  pub frame_is_own : (v : Frame) → (frame_data data_of) v ≡ frame_own (out-Frame v)
  frame_is_own v = (frame_is data_of) v
