-- What the recursive type Doc is read from and written as, level by level. Written by tools/derive.py.
use Rattle.std.proofs.Common.{◌≡◌, ◌∙◌, refl, sym, ap, subst, ℕ, zero, suc, List, [], ◌∷◌, map, All, Option, None, Some, String, Box}
use Rattle.std.specs.List.{AllByRecursion}
use Rattle.std.specs.Prelude.{⊤, codes, Vec, IsUtf8, string_bytes}
use Rattle.std.specs.declared.alloc.Global.{Global}
use Rattle.rmp_wire.specs.Msg.{Msg}
use Rattle.rmp_decode.specs.Fields.{OfFields, Field, Absent, NoField}
use Rattle.rmp_decode.specs.Law.{Readable}
use Rattle.rmp_decode.specs.Read.{IsRaw}
use Rattle.rmp_decode.specs.Rows.{AndThen, NoMore}
use Rattle.rmp_decode.specs.Seq.{OfRow}
use Rattle.rmp_decode.specs.Variants.{OfVariant, Case, NoCase, Bare, Content}
use Rattle.rmp_encode.specs.Data.{Data, text, unit_variant}
use Rattle.rmp_encode.specs.Trees.{tuple_of, slice_of, newtype_variant_of, struct_variant_of}
use Rattle.rmp_recursive.specs.Parts.{Row, InSteps, row_as, row_in, variant_as, variant_in, of_row_as, of_row_in, then_as, then_in, each_holds, through}
use Rattle.rmp_recursive.specs.Fields.{fields_as, fields_in, field_as, field_in}
use Rattle.rmp_recursive.specs.Shapes.{each_through, each_mapped}
use Rattle.test_nodes.specs.declared.parts.Doc.{Doc, out-Doc}
use Rattle.test_nodes.specs.declared.parts.Doc.TheFolds.{ind-Doc, fold-Doc, rec-Doc, map-Doc, rec-roll-Doc, fold_out-Doc}
use Rattle.test_nodes.specs.declared.parts.Doc.TheOpen.{Doc-F}
use Rattle.test_nodes.specs.declared.parts.Doc.TheViews.{roll-Doc, out-roll-Doc, roll-out-Doc}
use Rattle.test_nodes.specs.declared.parts.Id.{Id as TheId}
use Rattle.test_nodes.specs.declared.parts.Width.{Width as TheWidth}

module _ (reads_of : (Msg → TheWidth → Type 0) × (Msg → TheId → Type 0)) where
  abbrev pub doc_names : List (List ℕ)
  doc_names = codes "Null" ∷ (codes "Wide" ∷ (codes "Framed" ∷ (codes "Array" ∷ (codes "Object" ∷ []))))

  -- ---- what it is read from

  -- the fields of Framed, and those from each place on
  abbrev pub doc_framed_names : List (List ℕ)
  doc_framed_names = codes "id" ∷ (codes "doc" ∷ [])

  abbrev pub DocFramedFrom2 : (Msg → Doc → Type 0) → TheId × Box Doc Global → List (Option Msg) → Type 0
  DocFramedFrom2 reads x fs = NoField fs

  abbrev pub DocFramedFrom1 : (Msg → Doc → Type 0) → TheId × Box Doc Global → List (Option Msg) → Type 0
  DocFramedFrom1 reads x fs = Field (λ k. reads k x.1.value) (Absent None x.1) (DocFramedFrom2 reads x) fs

  abbrev pub DocFramedFrom0 : (Msg → Doc → Type 0) → TheId × Box Doc Global → List (Option Msg) → Type 0
  DocFramedFrom0 reads x fs = Field (λ k. reads_of.1 k x.0) (Absent None x.0) (DocFramedFrom1 reads x) fs

  abbrev pub DocFramedFields : (Msg → Doc → Type 0) → List (Option Msg) → TheId × Box Doc Global → Type 0
  DocFramedFields reads fs v = DocFramedFrom0 reads v fs

  abbrev pub DocFramedRead : (Msg → Doc → Type 0) → Msg → TheId × Box Doc Global → Type 0
  DocFramedRead reads m a = OfFields doc_framed_names (λ fs. DocFramedFields reads fs a) m

  abbrev pub DocCase : (Msg → Doc → Type 0) → Doc → ℕ × Option Msg → Type 0
  DocCase reads v = Case (λ c. (out-Doc v ≡ Doc-F.Null) × Bare c)
      (Case (λ c. (a : TheWidth) × (out-Doc v ≡ Doc-F.Wide a) × Content (λ k. reads_of.0 k a) c)
      (Case (λ c. (a : TheId × Box Doc Global) × (out-Doc v ≡ Doc-F.Framed a.0 a.1) × Content (λ k. DocFramedRead reads k a) c)
      (Case (λ c. (a : Vec Doc Global) × (out-Doc v ≡ Doc-F.Array a) × Content (λ k. Row reads k a.items) c)
      (Case (λ c. (a : Vec (String Global × Doc) Global) × (out-Doc v ≡ Doc-F.Object a)
      × Content (λ k. Row (λ j q. OfRow (AndThen (λ j. IsRaw j (string_bytes q.0)) (AndThen (λ j. reads j q.1) NoMore)) j) k a.items) c)
      NoCase))))

  abbrev pub DocIn : ℕ → Msg → Doc → Type 0
  DocIn zero m v = ⊥
  DocIn (suc n) m v = OfVariant doc_names (DocCase (DocIn n) v) m

  -- in some number of steps the message is read as the value
  abbrev pub IsDoc : Msg → Doc → Type 0
  IsDoc m v = InSteps DocIn m v

  -- ---- one step more

  doc_framed_as2 : (P Q : Msg → Doc → Type 0) → ((m : Msg) (v : Doc) → P m v → Q m v) → (v : TheId × Box Doc Global) (fs : List (Option Msg))
      → DocFramedFrom2 P v fs → DocFramedFrom2 Q v fs
  doc_framed_as2 P Q f v fs h = h

  doc_framed_as1 : (P Q : Msg → Doc → Type 0) → ((m : Msg) (v : Doc) → P m v → Q m v) → (v : TheId × Box Doc Global) (fs : List (Option Msg))
      → DocFramedFrom1 P v fs → DocFramedFrom1 Q v fs
  doc_framed_as1 P Q f v = field_as (λ k. P k v.1.value) (λ k. Q k v.1.value) (Absent None v.1) (DocFramedFrom2 P v) (DocFramedFrom2 Q v)
      (λ m h. f m v.1.value h) (doc_framed_as2 P Q f v)

  doc_framed_as0 : (P Q : Msg → Doc → Type 0) → ((m : Msg) (v : Doc) → P m v → Q m v) → (v : TheId × Box Doc Global) (fs : List (Option Msg))
      → DocFramedFrom0 P v fs → DocFramedFrom0 Q v fs
  doc_framed_as0 P Q f v = field_as (λ k. reads_of.1 k v.0) (λ k. reads_of.1 k v.0) (Absent None v.0) (DocFramedFrom1 P v) (DocFramedFrom1 Q v) (λ m h. h)
      (doc_framed_as1 P Q f v)

  doc_as_Framed : (P Q : Msg → Doc → Type 0) → ((m : Msg) (v : Doc) → P m v → Q m v) → (m : Msg) (a : TheId × Box Doc Global) → DocFramedRead P m a
      → DocFramedRead Q m a
  doc_as_Framed P Q f m a h = fields_as doc_framed_names (λ fs. DocFramedFields P fs a) (λ fs. DocFramedFields Q fs a) (doc_framed_as0 P Q f a) m h

  doc_as : (P Q : Msg → Doc → Type 0) → ((m : Msg) (v : Doc) → P m v → Q m v) → (v : Doc) (k : ℕ) (c : Option Msg) → DocCase P v (k, c) → DocCase Q v (k, c)
  doc_as P Q f v zero c h = h
  doc_as P Q f v (suc zero) c h = h
  doc_as P Q f v (suc (suc zero)) None (a, e, h) = absurd h
  doc_as P Q f v (suc (suc zero)) (Some m) (a, e, h) = (a, e, doc_as_Framed P Q f m a h)
  doc_as P Q f v (suc (suc (suc zero))) None (a, e, h) = absurd h
  doc_as P Q f v (suc (suc (suc zero))) (Some m) (a, e, h) = (a, e, row_as P Q f m a.items h)
  doc_as P Q f v (suc (suc (suc (suc zero)))) None (a, e, h) = absurd h
  doc_as P Q f v (suc (suc (suc (suc zero)))) (Some m)
      (a, e, h) = (
        a,
        e,
        row_as (λ (j : Msg) (q : String Global × Doc). OfRow (AndThen (λ j. IsRaw j (string_bytes q.0)) (AndThen (λ j. P j q.1) NoMore)) j)
            (λ (j : Msg) (q : String Global × Doc). OfRow (AndThen (λ j. IsRaw j (string_bytes q.0)) (AndThen (λ j. Q j q.1) NoMore)) j)
            (λ n q g. of_row_as _ _ (then_as _ _ _ _ (λ n g. g) (then_as _ _ _ _ (λ n g. f n q.1 g) (λ ms g. g))) n g) m a.items h,
      )
  doc_as P Q f v (suc (suc (suc (suc (suc k))))) c h = absurd h

  doc_up : (n : ℕ) (m : Msg) (v : Doc) → DocIn n m v → DocIn (suc n) m v
  doc_up zero m v h = absurd h
  doc_up (suc n) m v h =
      variant_as doc_names (DocCase (DocIn n) v) (DocCase (DocIn (suc n)) v) (doc_as (DocIn n) (DocIn (suc n)) (doc_up n) v) m h

  doc_framed_in2 : (v : TheId × Box Doc Global) (fs : List (Option Msg)) → DocFramedFrom2 IsDoc v fs → (n : ℕ) × DocFramedFrom2 (DocIn n) v fs
  doc_framed_in2 v fs h = (zero, h)

  doc_framed_in1 : (v : TheId × Box Doc Global) (fs : List (Option Msg)) → DocFramedFrom1 IsDoc v fs → (n : ℕ) × DocFramedFrom1 (DocIn n) v fs
  doc_framed_in1 v = field_in (Absent None v.1) (λ k. IsDoc k v.1.value) (λ i. (λ k. (DocIn i) k v.1.value)) (DocFramedFrom2 IsDoc v)
      (λ i. DocFramedFrom2 (DocIn i) v) (λ i. (λ m h. (doc_up i) m v.1.value h)) (λ i. doc_framed_as2 (DocIn i) (DocIn (suc i)) (doc_up i) v) (λ m h. h)
      (doc_framed_in2 v)

  doc_framed_in0 : (v : TheId × Box Doc Global) (fs : List (Option Msg)) → DocFramedFrom0 IsDoc v fs → (n : ℕ) × DocFramedFrom0 (DocIn n) v fs
  doc_framed_in0 v = field_in (Absent None v.0) (λ k. reads_of.1 k v.0) (λ i. (λ k. reads_of.1 k v.0)) (DocFramedFrom1 IsDoc v)
      (λ i. DocFramedFrom1 (DocIn i) v) (λ i. (λ m h. h)) (λ i. doc_framed_as1 (DocIn i) (DocIn (suc i)) (doc_up i) v) (λ m h. (zero, h)) (doc_framed_in1 v)

  doc_in_Framed : (m : Msg) (a : TheId × Box Doc Global) → DocFramedRead IsDoc m a → (n : ℕ) × DocFramedRead (DocIn n) m a
  doc_in_Framed m a h = fields_in doc_framed_names (λ fs. DocFramedFields IsDoc fs a) (λ n fs. DocFramedFields (DocIn n) fs a) (doc_framed_in0 a) m h

  doc_in : (v : Doc) (k : ℕ) (c : Option Msg) → DocCase IsDoc v (k, c) → (n : ℕ) × DocCase (DocIn n) v (k, c)
  doc_in v zero c h = (zero, h)
  doc_in v (suc zero) c h = (zero, h)
  doc_in v (suc (suc zero)) None (a, e, h) = absurd h
  doc_in v (suc (suc zero)) (Some m) (a, e, h) = let i = doc_in_Framed m a h in (i.0, (a, e, i.1))
  doc_in v (suc (suc (suc zero))) None (a, e, h) = absurd h
  doc_in v (suc (suc (suc zero))) (Some m) (a, e, h) = let i = row_in DocIn doc_up m a.items h in (i.0, (a, e, i.1))
  doc_in v (suc (suc (suc (suc zero)))) None (a, e, h) = absurd h
  doc_in v (suc (suc (suc (suc zero)))) (Some m) (a, e, h) = let i = row_in
      (λ i. (λ (j : Msg) (q : String Global × Doc). OfRow (AndThen (λ j. IsRaw j (string_bytes q.0)) (AndThen (λ j. (DocIn i) j q.1) NoMore)) j))
      (λ i n q g. of_row_as _ _ (then_as _ _ _ _ (λ n g. g) (then_as _ _ _ _ (λ n g. (doc_up i) n q.1 g) (λ ms g. g))) n g) m a.items
      (row_as (λ (j : Msg) (q : String Global × Doc). OfRow (AndThen (λ j. IsRaw j (string_bytes q.0)) (AndThen (λ j. IsDoc j q.1) NoMore)) j)
      (InSteps (λ i. (λ (j : Msg) (q : String Global × Doc). OfRow (AndThen (λ j. IsRaw j (string_bytes q.0)) (AndThen (λ j. (DocIn i) j q.1) NoMore)) j)))
      (λ n q g. of_row_in _ _ (then_in _ _ _ _ (λ i. (λ n g. g)) (λ i. then_as _ _ _ _ (λ n g. (doc_up i) n q.1 g) (λ ms g. g)) (λ n g. (zero, g))
      (then_in _ _ _ _ (λ i. (λ n g. (doc_up i) n q.1 g)) (λ i. (λ ms g. g)) (λ n g. g) (λ ms g. (zero, g)))) n g) m a.items h) in (i.0, (a, e, i.1))
  doc_in v (suc (suc (suc (suc (suc k))))) c h = absurd h

  pub doc_made : (v : Doc) (m : Msg) → OfVariant doc_names (DocCase IsDoc v) m → IsDoc m v
  doc_made v m h = let i = variant_in doc_names (DocCase IsDoc v) (λ n. DocCase (DocIn n) v) (doc_in v) m h in (suc i.0, i.1)

  pub doc_out : (m : Msg) (v : Doc) → IsDoc m v → OfVariant doc_names (DocCase IsDoc v) m
  doc_out m v (zero, h) = absurd h
  doc_out m v (suc n, h) = variant_as doc_names (DocCase (DocIn n) v) (DocCase IsDoc v) (doc_as (DocIn n) IsDoc (λ k w p. (n, p)) v) m h

  pub doc_variant : (m : Msg) → Readable IsDoc m → Readable (λ k v. OfVariant doc_names (DocCase IsDoc v) k) m
  doc_variant m (v, h) = (v, doc_out m v h)

module _ (data_of : (TheWidth → Option Data) × (TheId → Option Data)) where
  -- ---- what it is written as: one level, of what its parts are written as

  abbrev pub doc_level : Doc-F (Option Data) → Option Data
  doc_level Doc-F.Null = Some (unit_variant (codes "Null"))
  doc_level (Doc-F.Wide a) = newtype_variant_of (codes "Wide") (data_of.0 a)
  doc_level (Doc-F.Framed a0 a1) = struct_variant_of (codes "Framed") ((codes "id", data_of.1 a0) ∷ ((codes "doc", a1.value) ∷ []))
  doc_level (Doc-F.Array a) = newtype_variant_of (codes "Array") (slice_of a.items)
  doc_level (Doc-F.Object a) = newtype_variant_of (codes "Object")
      (slice_of (map (λ (q : String Global × (Option Data)). tuple_of (Some (text (string_bytes q.0)) ∷ (q.1 ∷ []))) a.items))

  abbrev pub doc_data : Doc → Option Data
  doc_data = fold-Doc (Option Data) doc_level

module _ (fits_of : (TheWidth → Type 0) × (TheId → Type 0)) where
  -- ---- what is known of a value

  abbrev pub doc_layer_fits : (X : Type 0) → (X → Doc) → (X → Type 0) → Doc-F X → Type 0
  doc_layer_fits X at fits Doc-F.Null = ⊤
  doc_layer_fits X at fits (Doc-F.Wide a) = fits_of.0 a
  doc_layer_fits X at fits (Doc-F.Framed a0 a1) = (fits_of.1 a0) × (fits a1.value)
  doc_layer_fits X at fits (Doc-F.Array a) = AllByRecursion fits a.items
  doc_layer_fits X at fits (Doc-F.Object a) = AllByRecursion (λ (q : String Global × X). (IsUtf8 (string_bytes q.0)) × (fits q.1)) a.items

  abbrev pub doc_fits : Doc → Type 0
  doc_fits = rec-Doc (Type 0) doc_layer_fits

-- ---- induction

-- P holds of the parts
abbrev pub DocParts : (Doc → Type 0) → Doc-F Doc → Type 0
DocParts P Doc-F.Null = ⊤
DocParts P (Doc-F.Wide a) = ⊤
DocParts P (Doc-F.Framed a0 a1) = P a1.value
DocParts P (Doc-F.Array a) = All P a.items
DocParts P (Doc-F.Object a) = All (λ (q : String Global × Doc). (P q.1)) a.items

doc_parts_hold : {B : Type 0} (P : Doc → Type 0) (first : B → Doc) → ((b : B) → P (first b)) → (y : Doc-F B) → DocParts P (map-Doc B Doc first y)
doc_parts_hold P first h Doc-F.Null = tt
doc_parts_hold P first h (Doc-F.Wide a) = tt
doc_parts_hold P first h (Doc-F.Framed a0 a1) = h a1.value
doc_parts_hold P first h (Doc-F.Array a) = each_holds P first h a.items
doc_parts_hold P first h (Doc-F.Object a) = each_holds (λ (q : String Global × Doc). (P q.1)) _ (λ z. h z.1) a.items

-- what holds of a value where it holds of its parts holds of each value
pub doc_induction : (P : Doc → Type 0) → ((v : Doc) → DocParts P (out-Doc v) → P v) → (v : Doc) → P v
doc_induction P step =
    ind-Doc P (λ x y same. step (roll-Doc x) (subst (DocParts P) (same ∙ sym (out-roll-Doc x)) (doc_parts_hold P (λ e. e.0) (λ e. e.1) y)))

module _ (fits_of : (TheWidth → Type 0) × (TheId → Type 0)) where
  doc_through : (X : Type 0) (at : X → Doc) (k : Doc → Type 0) (x : Doc-F X)
      → (doc_layer_fits fits_of) X at (λ p. k (at p)) x ≡ (doc_layer_fits fits_of) Doc (λ y. y) k (map-Doc X Doc at x)
  doc_through X at k Doc-F.Null = refl
  doc_through X at k (Doc-F.Wide a) = refl
  doc_through X at k (Doc-F.Framed a0 a1) = λ i. (fits_of.1 a0) × (k (at a1.value))
  doc_through X at k (Doc-F.Array a) = λ i. through at k a.items i
  doc_through X at k (Doc-F.Object a) = λ i. each_through (λ (q : String Global × X). (IsUtf8 (string_bytes q.0)) × ((λ (p : X). k (at p)) q.1))
      (λ (q : String Global × Doc). (IsUtf8 (string_bytes q.0)) × (k q.1)) (λ (q : String Global × X). (q.0, (at q.1))) (λ z. refl) a.items i

module _ (fits_of : (TheWidth → Type 0) × (TheId → Type 0)) where
  abbrev pub DocFits : Doc-F Doc → Type 0
  DocFits x = (doc_layer_fits fits_of) Doc (λ y. y) (doc_fits fits_of) x

  doc_fits_is : (v : Doc) → (doc_fits fits_of) v ≡ DocFits (out-Doc v)
  doc_fits_is v = ap (doc_fits fits_of) (sym (roll-out-Doc v)) ∙ rec-roll-Doc (Type 0) (doc_layer_fits fits_of) (doc_through fits_of) (out-Doc v)

  pub doc_fits_out : (v : Doc) → (doc_fits fits_of) v → DocFits (out-Doc v)
  doc_fits_out v h = subst (λ T. T) (doc_fits_is v) h

  pub doc_fits_in : (v : Doc) (x : Doc-F Doc) → out-Doc v ≡ x → DocFits x → (doc_fits fits_of) v
  doc_fits_in v x e h = subst (λ T. T) (sym (doc_fits_is v)) (subst DocFits (sym e) h)

module _ (data_of : (TheWidth → Option Data) × (TheId → Option Data)) where
  pub doc_is : (v : Doc) → (doc_data data_of) v ≡ (doc_level data_of) (map-Doc Doc (Option Data) (doc_data data_of) (out-Doc v))
  doc_is v = fold_out-Doc (Option Data) (doc_level data_of) v

  pub doc_is_at : (v : Doc) (x : Doc-F Doc) → out-Doc v ≡ x → (doc_data data_of) v ≡ (doc_level data_of) (map-Doc Doc (Option Data) (doc_data data_of) x)
  doc_is_at v x e = doc_is v ∙ ap (λ z. (doc_level data_of) (map-Doc Doc (Option Data) (doc_data data_of) z)) e

module _ (data_of : (TheWidth → Option Data) × (TheId → Option Data)) where
  pub doc_at_Object : (a : Vec (String Global × Doc) Global)
      → (doc_level data_of) (map-Doc Doc (Option Data) (doc_data data_of) (Doc-F.Object a)) ≡ newtype_variant_of (codes "Object")
      (slice_of (map (λ (q : String Global × Doc). tuple_of (Some (text (string_bytes q.0)) ∷ ((doc_data data_of) q.1 ∷ []))) a.items))
  doc_at_Object a = λ i. newtype_variant_of (codes "Object")
      (slice_of (each_mapped (λ (q : String Global × (Option Data)). tuple_of (Some (text (string_bytes q.0)) ∷ (q.1 ∷ [])))
      (λ (q : String Global × Doc). tuple_of (Some (text (string_bytes q.0)) ∷ ((doc_data data_of) q.1 ∷ [])))
      (λ (q : String Global × Doc). (q.0, ((doc_data data_of) q.1))) (λ z. refl) a.items i))
