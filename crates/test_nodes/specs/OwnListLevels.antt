-- What the recursive type OwnList is read from and written as, level by level. Written by tools/derive.py.
use Rattle.std.proofs.Common.{◌≡◌, ◌∙◌, refl, sym, ap, subst, ℕ, zero, suc, List, [], ◌∷◌, map, All, Option, None, Some, Box}
use Rattle.std.specs.List.{AllByRecursion}
use Rattle.std.specs.Prelude.{◌<◌, ◌^◌, ⊤, codes, Vec, pos, IfSome}
use Rattle.std.specs.declared.alloc.Global.{Global}
use Rattle.rmp_wire.specs.Msg.{Msg}
use Rattle.rmp_decode.specs.Fields.{OfFields, Field, Absent, NoField}
use Rattle.rmp_decode.specs.Law.{Readable}
use Rattle.rmp_decode.specs.Options.{IsOption}
use Rattle.rmp_decode.specs.Read.{IsUnsigned}
use Rattle.rmp_encode.specs.Data.{Data, whole}
use Rattle.rmp_encode.specs.Trees.{slice_of, option_of, structure_of}
use Rattle.rmp_recursive.specs.Parts.{Row, Boxed, InSteps, row_as, row_in, option_as, option_in, each_holds, through}
use Rattle.rmp_recursive.specs.Fields.{fields_as, fields_in, field_as, field_in}
use Rattle.rmp_recursive.specs.Shapes.{each_through, each_mapped}
use Rattle.test_nodes.specs.declared.lists.List.{List as OwnList, out-List as out-OwnList}
use Rattle.test_nodes.specs.declared.lists.List.TheFolds.{
  ind-List as ind-OwnList,
  fold-List as fold-OwnList,
  rec-List as rec-OwnList,
  map-List as
      map-OwnList,
  rec-roll-List as rec-roll-OwnList,
  fold_out-List as fold_out-OwnList,
}
use Rattle.test_nodes.specs.declared.lists.List.TheOpen.{List-F as OwnList-F}
use Rattle.test_nodes.specs.declared.lists.List.TheViews.{roll-List as roll-OwnList, out-roll-List as out-roll-OwnList, roll-out-List as roll-out-OwnList}

abbrev pub own_list_names : List (List ℕ)
own_list_names = codes "times" ∷ (codes "next" ∷ (codes "below" ∷ (codes "places" ∷ [])))

-- ---- what it is read from: the fields from each place on

abbrev pub OwnListFrom4 : (Msg → OwnList → Type 0) → OwnList-F OwnList → List (Option Msg) → Type 0
OwnListFrom4 reads x fs = NoField fs

abbrev pub OwnListFrom3 : (Msg → OwnList → Type 0) → OwnList-F OwnList → List (Option Msg) → Type 0
OwnListFrom3 reads x fs = Field (λ k. Row (λ j q. IsOption (Boxed reads) j q) k x.places.items) (Absent None x.places) (OwnListFrom4 reads x) fs

abbrev pub OwnListFrom2 : (Msg → OwnList → Type 0) → OwnList-F OwnList → List (Option Msg) → Type 0
OwnListFrom2 reads x fs = Field (λ k. IsOption (λ j q. Row reads j q.items) k x.below) (Absent (Some None) x.below) (OwnListFrom3 reads x) fs

abbrev pub OwnListFrom1 : (Msg → OwnList → Type 0) → OwnList-F OwnList → List (Option Msg) → Type 0
OwnListFrom1 reads x fs = Field (λ k. IsOption (Boxed reads) k x.next) (Absent (Some None) x.next) (OwnListFrom2 reads x) fs

abbrev pub OwnListFrom0 : (Msg → OwnList → Type 0) → OwnList-F OwnList → List (Option Msg) → Type 0
OwnListFrom0 reads x fs = Field (λ k. IsUnsigned 65535 k x.times) (Absent (Some (1)) x.times) (OwnListFrom1 reads x) fs

abbrev pub OwnListFields : (Msg → OwnList → Type 0) → List (Option Msg) → OwnList → Type 0
OwnListFields reads fs v = OwnListFrom0 reads (out-OwnList v) fs

abbrev pub OwnListIn : ℕ → Msg → OwnList → Type 0
OwnListIn zero m v = ⊥
OwnListIn (suc n) m v = OfFields own_list_names (λ fs. OwnListFields (OwnListIn n) fs v) m

-- in some number of steps the message is read as the value
abbrev pub IsOwnList : Msg → OwnList → Type 0
IsOwnList m v = InSteps OwnListIn m v

-- its fields are, each in its own number of steps
abbrev pub OwnListRead : Msg → OwnList → Type 0
OwnListRead m v = OfFields own_list_names (λ fs. OwnListFields IsOwnList fs v) m

-- ---- what it is written as: one level, of what its parts are written as

abbrev pub own_list_level : OwnList-F (Option Data) → Option Data
own_list_level v = structure_of ((codes "times", Some (whole (pos v.times)))
    ∷ ((codes "next", option_of (λ b. b.value) v.next)
    ∷ ((codes "below", option_of (λ (q : Vec (Option Data) Global). slice_of q.items) v.below)
    ∷ ((codes "places", slice_of (map (λ (q : Option (Box (Option Data) Global)). option_of (λ b. b.value) q) v.places.items)) ∷ []))))

abbrev pub own_list_data : OwnList → Option Data
own_list_data = fold-OwnList (Option Data) own_list_level

-- ---- what is known of a value

abbrev pub own_list_layer_fits : (X : Type 0) → (X → OwnList) → (X → Type 0) → OwnList-F X → Type 0
own_list_layer_fits X at fits v = (v.times < 2 ^ 16) × (IfSome v.next (λ b. fits b.value))
    × (IfSome v.below (λ (q : Vec X Global). AllByRecursion fits q.items))
    × (AllByRecursion (λ (q : Option (Box X Global)). IfSome q (λ b. fits b.value)) v.places.items)

abbrev pub own_list_fits : OwnList → Type 0
own_list_fits = rec-OwnList (Type 0) own_list_layer_fits

-- ---- one step more

own_list_as4 : (P Q : Msg → OwnList → Type 0) → ((m : Msg) (v : OwnList) → P m v → Q m v) → (v : OwnList) (fs : List (Option Msg))
    → OwnListFrom4 P (out-OwnList v) fs → OwnListFrom4 Q (out-OwnList v) fs
own_list_as4 P Q f v fs h = h

own_list_as3 : (P Q : Msg → OwnList → Type 0) → ((m : Msg) (v : OwnList) → P m v → Q m v) → (v : OwnList) (fs : List (Option Msg))
    → OwnListFrom3 P (out-OwnList v) fs → OwnListFrom3 Q (out-OwnList v) fs
own_list_as3 P Q f v = field_as (λ k. Row (λ j q. IsOption (Boxed P) j q) k (out-OwnList v).places.items)
    (λ k. Row (λ j q. IsOption (Boxed Q) j q) k (out-OwnList v).places.items) (Absent None (out-OwnList v).places) (OwnListFrom4 P (out-OwnList v))
    (OwnListFrom4 Q (out-OwnList v)) (λ m h. row_as (λ (j : Msg) (q : Option (Box OwnList Global)). IsOption (Boxed P) j q)
    (λ (j : Msg) (q : Option (Box OwnList Global)). IsOption (Boxed Q) j q) (λ n q g. option_as (Boxed P) (Boxed Q) (λ n b. f n b.value) n q g) m
    (out-OwnList v).places.items h) (own_list_as4 P Q f v)

own_list_as2 : (P Q : Msg → OwnList → Type 0) → ((m : Msg) (v : OwnList) → P m v → Q m v) → (v : OwnList) (fs : List (Option Msg))
    → OwnListFrom2 P (out-OwnList v) fs → OwnListFrom2 Q (out-OwnList v) fs
own_list_as2 P Q f v = field_as (λ k. IsOption (λ j q. Row P j q.items) k (out-OwnList v).below)
    (λ k. IsOption (λ j q. Row Q j q.items) k (out-OwnList v).below) (Absent (Some None) (out-OwnList v).below) (OwnListFrom3 P (out-OwnList v))
    (OwnListFrom3 Q (out-OwnList v)) (λ m h. option_as (λ (j : Msg) (q : Vec OwnList Global). Row P j q.items)
    (λ (j : Msg) (q : Vec OwnList Global). Row Q j q.items) (λ n q g. row_as P Q f n q.items g) m (out-OwnList v).below h) (own_list_as3 P Q f v)

own_list_as1 : (P Q : Msg → OwnList → Type 0) → ((m : Msg) (v : OwnList) → P m v → Q m v) → (v : OwnList) (fs : List (Option Msg))
    → OwnListFrom1 P (out-OwnList v) fs → OwnListFrom1 Q (out-OwnList v) fs
own_list_as1 P Q f v = field_as (λ k. IsOption (Boxed P) k (out-OwnList v).next) (λ k. IsOption (Boxed Q) k (out-OwnList v).next)
    (Absent (Some None) (out-OwnList v).next) (OwnListFrom2 P (out-OwnList v)) (OwnListFrom2 Q (out-OwnList v))
    (λ m h. option_as (Boxed P) (Boxed Q) (λ n b. f n b.value) m (out-OwnList v).next h) (own_list_as2 P Q f v)

own_list_as0 : (P Q : Msg → OwnList → Type 0) → ((m : Msg) (v : OwnList) → P m v → Q m v) → (v : OwnList) (fs : List (Option Msg))
    → OwnListFrom0 P (out-OwnList v) fs → OwnListFrom0 Q (out-OwnList v) fs
own_list_as0 P Q f v = field_as (λ k. IsUnsigned 65535 k (out-OwnList v).times) (λ k. IsUnsigned 65535 k (out-OwnList v).times)
    (Absent (Some (1)) (out-OwnList v).times) (OwnListFrom1 P (out-OwnList v)) (OwnListFrom1 Q (out-OwnList v)) (λ m h. h) (own_list_as1 P Q f v)

own_list_up : (n : ℕ) (m : Msg) (v : OwnList) → OwnListIn n m v → OwnListIn (suc n) m v
own_list_up zero m v h = absurd h
own_list_up (suc n) m v h = fields_as own_list_names (λ fs. OwnListFields (OwnListIn n) fs v) (λ fs. OwnListFields (OwnListIn (suc n)) fs v)
    (own_list_as0 (OwnListIn n) (OwnListIn (suc n)) (own_list_up n) v) m h

own_list_in4 : (v : OwnList) (fs : List (Option Msg)) → OwnListFrom4 IsOwnList (out-OwnList v) fs → (n : ℕ) × OwnListFrom4 (OwnListIn n) (out-OwnList v) fs
own_list_in4 v fs h = (zero, h)

own_list_in3 : (v : OwnList) (fs : List (Option Msg)) → OwnListFrom3 IsOwnList (out-OwnList v) fs → (n : ℕ) × OwnListFrom3 (OwnListIn n) (out-OwnList v) fs
own_list_in3 v = field_in (Absent None (out-OwnList v).places) (λ k. Row (λ j q. IsOption (Boxed IsOwnList) j q) k (out-OwnList v).places.items)
    (λ i. (λ k. Row (λ j q. IsOption (Boxed (OwnListIn i)) j q) k (out-OwnList v).places.items)) (OwnListFrom4 IsOwnList (out-OwnList v))
    (λ i. OwnListFrom4 (OwnListIn i) (out-OwnList v)) (λ i.
    (λ m h. row_as (λ (j : Msg) (q : Option (Box OwnList Global)). IsOption (Boxed (OwnListIn i)) j q)
    (λ (j : Msg) (q : Option (Box OwnList Global)). IsOption (Boxed (OwnListIn (suc i))) j q)
    (λ n q g. option_as (Boxed (OwnListIn i)) (Boxed (OwnListIn (suc i))) (λ n b. (own_list_up i) n b.value) n q g) m (out-OwnList v).places.items h))
    (λ i. own_list_as4 (OwnListIn i) (OwnListIn (suc i)) (own_list_up i) v)
    (λ m h. row_in (λ i. (λ (j : Msg) (q : Option (Box OwnList Global)). IsOption (Boxed (OwnListIn i)) j q))
    (λ i n q g. option_as (Boxed (OwnListIn i)) (Boxed (OwnListIn (suc i))) (λ n b. (own_list_up i) n b.value) n q g) m (out-OwnList v).places.items
    (row_as (λ (j : Msg) (q : Option (Box OwnList Global)). IsOption (Boxed IsOwnList) j q)
    (InSteps (λ i. (λ (j : Msg) (q : Option (Box OwnList Global)). IsOption (Boxed (OwnListIn i)) j q)))
    (λ n q g. option_in (λ n. Boxed (OwnListIn n)) n q g) m (out-OwnList v).places.items h)) (own_list_in4 v)

own_list_in2 : (v : OwnList) (fs : List (Option Msg)) → OwnListFrom2 IsOwnList (out-OwnList v) fs → (n : ℕ) × OwnListFrom2 (OwnListIn n) (out-OwnList v) fs
own_list_in2 v = field_in (Absent (Some None) (out-OwnList v).below) (λ k. IsOption (λ j q. Row IsOwnList j q.items) k (out-OwnList v).below)
    (λ i. (λ k. IsOption (λ j q. Row (OwnListIn i) j q.items) k (out-OwnList v).below)) (OwnListFrom3 IsOwnList (out-OwnList v))
    (λ i. OwnListFrom3 (OwnListIn i) (out-OwnList v)) (λ i.
    (λ m h. option_as (λ (j : Msg) (q : Vec OwnList Global). Row (OwnListIn i) j q.items)
    (λ (j : Msg) (q : Vec OwnList Global). Row (OwnListIn (suc i)) j q.items)
    (λ n q g. row_as (OwnListIn i) (OwnListIn (suc i)) (own_list_up i) n q.items g) m (out-OwnList v).below h))
    (λ i. own_list_as3 (OwnListIn i) (OwnListIn (suc i)) (own_list_up i) v)
    (λ m h. option_in (λ i. (λ (j : Msg) (q : Vec OwnList Global). Row (OwnListIn i) j q.items)) m (out-OwnList v).below
    (option_as (λ (j : Msg) (q : Vec OwnList Global). Row IsOwnList j q.items)
    (InSteps (λ i. (λ (j : Msg) (q : Vec OwnList Global). Row (OwnListIn i) j q.items))) (λ n q g. row_in OwnListIn own_list_up n q.items g) m
    (out-OwnList v).below h)) (own_list_in3 v)

own_list_in1 : (v : OwnList) (fs : List (Option Msg)) → OwnListFrom1 IsOwnList (out-OwnList v) fs → (n : ℕ) × OwnListFrom1 (OwnListIn n) (out-OwnList v) fs
own_list_in1 v = field_in (Absent (Some None) (out-OwnList v).next) (λ k. IsOption (Boxed IsOwnList) k (out-OwnList v).next)
    (λ i. (λ k. IsOption (Boxed (OwnListIn i)) k (out-OwnList v).next)) (OwnListFrom2 IsOwnList (out-OwnList v))
    (λ i. OwnListFrom2 (OwnListIn i) (out-OwnList v)) (λ i.
    (λ m h. option_as (Boxed (OwnListIn i)) (Boxed (OwnListIn (suc i))) (λ n b. (own_list_up i) n b.value) m (out-OwnList v).next h))
    (λ i. own_list_as2 (OwnListIn i) (OwnListIn (suc i)) (own_list_up i) v) (λ m h. option_in (λ n. Boxed (OwnListIn n)) m (out-OwnList v).next h)
    (own_list_in2 v)

own_list_in0 : (v : OwnList) (fs : List (Option Msg)) → OwnListFrom0 IsOwnList (out-OwnList v) fs → (n : ℕ) × OwnListFrom0 (OwnListIn n) (out-OwnList v) fs
own_list_in0 v = field_in (Absent (Some (1)) (out-OwnList v).times) (λ k. IsUnsigned 65535 k (out-OwnList v).times)
    (λ i. (λ k. IsUnsigned 65535 k (out-OwnList v).times)) (OwnListFrom1 IsOwnList (out-OwnList v)) (λ i. OwnListFrom1 (OwnListIn i) (out-OwnList v))
    (λ i. (λ m h. h)) (λ i. own_list_as1 (OwnListIn i) (OwnListIn (suc i)) (own_list_up i) v) (λ m h. (zero, h)) (own_list_in1 v)

pub own_list_made : (v : OwnList) (m : Msg) → OwnListRead m v → IsOwnList m v
own_list_made v m h =
    let i = fields_in own_list_names (λ fs. OwnListFields IsOwnList fs v) (λ n fs. OwnListFields (OwnListIn n) fs v) (own_list_in0 v) m h in (suc i.0, i.1)

pub own_list_out : (m : Msg) (v : OwnList) → IsOwnList m v → OwnListRead m v
own_list_out m v (zero, h) = absurd h
own_list_out m v (suc n, h) = fields_as own_list_names (λ fs. OwnListFields (OwnListIn n) fs v) (λ fs. OwnListFields IsOwnList fs v)
    (own_list_as0 (OwnListIn n) IsOwnList (λ k w p. (n, p)) v) m h

pub own_list_read : (m : Msg) → Readable IsOwnList m → Readable OwnListRead m
own_list_read m (v, h) = (v, own_list_out m v h)

own_list_hold_next : {B : Type 0} (P : OwnList → Type 0) (first : B → OwnList) → ((b : B) → P (first b)) → (y : OwnList-F B) (o : Option (Box B Global))
    → IfSome (map-OwnList B OwnList first (record y { next = o })).next (λ b. P b.value)
own_list_hold_next P first h y None = tt
own_list_hold_next P first h y (Some a) = h a.value

own_list_through_next : (X : Type 0) (at : X → OwnList) (k : OwnList → Type 0) (y : OwnList-F X) (o : Option (Box X Global))
    → IfSome o (λ b. k (at b.value)) ≡ IfSome (map-OwnList X OwnList at (record y { next = o })).next (λ b. k b.value)
own_list_through_next X at k y None = refl
own_list_through_next X at k y (Some a) = refl

own_list_hold_below : {B : Type 0} (P : OwnList → Type 0) (first : B → OwnList) → ((b : B) → P (first b)) → (y : OwnList-F B) (o : Option (Vec B Global))
    → IfSome (map-OwnList B OwnList first (record y { below = o })).below (λ q. All P q.items)
own_list_hold_below P first h y None = tt
own_list_hold_below P first h y (Some a) = each_holds P first h a.items

own_list_through_below : (X : Type 0) (at : X → OwnList) (k : OwnList → Type 0) (y : OwnList-F X) (o : Option (Vec X Global))
    → IfSome o (λ (q : Vec X Global). AllByRecursion (λ (p : X). k (at p)) q.items) ≡ IfSome (map-OwnList X OwnList at (record y { below = o })).below
    (λ (q : Vec OwnList Global). AllByRecursion k q.items)
own_list_through_below X at k y None = λ i. ⊤
own_list_through_below X at k y (Some a) = λ i. through at k a.items i

own_list_through_places : (X : Type 0) (at : X → OwnList) (k : OwnList → Type 0) (y : OwnList-F X)
    → AllByRecursion (λ (q : Option (Box X Global)). IfSome q (λ b. (λ (p : X). k (at p)) b.value)) y.places.items ≡ AllByRecursion
    (λ (q : Option (Box OwnList Global)). IfSome q (λ b. k b.value)) (map-OwnList X OwnList at y).places.items
own_list_through_places X at k y = each_through (λ (q : Option (Box X Global)). IfSome q (λ b. (λ (p : X). k (at p)) b.value))
    (λ (q : Option (Box OwnList Global)). IfSome q (λ b. k b.value)) _ (elim [ None ↦ refl | Some z ↦ refl ]) y.places.items

-- ---- induction

-- P holds of the parts
abbrev pub OwnListParts : (OwnList → Type 0) → OwnList-F OwnList → Type 0
OwnListParts P x = (IfSome x.next (λ b. P b.value)) × (IfSome x.below (λ q. All P q.items))
    × (All (λ (q : Option (Box OwnList Global)). IfSome q (λ b. P b.value)) x.places.items)

own_list_parts_hold : {B : Type 0} (P : OwnList → Type 0) (first : B → OwnList) → ((b : B) → P (first b)) → (y : OwnList-F B)
    → OwnListParts P (map-OwnList B OwnList first y)
own_list_parts_hold P first h y = (
  own_list_hold_next P first h y y.next,
  own_list_hold_below P first h y y.below,
  each_holds
      (λ (q : Option (Box OwnList Global)). IfSome q (λ b. P b.value)) _ (elim [ None ↦ tt | Some z ↦ h z.value ]) y.places.items,
)

-- what holds of a value where it holds of its parts holds of each value
pub own_list_induction : (P : OwnList → Type 0) → ((v : OwnList) → OwnListParts P (out-OwnList v) → P v) → (v : OwnList) → P v
own_list_induction P step =
    ind-OwnList P (λ x y same. step (roll-OwnList x) (subst (OwnListParts P) (same ∙ sym (out-roll-OwnList x)) (own_list_parts_hold P (λ e. e.0) (λ e. e.1) y)))

own_list_through : (X : Type 0) (at : X → OwnList) (k : OwnList → Type 0) (x : OwnList-F X)
    → own_list_layer_fits X at (λ p. k (at p)) x ≡ own_list_layer_fits OwnList (λ y. y) k (map-OwnList X OwnList at x)
own_list_through X at k x = λ i. (x.times < 2 ^ 16) × (own_list_through_next X at k x x.next i) × (own_list_through_below X at k x x.below i)
    × (own_list_through_places X at k x i)

abbrev pub OwnListFits : OwnList-F OwnList → Type 0
OwnListFits x = own_list_layer_fits OwnList (λ y. y) own_list_fits x

own_list_fits_is : (v : OwnList) → own_list_fits v ≡ OwnListFits (out-OwnList v)
own_list_fits_is v = ap own_list_fits (sym (roll-out-OwnList v)) ∙ rec-roll-OwnList (Type 0) own_list_layer_fits own_list_through (out-OwnList v)

pub own_list_fits_out : (v : OwnList) → own_list_fits v → OwnListFits (out-OwnList v)
own_list_fits_out v h = subst (λ T. T) (own_list_fits_is v) h

pub own_list_fits_in : (v : OwnList) (x : OwnList-F OwnList) → out-OwnList v ≡ x → OwnListFits x → own_list_fits v
own_list_fits_in v x e h = subst (λ T. T) (sym (own_list_fits_is v)) (subst OwnListFits (sym e) h)

pub own_list_is : (v : OwnList) → own_list_data v ≡ own_list_level (map-OwnList OwnList (Option Data) own_list_data (out-OwnList v))
own_list_is v = fold_out-OwnList (Option Data) own_list_level v

pub own_list_is_at : (v : OwnList) (x : OwnList-F OwnList) → out-OwnList v ≡ x
    → own_list_data v ≡ own_list_level (map-OwnList OwnList (Option Data) own_list_data x)
own_list_is_at v x e = own_list_is v ∙ ap (λ z. own_list_level (map-OwnList OwnList (Option Data) own_list_data z)) e

own_list_at_next : (y : OwnList-F OwnList) (o : Option (Box OwnList Global))
    → option_of (λ b. b.value) (map-OwnList OwnList (Option Data) own_list_data (record y { next = o })).next ≡ option_of
    (λ (b : Box OwnList Global). own_list_data b.value) o
own_list_at_next y None = refl
own_list_at_next y (Some a) = refl

own_list_at_below : (y : OwnList-F OwnList) (o : Option (Vec OwnList Global))
    → option_of (λ (q : Vec (Option Data) Global). slice_of q.items) (map-OwnList OwnList (Option Data) own_list_data (record y { below = o })).below ≡
    option_of (λ (q : Vec OwnList Global). slice_of (map own_list_data q.items)) o
own_list_at_below y None = refl
own_list_at_below y (Some a) = refl

own_list_mapped_places : (y : OwnList-F OwnList) → slice_of
    (map (λ (q : Option (Box (Option Data) Global)). option_of (λ b. b.value) q) (map-OwnList OwnList (Option Data) own_list_data y).places.items) ≡
    slice_of (map (λ (q : Option (Box OwnList Global)). option_of (λ (b : Box OwnList Global). own_list_data b.value) q) y.places.items)
own_list_mapped_places y = ap slice_of (each_mapped (λ (q : Option (Box (Option Data) Global)). option_of (λ b. b.value) q)
    (λ (q : Option (Box OwnList Global)). option_of (λ (b : Box OwnList Global). own_list_data b.value) q) _ (elim [ None ↦ refl | Some z ↦ refl ])
    y.places.items)

-- ---- what it is written as, by what its parts are

abbrev pub own_list_own : OwnList-F OwnList → Option Data
own_list_own x = structure_of ((codes "times", Some (whole (pos x.times)))
    ∷ ((codes "next", option_of (λ (b : Box OwnList Global). own_list_data b.value) x.next)
    ∷ ((codes "below", option_of (λ (q : Vec OwnList Global). slice_of (map own_list_data q.items)) x.below)
    ∷ ((
      codes "places",
      slice_of (map (λ (q : Option (Box OwnList Global)). option_of (λ (b : Box OwnList Global). own_list_data b.value) q)
          x.places.items),
    ) ∷ []))))

pub own_list_is_own : (v : OwnList) → own_list_data v ≡ own_list_own (out-OwnList v)
own_list_is_own v = own_list_is v ∙ (λ i. structure_of
    ((codes "times", Some (whole (pos (out-OwnList v).times)))
    ∷ ((codes "next", own_list_at_next (out-OwnList v) (out-OwnList v).next i)
    ∷ ((codes "below", own_list_at_below (out-OwnList v) (out-OwnList v).below i) ∷ ((codes "places", own_list_mapped_places (out-OwnList v) i) ∷ [])))))
