-- What the recursive type Rose is read from and written as, level by level. Written by tools/derive.py.
use Rattle.std.proofs.Common.{◌≡◌, ◌∙◌, sym, ap, subst, ℕ, zero, suc, List, [], ◌∷◌, map, All, Option, None}
use Rattle.std.specs.List.{AllByRecursion}
use Rattle.std.specs.Prelude.{codes}
use Rattle.rmp_wire.specs.Msg.{Msg}
use Rattle.rmp_decode.specs.Fields.{OfFields, Field, Absent, NoField}
use Rattle.rmp_decode.specs.Law.{Readable}
use Rattle.rmp_encode.specs.Data.{Data}
use Rattle.rmp_encode.specs.Trees.{slice_of, structure_of}
use Rattle.rmp_recursive.specs.Parts.{Row, InSteps, row_as, row_in, each_holds, through}
use Rattle.rmp_recursive.specs.Fields.{fields_as, fields_in, field_as, field_in}
use Rattle.test_nodes.specs.declared.nodes.Rose.{Rose, out-Rose}
use Rattle.test_nodes.specs.declared.nodes.Rose.TheFolds.{ind-Rose, fold-Rose, rec-Rose, map-Rose, rec-roll-Rose, fold_out-Rose}
use Rattle.test_nodes.specs.declared.nodes.Rose.TheOpen.{Rose-F}
use Rattle.test_nodes.specs.declared.nodes.Rose.TheViews.{roll-Rose, out-roll-Rose, roll-out-Rose}

abbrev pub rose_names : List (List ℕ)
rose_names = codes "kids" ∷ []

-- ---- what it is read from: the fields from each place on

abbrev pub RoseFrom1 : (Msg → Rose → Type 0) → Rose-F Rose → List (Option Msg) → Type 0
RoseFrom1 reads x fs = NoField fs

abbrev pub RoseFrom0 : (Msg → Rose → Type 0) → Rose-F Rose → List (Option Msg) → Type 0
RoseFrom0 reads x fs = Field (λ k. Row reads k x.kids.items) (Absent None x.kids) (RoseFrom1 reads x) fs

abbrev pub RoseFields : (Msg → Rose → Type 0) → List (Option Msg) → Rose → Type 0
RoseFields reads fs v = RoseFrom0 reads (out-Rose v) fs

abbrev pub RoseIn : ℕ → Msg → Rose → Type 0
RoseIn zero m v = ⊥
RoseIn (suc n) m v = OfFields rose_names (λ fs. RoseFields (RoseIn n) fs v) m

-- in some number of steps the message is read as the value
abbrev pub IsRose : Msg → Rose → Type 0
IsRose m v = InSteps RoseIn m v

-- its fields are, each in its own number of steps
abbrev pub RoseRead : Msg → Rose → Type 0
RoseRead m v = OfFields rose_names (λ fs. RoseFields IsRose fs v) m

-- ---- what it is written as: one level, of what its parts are written as

abbrev pub rose_level : Rose-F (Option Data) → Option Data
rose_level v = structure_of ((codes "kids", slice_of v.kids.items) ∷ [])

abbrev pub rose_data : Rose → Option Data
rose_data = fold-Rose (Option Data) rose_level

-- ---- what is known of a value

abbrev pub rose_layer_fits : (X : Type 0) → (X → Rose) → (X → Type 0) → Rose-F X → Type 0
rose_layer_fits X at fits v = (AllByRecursion fits v.kids.items)

abbrev pub rose_fits : Rose → Type 0
rose_fits = rec-Rose (Type 0) rose_layer_fits

-- ---- one step more

rose_as1 : (P Q : Msg → Rose → Type 0) → ((m : Msg) (v : Rose) → P m v → Q m v) → (v : Rose) (fs : List (Option Msg)) → RoseFrom1 P (out-Rose v) fs
    → RoseFrom1 Q (out-Rose v) fs
rose_as1 P Q f v fs h = h

rose_as0 : (P Q : Msg → Rose → Type 0) → ((m : Msg) (v : Rose) → P m v → Q m v) → (v : Rose) (fs : List (Option Msg)) → RoseFrom0 P (out-Rose v) fs
    → RoseFrom0 Q (out-Rose v) fs
rose_as0 P Q f v = field_as (λ k. Row P k (out-Rose v).kids.items) (λ k. Row Q k (out-Rose v).kids.items) (Absent None (out-Rose v).kids)
    (RoseFrom1 P (out-Rose v)) (RoseFrom1 Q (out-Rose v)) (λ m h. row_as P Q f m (out-Rose v).kids.items h) (rose_as1 P Q f v)

rose_up : (n : ℕ) (m : Msg) (v : Rose) → RoseIn n m v → RoseIn (suc n) m v
rose_up zero m v h = absurd h
rose_up (suc n) m v h = fields_as rose_names (λ fs. RoseFields (RoseIn n) fs v) (λ fs. RoseFields (RoseIn (suc n)) fs v)
    (rose_as0 (RoseIn n) (RoseIn (suc n)) (rose_up n) v) m h

rose_in1 : (v : Rose) (fs : List (Option Msg)) → RoseFrom1 IsRose (out-Rose v) fs → (n : ℕ) × RoseFrom1 (RoseIn n) (out-Rose v) fs
rose_in1 v fs h = (zero, h)

rose_in0 : (v : Rose) (fs : List (Option Msg)) → RoseFrom0 IsRose (out-Rose v) fs → (n : ℕ) × RoseFrom0 (RoseIn n) (out-Rose v) fs
rose_in0 v = field_in (Absent None (out-Rose v).kids) (λ k. Row IsRose k (out-Rose v).kids.items) (λ i. (λ k. Row (RoseIn i) k (out-Rose v).kids.items))
    (RoseFrom1 IsRose (out-Rose v)) (λ i. RoseFrom1 (RoseIn i) (out-Rose v))
    (λ i. (λ m h. row_as (RoseIn i) (RoseIn (suc i)) (rose_up i) m (out-Rose v).kids.items h)) (λ i. rose_as1 (RoseIn i) (RoseIn (suc i)) (rose_up i) v)
    (λ m h. row_in RoseIn rose_up m (out-Rose v).kids.items h) (rose_in1 v)

pub rose_made : (v : Rose) (m : Msg) → RoseRead m v → IsRose m v
rose_made v m h =
    let i = fields_in rose_names (λ fs. RoseFields IsRose fs v) (λ n fs. RoseFields (RoseIn n) fs v) (rose_in0 v) m h in (suc i.0, i.1)

pub rose_out : (m : Msg) (v : Rose) → IsRose m v → RoseRead m v
rose_out m v (zero, h) = absurd h
rose_out m v (suc n, h) = fields_as rose_names (λ fs. RoseFields (RoseIn n) fs v) (λ fs. RoseFields IsRose fs v)
    (rose_as0 (RoseIn n) IsRose (λ k w p. (n, p)) v) m h

pub rose_read : (m : Msg) → Readable IsRose m → Readable RoseRead m
rose_read m (v, h) = (v, rose_out m v h)

-- ---- induction

-- P holds of the parts
abbrev pub RoseParts : (Rose → Type 0) → Rose-F Rose → Type 0
RoseParts P x = (All P x.kids.items)

rose_parts_hold : {B : Type 0} (P : Rose → Type 0) (first : B → Rose) → ((b : B) → P (first b)) → (y : Rose-F B) → RoseParts P (map-Rose B Rose first y)
rose_parts_hold P first h y = each_holds P first h y.kids.items

-- what holds of a value where it holds of its parts holds of each value
pub rose_induction : (P : Rose → Type 0) → ((v : Rose) → RoseParts P (out-Rose v) → P v) → (v : Rose) → P v
rose_induction P step =
    ind-Rose P (λ x y same. step (roll-Rose x) (subst (RoseParts P) (same ∙ sym (out-roll-Rose x)) (rose_parts_hold P (λ e. e.0) (λ e. e.1) y)))

rose_through : (X : Type 0) (at : X → Rose) (k : Rose → Type 0) (x : Rose-F X)
    → rose_layer_fits X at (λ p. k (at p)) x ≡ rose_layer_fits Rose (λ y. y) k (map-Rose X Rose at x)
rose_through X at k x = λ i. (through at k x.kids.items i)

abbrev pub RoseFits : Rose-F Rose → Type 0
RoseFits x = rose_layer_fits Rose (λ y. y) rose_fits x

rose_fits_is : (v : Rose) → rose_fits v ≡ RoseFits (out-Rose v)
rose_fits_is v = ap rose_fits (sym (roll-out-Rose v)) ∙ rec-roll-Rose (Type 0) rose_layer_fits rose_through (out-Rose v)

pub rose_fits_out : (v : Rose) → rose_fits v → RoseFits (out-Rose v)
rose_fits_out v h = subst (λ T. T) (rose_fits_is v) h

pub rose_fits_in : (v : Rose) (x : Rose-F Rose) → out-Rose v ≡ x → RoseFits x → rose_fits v
rose_fits_in v x e h = subst (λ T. T) (sym (rose_fits_is v)) (subst RoseFits (sym e) h)

pub rose_is : (v : Rose) → rose_data v ≡ rose_level (map-Rose Rose (Option Data) rose_data (out-Rose v))
rose_is v = fold_out-Rose (Option Data) rose_level v

pub rose_is_at : (v : Rose) (x : Rose-F Rose) → out-Rose v ≡ x → rose_data v ≡ rose_level (map-Rose Rose (Option Data) rose_data x)
rose_is_at v x e = rose_is v ∙ ap (λ z. rose_level (map-Rose Rose (Option Data) rose_data z)) e

-- ---- what it is written as, by what its parts are

abbrev pub rose_own : Rose-F Rose → Option Data
rose_own x = structure_of ((codes "kids", slice_of (map rose_data x.kids.items)) ∷ [])

pub rose_is_own : (v : Rose) → rose_data v ≡ rose_own (out-Rose v)
rose_is_own v = rose_is v
