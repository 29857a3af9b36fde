-- What the recursive type Dir is read from and written as, level by level. Written by tools/derive.py.
use Rattle.std.proofs.Common.{◌≡◌, ◌∙◌, sym, ap, subst, ℕ, zero, suc, List, [], ◌∷◌, All, Option, None, Some}
use Rattle.std.specs.Char.{IsScalar}
use Rattle.std.specs.Int.{w64}
use Rattle.std.specs.Ordering.{nat_cmp}
use Rattle.std.specs.Prelude.{codes, pos, negsuc, FitsSigned}
use Rattle.rmp_wire.specs.Msg.{Msg}
use Rattle.rmp_decode.specs.Fields.{OfFields, Field, Absent, NoField}
use Rattle.rmp_decode.specs.Law.{Readable}
use Rattle.rmp_decode.specs.Maps.{ReadsEntries}
use Rattle.rmp_decode.specs.Read.{IsSigned, IsChar}
use Rattle.rmp_encode.specs.Data.{Data, whole, char}
use Rattle.rmp_encode.specs.Trees.{mapping_of, in_turn, structure_of}
use Rattle.rmp_recursive.specs.Parts.{InSteps}
use Rattle.rmp_recursive.specs.Fields.{fields_as, fields_in, field_as, field_in}
use Rattle.rmp_recursive.specs.Maps.{EntriesFit, map_as, map_in, entries_hold, entries_through, turns_mapped}
use Rattle.test_json.specs.declared.dirs.Dir.{Dir, out-Dir}
use Rattle.test_json.specs.declared.dirs.Dir.TheFolds.{ind-Dir, fold-Dir, rec-Dir, map-Dir, rec-roll-Dir, fold_out-Dir}
use Rattle.test_json.specs.declared.dirs.Dir.TheOpen.{Dir-F}
use Rattle.test_json.specs.declared.dirs.Dir.TheViews.{roll-Dir, out-roll-Dir, roll-out-Dir}

abbrev pub dir_names : List (List ℕ)
dir_names = codes "size" ∷ (codes "dirs" ∷ [])

-- ---- what it is read from: the fields from each place on

abbrev pub DirFrom2 : (Msg → Dir → Type 0) → Dir-F Dir → List (Option Msg) → Type 0
DirFrom2 reads x fs = NoField fs

abbrev pub DirFrom1 : (Msg → Dir → Type 0) → Dir-F Dir → List (Option Msg) → Type 0
DirFrom1 reads x fs = Field (λ k. ReadsEntries nat_cmp (λ j q. IsChar j q) reads x.dirs.entries k) (Absent None x.dirs) (DirFrom2 reads x) fs

abbrev pub DirFrom0 : (Msg → Dir → Type 0) → Dir-F Dir → List (Option Msg) → Type 0
DirFrom0 reads x fs = Field (λ k. IsSigned (negsuc 9223372036854775807) (pos 9223372036854775807) k x.size) (Absent None x.size) (DirFrom1 reads x) fs

abbrev pub DirFields : (Msg → Dir → Type 0) → List (Option Msg) → Dir → Type 0
DirFields reads fs v = DirFrom0 reads (out-Dir v) fs

abbrev pub DirIn : ℕ → Msg → Dir → Type 0
DirIn zero m v = ⊥
DirIn (suc n) m v = OfFields dir_names (λ fs. DirFields (DirIn n) fs v) m

-- in some number of steps the message is read as the value
abbrev pub IsDir : Msg → Dir → Type 0
IsDir m v = InSteps DirIn m v

-- its fields are, each in its own number of steps
abbrev pub DirRead : Msg → Dir → Type 0
DirRead m v = OfFields dir_names (λ fs. DirFields IsDir fs v) m

-- ---- what it is written as: one level, of what its parts are written as

abbrev pub dir_level : Dir-F (Option Data) → Option Data
dir_level v = structure_of ((codes "size", Some (whole v.size))
    ∷ ((codes "dirs", mapping_of (in_turn (λ (q : ℕ). Some (char q)) (λ x. x) v.dirs.entries)) ∷ []))

abbrev pub dir_data : Dir → Option Data
dir_data = fold-Dir (Option Data) dir_level

-- ---- what is known of a value

abbrev pub dir_layer_fits : (X : Type 0) → (X → Dir) → (X → Type 0) → Dir-F X → Type 0
dir_layer_fits X at fits v = (FitsSigned w64 v.size) × (EntriesFit nat_cmp (λ (q : ℕ). IsScalar q) fits v.dirs.entries)

abbrev pub dir_fits : Dir → Type 0
dir_fits = rec-Dir (Type 0) dir_layer_fits

-- ---- one step more

dir_as2 : (P Q : Msg → Dir → Type 0) → ((m : Msg) (v : Dir) → P m v → Q m v) → (v : Dir) (fs : List (Option Msg)) → DirFrom2 P (out-Dir v) fs
    → DirFrom2 Q (out-Dir v) fs
dir_as2 P Q f v fs h = h

dir_as1 : (P Q : Msg → Dir → Type 0) → ((m : Msg) (v : Dir) → P m v → Q m v) → (v : Dir) (fs : List (Option Msg)) → DirFrom1 P (out-Dir v) fs
    → DirFrom1 Q (out-Dir v) fs
dir_as1 P Q f v = field_as (λ k. ReadsEntries nat_cmp (λ j q. IsChar j q) P (out-Dir v).dirs.entries k)
    (λ k. ReadsEntries nat_cmp (λ j q. IsChar j q) Q (out-Dir v).dirs.entries k) (Absent None (out-Dir v).dirs) (DirFrom2 P (out-Dir v))
    (DirFrom2 Q (out-Dir v)) (λ m h. map_as nat_cmp (λ (j : Msg) (q : ℕ). IsChar j q) P Q f m (out-Dir v).dirs.entries h) (dir_as2 P Q f v)

dir_as0 : (P Q : Msg → Dir → Type 0) → ((m : Msg) (v : Dir) → P m v → Q m v) → (v : Dir) (fs : List (Option Msg)) → DirFrom0 P (out-Dir v) fs
    → DirFrom0 Q (out-Dir v) fs
dir_as0 P Q f v = field_as (λ k. IsSigned (negsuc 9223372036854775807) (pos 9223372036854775807) k (out-Dir v).size)
    (λ k. IsSigned (negsuc 9223372036854775807) (pos 9223372036854775807) k (out-Dir v).size) (Absent None (out-Dir v).size) (DirFrom1 P (out-Dir v))
    (DirFrom1 Q (out-Dir v)) (λ m h. h) (dir_as1 P Q f v)

dir_up : (n : ℕ) (m : Msg) (v : Dir) → DirIn n m v → DirIn (suc n) m v
dir_up zero m v h = absurd h
dir_up (suc n) m v h = fields_as dir_names (λ fs. DirFields (DirIn n) fs v) (λ fs. DirFields (DirIn (suc n)) fs v)
    (dir_as0 (DirIn n) (DirIn (suc n)) (dir_up n) v) m h

dir_in2 : (v : Dir) (fs : List (Option Msg)) → DirFrom2 IsDir (out-Dir v) fs → (n : ℕ) × DirFrom2 (DirIn n) (out-Dir v) fs
dir_in2 v fs h = (zero, h)

dir_in1 : (v : Dir) (fs : List (Option Msg)) → DirFrom1 IsDir (out-Dir v) fs → (n : ℕ) × DirFrom1 (DirIn n) (out-Dir v) fs
dir_in1 v = field_in (Absent None (out-Dir v).dirs) (λ k. ReadsEntries nat_cmp (λ j q. IsChar j q) IsDir (out-Dir v).dirs.entries k)
    (λ i. (λ k. ReadsEntries nat_cmp (λ j q. IsChar j q) (DirIn i) (out-Dir v).dirs.entries k)) (DirFrom2 IsDir (out-Dir v))
    (λ i. DirFrom2 (DirIn i) (out-Dir v)) (λ i. (λ m h. map_as nat_cmp (λ (j : Msg) (q : ℕ). IsChar j q) (DirIn i) (DirIn (suc i)) (dir_up i) m
    (out-Dir v).dirs.entries h)) (λ i. dir_as2 (DirIn i) (DirIn (suc i)) (dir_up i) v)
    (λ m h. map_in nat_cmp (λ (j : Msg) (q : ℕ). IsChar j q) DirIn dir_up m (out-Dir v).dirs.entries h) (dir_in2 v)

dir_in0 : (v : Dir) (fs : List (Option Msg)) → DirFrom0 IsDir (out-Dir v) fs → (n : ℕ) × DirFrom0 (DirIn n) (out-Dir v) fs
dir_in0 v = field_in (Absent None (out-Dir v).size) (λ k. IsSigned (negsuc 9223372036854775807) (pos 9223372036854775807) k (out-Dir v).size)
    (λ i. (λ k. IsSigned (negsuc 9223372036854775807) (pos 9223372036854775807) k (out-Dir v).size)) (DirFrom1 IsDir (out-Dir v))
    (λ i. DirFrom1 (DirIn i) (out-Dir v)) (λ i. (λ m h. h)) (λ i. dir_as1 (DirIn i) (DirIn (suc i)) (dir_up i) v) (λ m h. (zero, h)) (dir_in1 v)

pub dir_made : (v : Dir) (m : Msg) → DirRead m v → IsDir m v
dir_made v m h =
    let i = fields_in dir_names (λ fs. DirFields IsDir fs v) (λ n fs. DirFields (DirIn n) fs v) (dir_in0 v) m h in (suc i.0, i.1)

pub dir_out : (m : Msg) (v : Dir) → IsDir m v → DirRead m v
dir_out m v (zero, h) = absurd h
dir_out m v (suc n, h) = fields_as dir_names (λ fs. DirFields (DirIn n) fs v) (λ fs. DirFields IsDir fs v)
    (dir_as0 (DirIn n) IsDir (λ k w p. (n, p)) v) m h

pub dir_read : (m : Msg) → Readable IsDir m → Readable DirRead m
dir_read m (v, h) = (v, dir_out m v h)

-- ---- induction

-- P holds of the parts
abbrev pub DirParts : (Dir → Type 0) → Dir-F Dir → Type 0
DirParts P x = (All (λ (e : ℕ × Dir). P e.1) x.dirs.entries)

dir_parts_hold : {B : Type 0} (P : Dir → Type 0) (first : B → Dir) → ((b : B) → P (first b)) → (y : Dir-F B) → DirParts P (map-Dir B Dir first y)
dir_parts_hold P first h y = entries_hold first P h y.dirs.entries

-- what holds of a value where it holds of its parts holds of each value
pub dir_induction : (P : Dir → Type 0) → ((v : Dir) → DirParts P (out-Dir v) → P v) → (v : Dir) → P v
dir_induction P step =
    ind-Dir P (λ x y same. step (roll-Dir x) (subst (DirParts P) (same ∙ sym (out-roll-Dir x)) (dir_parts_hold P (λ e. e.0) (λ e. e.1) y)))

dir_through : (X : Type 0) (at : X → Dir) (k : Dir → Type 0) (x : Dir-F X)
    → dir_layer_fits X at (λ p. k (at p)) x ≡ dir_layer_fits Dir (λ y. y) k (map-Dir X Dir at x)
dir_through X at k x = λ i. (FitsSigned w64 x.size) × (entries_through at nat_cmp (λ (q : ℕ). IsScalar q) k x.dirs.entries i)

abbrev pub DirFits : Dir-F Dir → Type 0
DirFits x = dir_layer_fits Dir (λ y. y) dir_fits x

dir_fits_is : (v : Dir) → dir_fits v ≡ DirFits (out-Dir v)
dir_fits_is v = ap dir_fits (sym (roll-out-Dir v)) ∙ rec-roll-Dir (Type 0) dir_layer_fits dir_through (out-Dir v)

pub dir_fits_out : (v : Dir) → dir_fits v → DirFits (out-Dir v)
dir_fits_out v h = subst (λ T. T) (dir_fits_is v) h

pub dir_fits_in : (v : Dir) (x : Dir-F Dir) → out-Dir v ≡ x → DirFits x → dir_fits v
dir_fits_in v x e h = subst (λ T. T) (sym (dir_fits_is v)) (subst DirFits (sym e) h)

pub dir_is : (v : Dir) → dir_data v ≡ dir_level (map-Dir Dir (Option Data) dir_data (out-Dir v))
dir_is v = fold_out-Dir (Option Data) dir_level v

pub dir_is_at : (v : Dir) (x : Dir-F Dir) → out-Dir v ≡ x → dir_data v ≡ dir_level (map-Dir Dir (Option Data) dir_data x)
dir_is_at v x e = dir_is v ∙ ap (λ z. dir_level (map-Dir Dir (Option Data) dir_data z)) e

-- ---- what it is written as, by what its parts are

abbrev pub dir_own : Dir-F Dir → Option Data
dir_own x = structure_of ((codes "size", Some (whole x.size)) ∷ ((codes "dirs", mapping_of (in_turn (λ (q : ℕ). Some (char q)) dir_data x.dirs.entries)) ∷ []))

pub dir_is_own : (v : Dir) → dir_data v ≡ dir_own (out-Dir v)
dir_is_own v = dir_is v ∙ (λ i. structure_of ((codes "size", Some (whole (out-Dir v).size))
    ∷ ((codes "dirs", mapping_of (turns_mapped (λ (q : ℕ). Some (char q)) dir_data (out-Dir v).dirs.entries i)) ∷ [])))
