-- Each Rose is read as it was written, and as nothing else. Written by tools/derive.py.
use Rattle.std.proofs.Common.{◌≡◌, ◌∙◌, refl, sym, ap, subst, [], ◌∷◌, map, None, Some}
use Rattle.std.specs.Prelude.{◌≢◌, codes, Vec, IsSome}
use Rattle.std.specs.declared.alloc.Global.{Global}
use Rattle.rmp_wire.specs.Msg.{Msg, nil}
use Rattle.rmp_decode.specs.Fields.{Field, Absent, NoField}
use Rattle.rmp_decode.specs.Rows.{ReadsEach}
use Rattle.rmp_encode.specs.Trees.{tree_of, slice_of, structure_of}
use Rattle.rmp_encode.specs.declared.settings.Settings.{Settings}
use Rattle.rmp_round_trip.specs.OnlyFields.{fields_both, last_field}
use Rattle.rmp_round_trip.specs.OnlyRows.{list_only, lowers_then}
use Rattle.rmp_round_trip.specs.RoundTrip.{Alike, LowersTo, Only}
use Rattle.rmp_round_trip.specs.Rounds.{slice_some, each_row, slice_row}
use Rattle.rmp_round_trip.specs.StructRounds.{structure_all, structure_row, structure_other, fields_none, fields_cons}
use Rattle.rmp_recursive.specs.Parts.{Row, each_from}
use Rattle.rmp_recursive.specs.Rounds.{each_data, lowers_as, map_alike}
use Rattle.test_nodes.specs.declared.nodes.Rose.{Rose, out-Rose}
use Rattle.test_nodes.specs.RoseLevels.{
  IsRose,
  RoseFields,
  RoseRead,
  rose_names,
  rose_data,
  rose_fits,
  rose_made,
  rose_out,
  rose_induction,
  rose_fits_out,
  rose_own,
  rose_is_own,
}

-- ---- no value is refused

pub rose_some : (v : Rose) → IsSome (rose_data v)
rose_some = rose_induction (λ v. IsSome (rose_data v))
    (λ v h. subst IsSome (sym (rose_is_own v)) (structure_all ((codes "kids", slice_of (map rose_data (out-Rose v).kids.items)) ∷ [])
    ((slice_some (map rose_data (out-Rose v).kids.items) (each_data rose_data (out-Rose v).kids.items h)), tt)))

module _ (s : Settings) where
  -- ---- it is never nil

  pub rose_other : (v : Rose) → tree_of s (rose_data v) ≢ Some nil
  rose_other v e = structure_other s ((codes "kids", slice_of (map rose_data (out-Rose v).kids.items)) ∷ []) (ap (tree_of s) (sym (rose_is_own v)) ∙ e)

  -- ---- what a value lowers to is read as that value

  abbrev RoseBack : Rose → Type 0
  RoseBack v = LowersTo s (rose_data v) (λ m. IsRose m v)

  abbrev RoseRound : Rose → Type 0
  RoseRound v = rose_fits v → RoseBack v

  pub rose_round : (v : Rose) → RoseRound v
  rose_round = rose_induction RoseRound (λ v h fits.
      let fit = rose_fits_out v fits in
      subst (λ d. LowersTo s d (λ m. IsRose m v)) (sym (rose_is_own v))
      (lowers_as s (rose_own (out-Rose v)) (λ m. RoseRead m v) (λ m. IsRose m v) (rose_made v)
      (structure_row s rose_names ((codes "kids", slice_of (map rose_data (out-Rose v).kids.items)) ∷ []) (λ fs. RoseFields IsRose fs v) refl
      (fields_cons s (codes "kids") _ _ _ (λ k. Row IsRose k (out-Rose v).kids.items) (Absent None (out-Rose v).kids) _
      (slice_row s (map rose_data (out-Rose v).kids.items) (λ ms. ReadsEach IsRose ms (out-Rose v).kids.items)
      (each_row s rose_data RoseBack IsRose (λ w p. p) (out-Rose v).kids.items (each_from rose_fits RoseBack (out-Rose v).kids.items h fit)))
      (fields_none s)))))

-- ---- values of the same content are written alike

abbrev pub SameRose : Rose → Rose → Type 0
SameRose v w = rose_data v ≡ rose_data w

module _ (s : Settings) where
  abbrev RoseOnly : Rose → Type 0
  RoseOnly v = LowersTo s (rose_data v) (λ m. Only IsRose SameRose m v)

  pub rose_only : (v : Rose) → rose_fits v → RoseOnly v
  rose_only = rose_induction (λ v. rose_fits v → RoseOnly v) (λ v h fits.
      let fit = rose_fits_out v fits in
      subst (λ d. LowersTo s d (λ m. Only IsRose SameRose m v)) (sym (rose_is_own v))
      (lowers_then s (rose_own (out-Rose v)) _ (λ m. Only IsRose SameRose m v)
      (structure_row s rose_names ((codes "kids", slice_of (map rose_data (out-Rose v).kids.items)) ∷ [])
      (Field (λ k. Only (λ (k : Msg) (x : Vec Rose Global). Row IsRose k x.items) (λ (x y : Vec Rose Global). Alike SameRose x.items y.items) k
      (out-Rose v).kids) ⊥ NoField) refl
      (fields_cons s (codes "kids") _ _ _ (λ k. Only (λ (k : Msg) (x : Vec Rose Global). Row IsRose k x.items)
      (λ (x y : Vec Rose Global). Alike SameRose x.items y.items) k (out-Rose v).kids) ⊥ _
      (list_only s (slice_of (map rose_data (out-Rose v).kids.items)) (λ us. us.items) IsRose SameRose (out-Rose v).kids.items
      (slice_row s (map rose_data (out-Rose v).kids.items) (λ ms. ReadsEach (Only IsRose SameRose) ms (out-Rose v).kids.items)
      (each_row s rose_data RoseOnly (Only IsRose SameRose) (λ w p. p) (out-Rose v).kids.items
      (each_from rose_fits RoseOnly (out-Rose v).kids.items h fit)))) (fields_none s)))
      (λ m q w r. rose_is_own v ∙ (fields_both rose_names _ (λ fs. RoseFields IsRose fs w) (rose_own (out-Rose v) ≡ rose_own (out-Rose w)) m q (rose_out m w r)
      (λ fs i j. let x = (last_field (λ (k : Msg) (x : Vec Rose Global). Row IsRose k x.items) (λ (x y : Vec Rose Global). Alike SameRose x.items y.items)
      (out-Rose v).kids (out-Rose w).kids _) fs i j in (λ i. structure_of
      ((codes "kids", (ap slice_of (map_alike rose_data (out-Rose v).kids.items (out-Rose w).kids.items (x))) i) ∷ [])))) ∙ sym (rose_is_own w))))
