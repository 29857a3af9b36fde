-- Each OwnList is read as it was written, and as nothing else. Written by tools/derive.py.
use Rattle.std.proofs.Common.{◌≡◌, ◌∙◌, refl, sym, ap, subst, ℕ, [], ◌∷◌, map, All, Option, None, Some, Box}
use Rattle.std.specs.List.{AllByRecursion}
use Rattle.std.specs.Prelude.{◌≢◌, codes, Vec, pos, IsSome, IfSome}
use Rattle.std.specs.declared.alloc.Global.{Global}
use Rattle.rmp_wire.specs.Msg.{Msg, nil}
use Rattle.rmp_decode.specs.Fields.{Field, Absent, NoField}
use Rattle.rmp_decode.specs.Options.{IsOption}
use Rattle.rmp_decode.specs.Read.{IsUnsigned}
use Rattle.rmp_decode.specs.Rows.{ReadsEach}
use Rattle.rmp_encode.specs.Data.{whole}
use Rattle.rmp_encode.specs.Trees.{tree_of, slice_of, option_of, structure_of}
use Rattle.rmp_encode.specs.declared.settings.Settings.{Settings}
use Rattle.rmp_round_trip.specs.LeafRounds.{unsigned_row_16}
use Rattle.rmp_round_trip.specs.OnlyFields.{fields_both, field_only, last_field}
use Rattle.rmp_round_trip.specs.OnlyLeaves.{unsigned_only}
use Rattle.rmp_round_trip.specs.OnlyRows.{inside_only, list_only, option_only, lowers_then}
use Rattle.rmp_round_trip.specs.RoundTrip.{Alike, AlikeOption, LowersTo, Only}
use Rattle.rmp_round_trip.specs.Rounds.{slice_some, each_row, slice_row, slice_other, option_row}
use Rattle.rmp_round_trip.specs.StructRounds.{structure_all, structure_row, structure_other, fields_none, fields_cons}
use Rattle.rmp_recursive.specs.Parts.{Row, Boxed, each_from, option_from}
use Rattle.rmp_recursive.specs.Shapes.{each_both, option_both, option_known, each_as}
use Rattle.rmp_recursive.specs.Leaves.{maps_alike_by, option_alike_by}
use Rattle.rmp_recursive.specs.Rounds.{each_data, option_data, lowers_as, map_alike, option_alike}
use Rattle.test_nodes.specs.declared.lists.List.{List as OwnList, out-List as out-OwnList}
use Rattle.test_nodes.specs.OwnListLevels.{
  IsOwnList,
  OwnListFields,
  OwnListRead,
  own_list_names,
  own_list_data,
  own_list_fits,
  own_list_made,
  own_list_out,
  own_list_induction,
  own_list_fits_out,
  own_list_own,
  own_list_is_own,
}

-- ---- no value is refused

pub own_list_some : (v : OwnList) → IsSome (own_list_data v)
own_list_some = own_list_induction (λ v. IsSome (own_list_data v))
    (λ v h. subst IsSome (sym (own_list_is_own v)) (structure_all
    ((codes "times", Some (whole (pos (out-OwnList v).times)))
    ∷ ((codes "next", option_of (λ (b : Box OwnList Global). own_list_data b.value) (out-OwnList v).next)
    ∷ ((codes "below", option_of (λ (q : Vec OwnList Global). slice_of (map own_list_data q.items)) (out-OwnList v).below)
    ∷ ((
      codes "places",
      slice_of (map (λ (q : Option (Box OwnList Global)). option_of (λ (b : Box OwnList Global). own_list_data b.value) q)
          (out-OwnList v).places.items),
    ) ∷ [])))) (
      refl,
      (
        (option_data (λ (b : Box OwnList Global). own_list_data b.value) (out-OwnList v).next h.0),
        (
          (option_data (λ (q : Vec OwnList Global). slice_of (map own_list_data q.items)) (out-OwnList v).below
              (option_known _ _ (λ (q : Vec OwnList Global) g. (slice_some (map own_list_data q.items) (each_data own_list_data q.items g))) (out-OwnList v).below
              h.1)),
          (
            (slice_some (map (λ (q : Option (Box OwnList Global)). option_of (λ (b : Box OwnList Global). own_list_data b.value) q)
                (out-OwnList v).places.items) (each_data (λ (q : Option (Box OwnList Global)). option_of (λ (b : Box OwnList Global). own_list_data b.value) q)
                (out-OwnList v).places.items (each_as _ _ (λ (q : Option (Box OwnList Global)) g. (option_data (λ (b : Box OwnList Global). own_list_data b.value) q g))
                (out-OwnList v).places.items h.2))),
            tt,
          ),
        ),
      ),
    )))

module _ (s : Settings) where
  -- ---- it is never nil

  pub own_list_other : (v : OwnList) → tree_of s (own_list_data v) ≢ Some nil
  own_list_other v e = structure_other s ((codes "times", Some (whole (pos (out-OwnList v).times)))
      ∷ ((codes "next", option_of (λ (b : Box OwnList Global). own_list_data b.value) (out-OwnList v).next)
      ∷ ((codes "below", option_of (λ (q : Vec OwnList Global). slice_of (map own_list_data q.items)) (out-OwnList v).below)
      ∷ ((
        codes "places",
        slice_of (map (λ (q : Option (Box OwnList Global)). option_of (λ (b : Box OwnList Global). own_list_data b.value) q)
            (out-OwnList v).places.items),
      ) ∷ [])))) (ap (tree_of s) (sym (own_list_is_own v)) ∙ e)

  -- ---- what a value lowers to is read as that value

  abbrev OwnListBack : OwnList → Type 0
  OwnListBack v = LowersTo s (own_list_data v) (λ m. IsOwnList m v)

  abbrev OwnListRound : OwnList → Type 0
  OwnListRound v = own_list_fits v → OwnListBack v

  pub own_list_round : (v : OwnList) → OwnListRound v
  own_list_round = own_list_induction OwnListRound (λ v h fits.
      let fit = own_list_fits_out v fits in
      subst (λ d. LowersTo s d (λ m. IsOwnList m v)) (sym (own_list_is_own v))
      (lowers_as s (own_list_own (out-OwnList v)) (λ m. OwnListRead m v) (λ m. IsOwnList m v) (own_list_made v)
      (structure_row s own_list_names ((codes "times", Some (whole (pos (out-OwnList v).times)))
      ∷ ((codes "next", option_of (λ (b : Box OwnList Global). own_list_data b.value) (out-OwnList v).next)
      ∷ ((codes "below", option_of (λ (q : Vec OwnList Global). slice_of (map own_list_data q.items)) (out-OwnList v).below)
      ∷ ((
        codes "places",
        slice_of (map (λ (q : Option (Box OwnList Global)). option_of (λ (b : Box OwnList Global). own_list_data b.value) q)
            (out-OwnList v).places.items),
      ) ∷ [])))) (λ fs. OwnListFields IsOwnList fs v) refl
      (fields_cons s (codes "times") _ _ _ (λ k. IsUnsigned 65535 k (out-OwnList v).times) (Absent (Some (1)) (out-OwnList v).times) _
      (unsigned_row_16 s (out-OwnList v).times fit.0) (fields_cons s (codes "next") _ _ _ (λ k. IsOption (Boxed IsOwnList) k (out-OwnList v).next)
      (Absent (Some None) (out-OwnList v).next) _ (option_row s (λ (b : Box OwnList Global). own_list_data b.value) (λ b. OwnListBack b.value)
      (Boxed IsOwnList)
      (λ b. own_list_other b.value) (λ b p. p) (out-OwnList v).next
      (option_from (λ (b : Box OwnList Global). own_list_fits b.value) (λ b. OwnListBack b.value) (out-OwnList v).next h.0 fit.1))
      (fields_cons s (codes "below") _ _ _ (λ k. IsOption (λ j q. Row IsOwnList j q.items) k (out-OwnList v).below)
      (Absent (Some None) (out-OwnList v).below) _ (option_row s (λ (q : Vec OwnList Global). slice_of (map own_list_data q.items))
      (λ (q : Vec OwnList Global). LowersTo s (slice_of (map own_list_data q.items))
      (λ m. (λ (j : Msg) (q : Vec OwnList Global). Row IsOwnList j q.items) m q)) (λ (j : Msg) (q : Vec OwnList Global). Row IsOwnList j q.items)
      (λ q. slice_other s _) (λ q u. u) (out-OwnList v).below
      (option_both (λ (q : Vec OwnList Global). All (λ (v : OwnList). own_list_fits v → OwnListBack v) q.items)
      (λ (q : Vec OwnList Global). AllByRecursion own_list_fits q.items)
      (λ (q : Vec OwnList Global). LowersTo s (slice_of (map own_list_data q.items))
      (λ m. (λ (j : Msg) (q : Vec OwnList Global). Row IsOwnList j q.items) m q))
      (λ q g u. slice_row s (map own_list_data q.items) (λ ms. ReadsEach IsOwnList ms q.items)
      (each_row s own_list_data OwnListBack IsOwnList (λ w p. p) q.items (each_from own_list_fits OwnListBack q.items g u))) (out-OwnList v).below h.1
      fit.2)) (fields_cons s (codes "places") _ _ _ (λ k. Row (λ j q. IsOption (Boxed IsOwnList) j q) k (out-OwnList v).places.items)
      (Absent None (out-OwnList v).places) _ (slice_row s
      (map (λ (q : Option (Box OwnList Global)). option_of (λ (b : Box OwnList Global). own_list_data b.value) q) (out-OwnList v).places.items)
      (λ ms. ReadsEach (λ (j : Msg) (q : Option (Box OwnList Global)). IsOption (Boxed IsOwnList) j q) ms (out-OwnList v).places.items)
      (each_row s (λ (q : Option (Box OwnList Global)). option_of (λ (b : Box OwnList Global). own_list_data b.value) q)
      (λ (q : Option (Box OwnList Global)). LowersTo s (option_of (λ (b : Box OwnList Global). own_list_data b.value) q)
      (λ m. (λ (j : Msg) (q : Option (Box OwnList Global)). IsOption (Boxed IsOwnList) j q) m q))
      (λ (j : Msg) (q : Option (Box OwnList Global)). IsOption (Boxed IsOwnList) j q) (λ q u. u) (out-OwnList v).places.items
      (each_both (λ (q : Option (Box OwnList Global)). IfSome q (λ b. (λ (v : OwnList). own_list_fits v → OwnListBack v) b.value))
      (λ (q : Option (Box OwnList Global)). IfSome q (λ b. own_list_fits b.value))
      (λ (q : Option (Box OwnList Global)). LowersTo s (option_of (λ (b : Box OwnList Global). own_list_data b.value) q)
      (λ m. (λ (j : Msg) (q : Option (Box OwnList Global)). IsOption (Boxed IsOwnList) j q) m q))
      (λ q g u. option_row s (λ (b : Box OwnList Global). own_list_data b.value) (λ b. OwnListBack b.value) (Boxed IsOwnList)
      (λ b. own_list_other b.value) (λ b p. p) q (option_from (λ (b : Box OwnList Global). own_list_fits b.value) (λ b. OwnListBack b.value) q g u))
      (out-OwnList v).places.items h.2 fit.3))) (fields_none s))))))))

-- ---- values of the same content are written alike

abbrev pub SameOwnList : OwnList → OwnList → Type 0
SameOwnList v w = own_list_data v ≡ own_list_data w

module _ (s : Settings) where
  abbrev OwnListOnly : OwnList → Type 0
  OwnListOnly v = LowersTo s (own_list_data v) (λ m. Only IsOwnList SameOwnList m v)

  pub own_list_only : (v : OwnList) → own_list_fits v → OwnListOnly v
  own_list_only = own_list_induction (λ v. own_list_fits v → OwnListOnly v) (λ v h fits.
      let fit = own_list_fits_out v fits in
      subst (λ d. LowersTo s d (λ m. Only IsOwnList SameOwnList m v)) (sym (own_list_is_own v))
      (lowers_then s (own_list_own (out-OwnList v)) _ (λ m. Only IsOwnList SameOwnList m v)
      (structure_row s own_list_names ((codes "times", Some (whole (pos (out-OwnList v).times)))
      ∷ ((codes "next", option_of (λ (b : Box OwnList Global). own_list_data b.value) (out-OwnList v).next)
      ∷ ((codes "below", option_of (λ (q : Vec OwnList Global). slice_of (map own_list_data q.items)) (out-OwnList v).below)
      ∷ ((
        codes "places",
        slice_of (map (λ (q : Option (Box OwnList Global)). option_of (λ (b : Box OwnList Global). own_list_data b.value) q)
            (out-OwnList v).places.items),
      ) ∷ [])))) (Field (λ k. Only (λ (k : Msg) (x : ℕ). IsUnsigned 65535 k x) (λ (x y : ℕ). x ≡ y) k
      (out-OwnList v).times) ⊥ (Field (λ k. Only (λ (k : Msg) (x : Option (Box OwnList Global)). IsOption (Boxed IsOwnList) k x)
      (λ (x y : Option (Box OwnList Global)). AlikeOption (λ (b : Box OwnList Global) c. SameOwnList b.value c.value) x y) k (out-OwnList v).next) ⊥
      (Field (λ k. Only (λ (k : Msg) (x : Option (Vec OwnList Global)). IsOption (λ j q. Row IsOwnList j q.items) k x)
      (λ (x y : Option (Vec OwnList Global)). AlikeOption (λ (q r : Vec OwnList Global). Alike SameOwnList q.items r.items) x y) k
      (out-OwnList v).below) ⊥ (Field (λ k. Only (λ (k : Msg) (x : Vec (Option (Box OwnList Global)) Global). Row
      (λ j q. IsOption (Boxed IsOwnList) j q) k x.items)
      (λ (x y : Vec (Option (Box OwnList Global)) Global). Alike
      (λ (q r : Option (Box OwnList Global)). AlikeOption (λ (b : Box OwnList Global) c. SameOwnList b.value c.value) q r) x.items y.items) k
      (out-OwnList v).places) ⊥ NoField)))) refl
      (fields_cons s (codes "times") _ _ _ (λ k. Only (λ (k : Msg) (x : ℕ). IsUnsigned 65535 k x) (λ (x y : ℕ). x ≡ y) k (out-OwnList v).times) ⊥ _
      (unsigned_only s 65535 (out-OwnList v).times) (fields_cons s (codes "next") _ _ _
      (λ k. Only (λ (k : Msg) (x : Option (Box OwnList Global)). IsOption (Boxed IsOwnList) k x)
      (λ (x y : Option (Box OwnList Global)). AlikeOption (λ (b : Box OwnList Global) c. SameOwnList b.value c.value) x y) k (out-OwnList v).next) ⊥ _
      (option_only s (option_of (λ (b : Box OwnList Global). own_list_data b.value) (out-OwnList v).next) (Boxed IsOwnList)
      (λ b c. SameOwnList b.value c.value) (out-OwnList v).next
      (option_row s (λ (b : Box OwnList Global). own_list_data b.value) (λ b. OwnListOnly b.value) (Only (Boxed IsOwnList) (λ b c. SameOwnList b.value c.value))
      (λ b. own_list_other s b.value) (λ b p. inside_only s (own_list_data b.value) (λ (b : Box OwnList Global). b.value) IsOwnList SameOwnList b.value p)
      (out-OwnList v).next
      (option_from (λ (b : Box OwnList Global). own_list_fits b.value) (λ b. OwnListOnly b.value) (out-OwnList v).next h.0 fit.1)))
      (fields_cons s (codes "below") _ _ _ (λ k. Only (λ (k : Msg) (x : Option (Vec OwnList Global)). IsOption (λ j q. Row IsOwnList j q.items) k x)
      (λ (x y : Option (Vec OwnList Global)). AlikeOption (λ (q r : Vec OwnList Global). Alike SameOwnList q.items r.items) x y) k
      (out-OwnList v).below) ⊥ _ (option_only s (option_of (λ (q : Vec OwnList Global). slice_of (map own_list_data q.items)) (out-OwnList v).below)
      (λ (j : Msg) (q : Vec OwnList Global). Row IsOwnList j q.items) (λ (q r : Vec OwnList Global). Alike SameOwnList q.items r.items)
      (out-OwnList v).below
      (option_row s (λ (q : Vec OwnList Global). slice_of (map own_list_data q.items))
      (λ (q : Vec OwnList Global). LowersTo s (slice_of (map own_list_data q.items))
      (λ m. Only (λ (j : Msg) (q : Vec OwnList Global). Row IsOwnList j q.items) (λ (q r : Vec OwnList Global). Alike SameOwnList q.items r.items) m q))
      (Only (λ (j : Msg) (q : Vec OwnList Global). Row IsOwnList j q.items) (λ (q r : Vec OwnList Global). Alike SameOwnList q.items r.items))
      (λ q. slice_other s _) (λ q u. u) (out-OwnList v).below
      (option_both (λ (q : Vec OwnList Global). All (λ (v : OwnList). own_list_fits v → OwnListOnly v) q.items)
      (λ (q : Vec OwnList Global). AllByRecursion own_list_fits q.items)
      (λ (q : Vec OwnList Global). LowersTo s (slice_of (map own_list_data q.items))
      (λ m. Only (λ (j : Msg) (q : Vec OwnList Global). Row IsOwnList j q.items) (λ (q r : Vec OwnList Global). Alike SameOwnList q.items r.items) m q))
      (λ q g u. list_only s (slice_of (map own_list_data q.items)) (λ us. us.items) IsOwnList SameOwnList q.items
      (slice_row s (map own_list_data q.items) (λ ms. ReadsEach (Only IsOwnList SameOwnList) ms q.items)
      (each_row s own_list_data OwnListOnly (Only IsOwnList SameOwnList) (λ w p. p) q.items (each_from own_list_fits OwnListOnly q.items g u))))
      (out-OwnList v).below h.1 fit.2))) (fields_cons s (codes "places") _ _ _
      (λ k. Only (λ (k : Msg) (x : Vec (Option (Box OwnList Global)) Global). Row (λ j q. IsOption (Boxed IsOwnList) j q) k x.items)
      (λ (x y : Vec (Option (Box OwnList Global)) Global). Alike
      (λ (q r : Option (Box OwnList Global)). AlikeOption (λ (b : Box OwnList Global) c. SameOwnList b.value c.value) q r) x.items y.items) k
      (out-OwnList v).places) ⊥ _ (list_only s (slice_of
      (map (λ (q : Option (Box OwnList Global)). option_of (λ (b : Box OwnList Global). own_list_data b.value) q) (out-OwnList v).places.items))
      (λ (us : Vec (Option (Box OwnList Global)) Global). us.items) (λ (j : Msg) (q : Option (Box OwnList Global)). IsOption (Boxed IsOwnList) j q)
      (λ (q r : Option (Box OwnList Global)). AlikeOption (λ (b : Box OwnList Global) c. SameOwnList b.value c.value) q r) (out-OwnList v).places.items
      (slice_row s (map (λ (q : Option (Box OwnList Global)). option_of (λ (b : Box OwnList Global). own_list_data b.value) q) (out-OwnList v).places.items)
      (λ ms. ReadsEach (Only (λ (j : Msg) (q : Option (Box OwnList Global)). IsOption (Boxed IsOwnList) j q)
      (λ (q r : Option (Box OwnList Global)). AlikeOption (λ (b : Box OwnList Global) c. SameOwnList b.value c.value) q r)) ms
      (out-OwnList v).places.items) (each_row s (λ (q : Option (Box OwnList Global)). option_of (λ (b : Box OwnList Global). own_list_data b.value) q)
      (λ (q : Option (Box OwnList Global)). LowersTo s (option_of (λ (b : Box OwnList Global). own_list_data b.value) q)
      (λ m. Only (λ (j : Msg) (q : Option (Box OwnList Global)). IsOption (Boxed IsOwnList) j q)
      (λ (q r : Option (Box OwnList Global)). AlikeOption (λ (b : Box OwnList Global) c. SameOwnList b.value c.value) q r) m q))
      (Only (λ (j : Msg) (q : Option (Box OwnList Global)). IsOption (Boxed IsOwnList) j q)
      (λ (q r : Option (Box OwnList Global)). AlikeOption (λ (b : Box OwnList Global) c. SameOwnList b.value c.value) q r)) (λ q u. u)
      (out-OwnList v).places.items (each_both (λ (q : Option (Box OwnList Global)). IfSome q
      (λ b. (λ (v : OwnList). own_list_fits v → OwnListOnly v) b.value)) (λ (q : Option (Box OwnList Global)). IfSome q (λ b. own_list_fits b.value))
      (λ (q : Option (Box OwnList Global)). LowersTo s (option_of (λ (b : Box OwnList Global). own_list_data b.value) q)
      (λ m. Only (λ (j : Msg) (q : Option (Box OwnList Global)). IsOption (Boxed IsOwnList) j q)
      (λ (q r : Option (Box OwnList Global)). AlikeOption (λ (b : Box OwnList Global) c. SameOwnList b.value c.value) q r) m q))
      (λ q g u. option_only s (option_of (λ (b : Box OwnList Global). own_list_data b.value) q) (Boxed IsOwnList) (λ b c. SameOwnList b.value c.value) q
      (option_row s (λ (b : Box OwnList Global). own_list_data b.value) (λ b. OwnListOnly b.value) (Only (Boxed IsOwnList) (λ b c. SameOwnList b.value c.value))
      (λ b. own_list_other s b.value) (λ b p. inside_only s (own_list_data b.value) (λ (b : Box OwnList Global). b.value) IsOwnList SameOwnList b.value p) q
      (option_from (λ (b : Box OwnList Global). own_list_fits b.value) (λ b. OwnListOnly b.value) q g u))) (out-OwnList v).places.items h.2 fit.3))))
      (fields_none s))))))
      (λ m q w r. own_list_is_own v ∙ (fields_both own_list_names _ (λ fs. OwnListFields IsOwnList fs w)
      (own_list_own (out-OwnList v) ≡ own_list_own (out-OwnList w)) m q (own_list_out m w r)
      (λ fs i j. let x = field_only (λ (k : Msg) (x : ℕ). IsUnsigned 65535 k x) (λ (x y : ℕ). x ≡ y) (out-OwnList v).times (out-OwnList w).times _ _ _ _
      (field_only (λ (k : Msg) (x : Option (Box OwnList Global)). IsOption (Boxed IsOwnList) k x)
      (λ (x y : Option (Box OwnList Global)). AlikeOption (λ (b : Box OwnList Global) c. SameOwnList b.value c.value) x y) (out-OwnList v).next
      (out-OwnList w).next _ _ _ _ (field_only (λ (k : Msg) (x : Option (Vec OwnList Global)). IsOption (λ j q. Row IsOwnList j q.items) k x)
      (λ (x y : Option (Vec OwnList Global)). AlikeOption (λ (q r : Vec OwnList Global). Alike SameOwnList q.items r.items) x y) (out-OwnList v).below
      (out-OwnList w).below _ _ _ _ (last_field (λ (k : Msg) (x : Vec (Option (Box OwnList Global)) Global). Row (λ j q. IsOption (Boxed IsOwnList) j q)
      k x.items) (λ (x y : Vec (Option (Box OwnList Global)) Global). Alike
      (λ (q r : Option (Box OwnList Global)). AlikeOption (λ (b : Box OwnList Global) c. SameOwnList b.value c.value) q r) x.items y.items)
      (out-OwnList v).places (out-OwnList w).places _))) fs i j
      in (λ i. structure_of ((codes "times", (ap (λ n. Some (whole (pos n))) (x.0)) i)
      ∷ ((codes "next", (option_alike (λ (b : Box OwnList Global). own_list_data b.value) (out-OwnList v).next (out-OwnList w).next (x.1.0)) i)
      ∷ ((
        codes "below",
        (option_alike_by (λ (q : Vec OwnList Global). slice_of (map own_list_data q.items))
            (λ (q r : Vec OwnList Global). Alike SameOwnList q.items r.items) (λ q r e. ap slice_of (map_alike own_list_data q.items r.items e))
            (out-OwnList v).below (out-OwnList w).below (x.1.1.0)) i,
      )
      ∷ ((
        codes "places",
        (ap slice_of (maps_alike_by (λ (q : Option (Box OwnList Global)). option_of
            (λ (b : Box OwnList Global). own_list_data b.value) q)
            (λ (q r : Option (Box OwnList Global)). AlikeOption (λ (b : Box OwnList Global) c. SameOwnList b.value c.value) q r)
            (λ q r e. option_alike (λ (b : Box OwnList Global). own_list_data b.value) q r e) (out-OwnList v).places.items (out-OwnList w).places.items
            (x.1.1.1))) i,
      ) ∷ []))))))) ∙ sym (own_list_is_own w))))
