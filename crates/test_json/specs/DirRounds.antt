-- Each Dir is read as it was written, and as nothing else. Written by tools/derive.py.
use Rattle.std.proofs.Common.{◌≡◌, ◌∙◌, refl, sym, ap, subst, ℕ, [], ◌∷◌, None, Some}
use Rattle.std.specs.Char.{IsScalar}
use Rattle.std.specs.Ordering.{nat_cmp}
use Rattle.std.proofs.lemmas.Cmp.{nat_cmp_total}
use Rattle.std.proofs.lemmas.Map.Lookups.{exact_unsigned}
use Rattle.std.specs.declared.collections.BTreeMap.{BTreeMap}
use Rattle.std.specs.Prelude.{◌≢◌, codes, ℤ, pos, negsuc, IsSome}
use Rattle.std.specs.declared.alloc.Global.{Global}
use Rattle.rmp_wire.specs.Msg.{Msg, nil}
use Rattle.rmp_decode.specs.Fields.{Field, Absent, NoField}
use Rattle.rmp_decode.specs.Maps.{ReadsEntries}
use Rattle.rmp_decode.specs.Read.{IsSigned, IsChar}
use Rattle.rmp_encode.specs.Data.{whole, char}
use Rattle.rmp_encode.specs.Trees.{tree_of, mapping_of, in_turn, structure_of}
use Rattle.rmp_encode.specs.declared.settings.Settings.{Settings}
use Rattle.rmp_round_trip.specs.LeafRounds.{char_row, signed_row_64}
use Rattle.rmp_round_trip.specs.MapRounds.{map_row, pairs_row}
use Rattle.rmp_round_trip.specs.OnlyFields.{fields_both, field_only, last_field}
use Rattle.rmp_round_trip.specs.OnlyLeaves.{signed_only, char_only}
use Rattle.rmp_round_trip.specs.OnlyMaps.{map_only}
use Rattle.rmp_round_trip.specs.OnlyRows.{lowers_then}
use Rattle.rmp_round_trip.specs.RoundTrip.{AlikeEntries, LowersTo, Only}
use Rattle.rmp_round_trip.specs.StructRounds.{structure_all, structure_row, structure_other, fields_none, fields_cons}
use Rattle.rmp_recursive.specs.MapRounds.{mapping_data, maps_alike}
use Rattle.rmp_recursive.specs.Maps.{entries_from}
use Rattle.rmp_recursive.specs.Rounds.{lowers_as}
use Rattle.test_json.specs.declared.dirs.Dir.{Dir, out-Dir}
use Rattle.test_json.specs.DirLevels.{
  IsDir,
  DirFields,
  DirRead,
  dir_names,
  dir_data,
  dir_fits,
  dir_made,
  dir_out,
  dir_induction,
  dir_fits_out,
  dir_own,
  dir_is_own,
}

-- ---- no value is refused

pub dir_some : (v : Dir) → IsSome (dir_data v)
dir_some = dir_induction (λ v. IsSome (dir_data v))
    (λ v h. subst IsSome (sym (dir_is_own v)) (structure_all
    ((codes "size", Some (whole (out-Dir v).size)) ∷ ((codes "dirs", mapping_of (in_turn (λ (q : ℕ). Some (char q)) dir_data (out-Dir v).dirs.entries))
    ∷ [])) (refl, ((mapping_data (λ (q : ℕ). Some (char q)) dir_data (λ q. refl) (out-Dir v).dirs.entries h), tt))))

module _ (s : Settings) where
  -- ---- it is never nil

  pub dir_other : (v : Dir) → tree_of s (dir_data v) ≢ Some nil
  dir_other v e = structure_other s ((codes "size", Some (whole (out-Dir v).size))
      ∷ ((codes "dirs", mapping_of (in_turn (λ (q : ℕ). Some (char q)) dir_data (out-Dir v).dirs.entries)) ∷ [])) (ap (tree_of s) (sym (dir_is_own v)) ∙ e)

  -- ---- what a value lowers to is read as that value

  abbrev DirBack : Dir → Type 0
  DirBack v = LowersTo s (dir_data v) (λ m. IsDir m v)

  abbrev DirRound : Dir → Type 0
  DirRound v = dir_fits v → DirBack v

  pub dir_round : (v : Dir) → DirRound v
  dir_round = dir_induction DirRound (λ v h fits.
      let fit = dir_fits_out v fits in
      subst (λ d. LowersTo s d (λ m. IsDir m v)) (sym (dir_is_own v))
      (lowers_as s (dir_own (out-Dir v)) (λ m. DirRead m v) (λ m. IsDir m v) (dir_made v)
      (structure_row s dir_names ((codes "size", Some (whole (out-Dir v).size))
      ∷ ((codes "dirs", mapping_of (in_turn (λ (q : ℕ). Some (char q)) dir_data (out-Dir v).dirs.entries)) ∷ [])) (λ fs. DirFields IsDir fs v) refl
      (fields_cons s (codes "size") _ _ _ (λ k. IsSigned (negsuc 9223372036854775807) (pos 9223372036854775807) k (out-Dir v).size)
      (Absent None (out-Dir v).size) _ (signed_row_64 s (out-Dir v).size fit.0)
      (fields_cons s (codes "dirs") _ _ _ (λ k. ReadsEntries nat_cmp (λ j q. IsChar j q) IsDir (out-Dir v).dirs.entries k)
      (Absent None (out-Dir v).dirs) _ (map_row s (λ (q : ℕ). Some (char q)) dir_data (λ (q : ℕ). IsScalar q) DirBack (λ (j : Msg) (q : ℕ). IsChar j q)
      IsDir (λ q u. char_row s q u) (λ w p. p)
      nat_cmp_total (out-Dir v).dirs.entries fit.1.1 (entries_from (λ (q : ℕ). IsScalar q) dir_fits DirBack (out-Dir v).dirs.entries h fit.1.0))
      (fields_none s))))))

-- ---- values of the same content are written alike

abbrev pub SameDir : Dir → Dir → Type 0
SameDir v w = dir_data v ≡ dir_data w

module _ (s : Settings) where
  abbrev DirOnly : Dir → Type 0
  DirOnly v = LowersTo s (dir_data v) (λ m. Only IsDir SameDir m v)

  pub dir_only : (v : Dir) → dir_fits v → DirOnly v
  dir_only = dir_induction (λ v. dir_fits v → DirOnly v) (λ v h fits.
      let fit = dir_fits_out v fits in
      subst (λ d. LowersTo s d (λ m. Only IsDir SameDir m v)) (sym (dir_is_own v))
      (lowers_then s (dir_own (out-Dir v)) _ (λ m. Only IsDir SameDir m v)
      (structure_row s dir_names ((codes "size", Some (whole (out-Dir v).size))
      ∷ ((codes "dirs", mapping_of (in_turn (λ (q : ℕ). Some (char q)) dir_data (out-Dir v).dirs.entries)) ∷ []))
      (Field (λ k. Only (λ (k : Msg) (x : ℤ). IsSigned (negsuc 9223372036854775807) (pos 9223372036854775807) k x) (λ (x y : ℤ). x ≡ y) k
      (out-Dir v).size) ⊥ (Field (λ k. Only (λ (k : Msg) (x : BTreeMap (ℕ) Dir Global). ReadsEntries nat_cmp (λ j q. IsChar j q) IsDir x.entries k)
      (λ (x y : BTreeMap (ℕ) Dir Global). AlikeEntries nat_cmp (λ (q r : ℕ). q ≡ r) SameDir x.entries y.entries) k (out-Dir v).dirs) ⊥ NoField)) refl
      (fields_cons s (codes "size") _ _ _ (λ k. Only (λ (k : Msg) (x : ℤ). IsSigned (negsuc 9223372036854775807) (pos 9223372036854775807) k x)
      (λ (x y : ℤ). x ≡ y) k (out-Dir v).size) ⊥ _ (signed_only s (negsuc 9223372036854775807) (pos 9223372036854775807) (out-Dir v).size)
      (fields_cons s (codes "dirs") _ _ _ (λ k. Only (λ (k : Msg) (x : BTreeMap (ℕ) Dir Global). ReadsEntries nat_cmp (λ j q. IsChar j q) IsDir
      x.entries k) (λ (x y : BTreeMap (ℕ) Dir Global). AlikeEntries nat_cmp (λ (q r : ℕ). q ≡ r) SameDir x.entries y.entries) k (out-Dir v).dirs) ⊥ _
      (map_only (λ (j : Msg) (q : ℕ). IsChar j q) IsDir (λ (q r : ℕ). q ≡ r) SameDir s
      (mapping_of (in_turn (λ (q : ℕ). Some (char q)) dir_data (out-Dir v).dirs.entries)) (λ us. us.entries) nat_cmp (out-Dir v).dirs.entries
      (pairs_row s (λ (q : ℕ). Some (char q)) dir_data (λ (q : ℕ). IsScalar q) DirOnly (Only (λ (j : Msg) (q : ℕ). IsChar j q) (λ (q r : ℕ). q ≡ r))
      (Only IsDir SameDir)
      (λ q u. char_only s q u) (λ w p. p) (out-Dir v).dirs.entries
      (entries_from (λ (q : ℕ). IsScalar q) dir_fits DirOnly (out-Dir v).dirs.entries h fit.1.0))) (fields_none s))))
      (λ m q w r. dir_is_own v ∙ (fields_both dir_names _ (λ fs. DirFields IsDir fs w) (dir_own (out-Dir v) ≡ dir_own (out-Dir w)) m q (dir_out m w r)
      (λ fs i j. let x = field_only (λ (k : Msg) (x : ℤ). IsSigned (negsuc 9223372036854775807) (pos 9223372036854775807) k x) (λ (x y : ℤ). x ≡ y)
      (out-Dir v).size (out-Dir w).size _ _ _ _ (last_field
      (λ (k : Msg) (x : BTreeMap (ℕ) Dir Global). ReadsEntries nat_cmp (λ j q. IsChar j q) IsDir x.entries k)
      (λ (x y : BTreeMap (ℕ) Dir Global). AlikeEntries nat_cmp (λ (q r : ℕ). q ≡ r) SameDir x.entries y.entries) (out-Dir v).dirs (out-Dir w).dirs _) fs
      i j in (λ i. structure_of ((codes "size", (ap (λ n. Some (whole n)) (x.0)) i)
      ∷ ((
        codes "dirs",
        (ap mapping_of (maps_alike (λ (q : ℕ). q) (nat_cmp) nat_cmp_total (exact_unsigned) (λ q. Some (char q))
            dir_data (out-Dir v).dirs.entries (out-Dir w).dirs.entries fit.1.1 (x.1))) i,
      ) ∷ []))))) ∙ sym (dir_is_own w))))
