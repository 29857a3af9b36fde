-- Each Tree is read as it was written, and as nothing else. Written by tools/derive.py.
use Rattle.std.proofs.Common.{◌≡◌, ◌∙◌, refl, sym, ap, subst, ℕ, map, Option, Some}
use Rattle.std.specs.Prelude.{◌≢◌, codes, Vec, IsSome}
use Rattle.std.specs.declared.alloc.Global.{Global}
use Rattle.rmp_wire.specs.Msg.{Msg, nil}
use Rattle.rmp_decode.specs.Read.{IsUnsigned}
use Rattle.rmp_decode.specs.Rows.{ReadsEach}
use Rattle.rmp_decode.specs.Variants.{OfVariant, Content}
use Rattle.rmp_encode.specs.Data.{Data, byte}
use Rattle.rmp_encode.specs.Trees.{tree_of, slice_of, newtype_variant_of}
use Rattle.rmp_encode.specs.declared.settings.Settings.{Settings}
use Rattle.rmp_round_trip.specs.LeafRounds.{byte_row}
use Rattle.rmp_round_trip.specs.OnlyFields.{AtPlace, content_only, variant_both}
use Rattle.rmp_round_trip.specs.OnlyLeaves.{byte_only}
use Rattle.rmp_round_trip.specs.OnlyRows.{list_only, lowers_then}
use Rattle.rmp_round_trip.specs.RoundTrip.{Alike, LowersTo, Only}
use Rattle.rmp_round_trip.specs.Rounds.{slice_some, each_row, slice_row}
use Rattle.rmp_round_trip.specs.VariantRounds.{newtype_variant_some, newtype_variant_row, newtype_variant_other}
use Rattle.rmp_recursive.specs.Parts.{Row, each_from}
use Rattle.rmp_recursive.specs.Rounds.{each_data, lowers_as, map_alike}
use Rattle.test_recursive.specs.declared.trees.Tree.{Tree, out-Tree}
use Rattle.test_recursive.specs.declared.trees.Tree.TheFolds.{map-Tree}
use Rattle.test_recursive.specs.declared.trees.Tree.TheOpen.{Tree-F}
use Rattle.test_recursive.specs.TreeLevels.{
  TreeCase,
  IsTree,
  TreeParts,
  TreeFits,
  tree_names,
  tree_level,
  tree_data,
  tree_fits,
  tree_made,
  tree_out,
  tree_induction,
  tree_fits_out,
  tree_is,
  tree_is_at,
}

-- ---- no value is refused

tree_level_some : (x : Tree-F Tree) → TreeParts (λ t. IsSome (tree_data t)) x → IsSome (tree_level (map-Tree Tree (Option Data) tree_data x))
tree_level_some (Tree-F.Leaf a) h = newtype_variant_some (codes "Leaf") (Some (byte a)) refl
tree_level_some (Tree-F.Node a) h = newtype_variant_some (codes "Node") (slice_of (map tree_data a.items))
    (slice_some (map tree_data a.items) (each_data tree_data a.items h))

pub tree_some : (v : Tree) → IsSome (tree_data v)
tree_some = tree_induction (λ v. IsSome (tree_data v)) (λ v h. subst IsSome (sym (tree_is v)) (tree_level_some (out-Tree v) h))

module _ (s : Settings) where
  -- ---- it is never nil

  tree_level_other : (x : Tree-F (Option Data)) → tree_of s (tree_level x) ≢ Some nil
  tree_level_other (Tree-F.Leaf a) e = newtype_variant_other s (codes "Leaf") (Some (byte a)) e
  tree_level_other (Tree-F.Node a) e = newtype_variant_other s (codes "Node") (slice_of a.items) e

  pub tree_other : (v : Tree) → tree_of s (tree_data v) ≢ Some nil
  tree_other v e = tree_level_other (map-Tree Tree (Option Data) tree_data (out-Tree v)) (ap (tree_of s) (sym (tree_is v)) ∙ e)

  -- ---- what a value lowers to is read as that value

  abbrev TreeBack : Tree → Type 0
  TreeBack v = LowersTo s (tree_data v) (λ m. IsTree m v)

  abbrev TreeRound : Tree → Type 0
  TreeRound v = tree_fits v → TreeBack v

  tree_level_round : (v : Tree) (x : Tree-F Tree) → out-Tree v ≡ x → TreeParts TreeRound x → TreeFits x
      → LowersTo s (tree_level (map-Tree Tree (Option Data) tree_data x)) (λ m. OfVariant tree_names (TreeCase IsTree v) m)
  tree_level_round v (Tree-F.Leaf a) e h fit = newtype_variant_row s tree_names (codes "Leaf") 0 refl (TreeCase IsTree v)
      (Some (byte a)) (λ m. IsUnsigned 255 m a) (λ m p. (a, e, p)) (byte_row s a fit)
  tree_level_round v (Tree-F.Node a) e h fit = newtype_variant_row s tree_names (codes "Node") 1 refl (TreeCase IsTree v)
      (slice_of (map tree_data a.items)) (λ m. Row IsTree m a.items) (λ m p. (a, e, p)) (slice_row s (map tree_data a.items) (λ ms. ReadsEach IsTree ms a.items)
      (each_row s tree_data TreeBack IsTree (λ w p. p) a.items (each_from tree_fits TreeBack a.items h fit)))

  pub tree_round : (v : Tree) → TreeRound v
  tree_round = tree_induction TreeRound
      (λ v h fits. subst (λ d. LowersTo s d (λ m. IsTree m v)) (sym (tree_is v))
      (lowers_as s (tree_level (map-Tree Tree (Option Data) tree_data (out-Tree v))) (λ m. OfVariant tree_names (TreeCase IsTree v) m) (λ m. IsTree m v)
      (tree_made v) (tree_level_round v (out-Tree v) refl h (tree_fits_out v fits))))

-- ---- values of the same content are written alike

abbrev pub SameTree : Tree → Tree → Type 0
SameTree v w = tree_data v ≡ tree_data w

tree_by : (w : Tree) (y : Tree-F Tree) → out-Tree w ≡ y → tree_level (map-Tree Tree (Option Data) tree_data y) ≡ tree_data w
tree_by w y e = sym (tree_is_at w y e)

module _ (s : Settings) where
  abbrev TreeOnly : Tree → Type 0
  TreeOnly v = LowersTo s (tree_data v) (λ m. Only IsTree SameTree m v)

  abbrev TreeLevelOnly : Tree-F Tree → Msg → Type 0
  TreeLevelOnly x m = (w : Tree) → OfVariant tree_names (TreeCase IsTree w) m → tree_level (map-Tree Tree (Option Data) tree_data x) ≡ tree_data w

  tree_level_only : (x : Tree-F Tree) → TreeParts (λ v. tree_fits v → TreeOnly v) x → TreeFits x
      → LowersTo s (tree_level (map-Tree Tree (Option Data) tree_data x)) (TreeLevelOnly x)
  tree_level_only (Tree-F.Leaf a) h fit =
      lowers_then s (newtype_variant_of (codes "Leaf") (Some (byte a))) _ (TreeLevelOnly (Tree-F.Leaf a))
      (newtype_variant_row s tree_names (codes "Leaf") 0 refl
      (AtPlace 0 (Content (λ k. Only (λ (k : Msg) (x : ℕ). IsUnsigned 255 k x) (λ (x y : ℕ). x ≡ y) k a))) (Some (byte a))
      (λ k. Only (λ (k : Msg) (x : ℕ). IsUnsigned 255 k x) (λ (x y : ℕ). x ≡ y) k a) (λ m p. (refl, p)) (byte_only s a))
      (λ m q w r. variant_both tree_names 0 _ (TreeCase IsTree w) _ m q r
      (λ c i j. ap (λ d. newtype_variant_of (codes "Leaf") d)
      (ap (λ n. Some (byte n)) (content_only (λ (k : Msg) (x : ℕ). IsUnsigned 255 k x) (λ (x y : ℕ). x ≡ y) a j.0 c i j.2))
      ∙ tree_by w (Tree-F.Leaf j.0) j.1))
  tree_level_only (Tree-F.Node a) h fit =
      lowers_then s (newtype_variant_of (codes "Node") (slice_of (map tree_data a.items))) _ (TreeLevelOnly (Tree-F.Node a))
      (newtype_variant_row s tree_names (codes "Node") 1 refl
      (AtPlace 1 (Content (λ k. Only (λ (k : Msg) (x : Vec Tree Global). Row IsTree k x.items)
      (λ (x y : Vec Tree Global). Alike SameTree x.items y.items) k a))) (slice_of (map tree_data a.items))
      (λ k. Only (λ (k : Msg) (x : Vec Tree Global). Row IsTree k x.items) (λ (x y : Vec Tree Global). Alike SameTree x.items y.items) k a)
      (λ m p. (refl, p)) (list_only s (slice_of (map tree_data a.items)) (λ us. us.items) IsTree SameTree a.items
      (slice_row s (map tree_data a.items) (λ ms. ReadsEach (Only IsTree SameTree) ms a.items)
      (each_row s tree_data TreeOnly (Only IsTree SameTree) (λ w p. p) a.items (each_from tree_fits TreeOnly a.items h fit)))))
      (λ m q w r. variant_both tree_names 1 _ (TreeCase IsTree w) _ m q r
      (λ c i j. ap (λ d. newtype_variant_of (codes "Node") d)
      (ap slice_of (map_alike tree_data a.items j.0.items
      (content_only (λ (k : Msg) (x : Vec Tree Global). Row IsTree k x.items) (λ (x y : Vec Tree Global). Alike SameTree x.items y.items) a j.0 c i
      j.2))) ∙ tree_by w (Tree-F.Node j.0) j.1))

  pub tree_only : (v : Tree) → tree_fits v → TreeOnly v
  tree_only = tree_induction (λ v. tree_fits v → TreeOnly v)
      (λ v h fits. subst (λ d. LowersTo s d (λ m. Only IsTree SameTree m v)) (sym (tree_is v))
      (lowers_then s (tree_level (map-Tree Tree (Option Data) tree_data (out-Tree v))) (TreeLevelOnly (out-Tree v)) (λ m. Only IsTree SameTree m v)
      (tree_level_only (out-Tree v) h (tree_fits_out v fits)) (λ m q w r. tree_is v ∙ q w (tree_out m w r))))
