-- What the recursive type Tree is read from and written as, level by level. Written by tools/derive.py.
use Rattle.std.proofs.Common.{◌≡◌, ◌∙◌, refl, sym, ap, subst, ℕ, zero, suc, List, [], ◌∷◌, All, Option, None, Some}
use Rattle.std.specs.List.{AllByRecursion}
use Rattle.std.specs.Prelude.{◌<◌, ◌^◌, ⊤, codes, Vec}
use Rattle.std.specs.declared.alloc.Global.{Global}
use Rattle.rmp_wire.specs.Msg.{Msg}
use Rattle.rmp_decode.specs.Law.{Readable}
use Rattle.rmp_decode.specs.Read.{IsUnsigned}
use Rattle.rmp_decode.specs.Variants.{OfVariant, Case, NoCase, Content}
use Rattle.rmp_encode.specs.Data.{Data, byte}
use Rattle.rmp_encode.specs.Trees.{slice_of, newtype_variant_of}
use Rattle.rmp_recursive.specs.Parts.{Row, InSteps, row_as, row_in, variant_as, variant_in, each_holds, through}
use Rattle.test_recursive.specs.declared.trees.Tree.{Tree, out-Tree}
use Rattle.test_recursive.specs.declared.trees.Tree.TheFolds.{ind-Tree, fold-Tree, rec-Tree, map-Tree, rec-roll-Tree, fold_out-Tree}
use Rattle.test_recursive.specs.declared.trees.Tree.TheOpen.{Tree-F}
use Rattle.test_recursive.specs.declared.trees.Tree.TheViews.{roll-Tree, out-roll-Tree, roll-out-Tree}

abbrev pub tree_names : List (List ℕ)
tree_names = codes "Leaf" ∷ (codes "Node" ∷ [])

-- ---- what it is read from

abbrev pub TreeCase : (Msg → Tree → Type 0) → Tree → ℕ × Option Msg → Type 0
TreeCase reads v = Case (λ c. (a : ℕ) × (out-Tree v ≡ Tree-F.Leaf a) × Content (λ k. IsUnsigned 255 k a) c)
    (Case (λ c. (a : Vec Tree Global) × (out-Tree v ≡ Tree-F.Node a) × Content (λ k. Row reads k a.items) c)
    NoCase)

abbrev pub TreeIn : ℕ → Msg → Tree → Type 0
TreeIn zero m v = ⊥
TreeIn (suc n) m v = OfVariant tree_names (TreeCase (TreeIn n) v) m

-- in some number of steps the message is read as the value
abbrev pub IsTree : Msg → Tree → Type 0
IsTree m v = InSteps TreeIn m v

-- ---- what it is written as: one level, of what its parts are written as

abbrev pub tree_level : Tree-F (Option Data) → Option Data
tree_level (Tree-F.Leaf a) = newtype_variant_of (codes "Leaf") (Some (byte a))
tree_level (Tree-F.Node a) = newtype_variant_of (codes "Node") (slice_of a.items)

abbrev pub tree_data : Tree → Option Data
tree_data = fold-Tree (Option Data) tree_level

-- ---- what is known of a value

abbrev pub tree_layer_fits : (X : Type 0) → (X → Tree) → (X → Type 0) → Tree-F X → Type 0
tree_layer_fits X at fits (Tree-F.Leaf a) = a < 2 ^ 8
tree_layer_fits X at fits (Tree-F.Node a) = AllByRecursion fits a.items

abbrev pub tree_fits : Tree → Type 0
tree_fits = rec-Tree (Type 0) tree_layer_fits

-- ---- one step more

tree_as : (P Q : Msg → Tree → Type 0) → ((m : Msg) (v : Tree) → P m v → Q m v) → (v : Tree) (k : ℕ) (c : Option Msg) → TreeCase P v (k, c) → TreeCase Q v (k, c)
tree_as P Q f v zero c h = h
tree_as P Q f v (suc zero) None (a, e, h) = absurd h
tree_as P Q f v (suc zero) (Some m) (a, e, h) = (a, e, row_as P Q f m a.items h)
tree_as P Q f v (suc (suc k)) c h = absurd h

tree_up : (n : ℕ) (m : Msg) (v : Tree) → TreeIn n m v → TreeIn (suc n) m v
tree_up zero m v h = absurd h
tree_up (suc n) m v h =
    variant_as tree_names (TreeCase (TreeIn n) v) (TreeCase (TreeIn (suc n)) v) (tree_as (TreeIn n) (TreeIn (suc n)) (tree_up n) v) m h

tree_in : (v : Tree) (k : ℕ) (c : Option Msg) → TreeCase IsTree v (k, c) → (n : ℕ) × TreeCase (TreeIn n) v (k, c)
tree_in v zero c h = (zero, h)
tree_in v (suc zero) None (a, e, h) = absurd h
tree_in v (suc zero) (Some m) (a, e, h) = let i = row_in TreeIn tree_up m a.items h in (i.0, (a, e, i.1))
tree_in v (suc (suc k)) c h = absurd h

pub tree_made : (v : Tree) (m : Msg) → OfVariant tree_names (TreeCase IsTree v) m → IsTree m v
tree_made v m h = let i = variant_in tree_names (TreeCase IsTree v) (λ n. TreeCase (TreeIn n) v) (tree_in v) m h in (suc i.0, i.1)

pub tree_out : (m : Msg) (v : Tree) → IsTree m v → OfVariant tree_names (TreeCase IsTree v) m
tree_out m v (zero, h) = absurd h
tree_out m v (suc n, h) = variant_as tree_names (TreeCase (TreeIn n) v) (TreeCase IsTree v) (tree_as (TreeIn n) IsTree (λ k w p. (n, p)) v) m h

pub tree_variant : (m : Msg) → Readable IsTree m → Readable (λ k v. OfVariant tree_names (TreeCase IsTree v) k) m
tree_variant m (v, h) = (v, tree_out m v h)

-- ---- induction

-- P holds of the parts
abbrev pub TreeParts : (Tree → Type 0) → Tree-F Tree → Type 0
TreeParts P (Tree-F.Leaf a) = ⊤
TreeParts P (Tree-F.Node a) = All P a.items

tree_parts_hold : {B : Type 0} (P : Tree → Type 0) (first : B → Tree) → ((b : B) → P (first b)) → (y : Tree-F B) → TreeParts P (map-Tree B Tree first y)
tree_parts_hold P first h (Tree-F.Leaf a) = tt
tree_parts_hold P first h (Tree-F.Node a) = each_holds P first h a.items

-- what holds of a value where it holds of its parts holds of each value
pub tree_induction : (P : Tree → Type 0) → ((v : Tree) → TreeParts P (out-Tree v) → P v) → (v : Tree) → P v
tree_induction P step =
    ind-Tree P (λ x y same. step (roll-Tree x) (subst (TreeParts P) (same ∙ sym (out-roll-Tree x)) (tree_parts_hold P (λ e. e.0) (λ e. e.1) y)))

tree_through : (X : Type 0) (at : X → Tree) (k : Tree → Type 0) (x : Tree-F X)
    → tree_layer_fits X at (λ p. k (at p)) x ≡ tree_layer_fits Tree (λ y. y) k (map-Tree X Tree at x)
tree_through X at k (Tree-F.Leaf a) = refl
tree_through X at k (Tree-F.Node a) = λ i. through at k a.items i

abbrev pub TreeFits : Tree-F Tree → Type 0
TreeFits x = tree_layer_fits Tree (λ y. y) tree_fits x

tree_fits_is : (v : Tree) → tree_fits v ≡ TreeFits (out-Tree v)
tree_fits_is v = ap tree_fits (sym (roll-out-Tree v)) ∙ rec-roll-Tree (Type 0) tree_layer_fits tree_through (out-Tree v)

pub tree_fits_out : (v : Tree) → tree_fits v → TreeFits (out-Tree v)
tree_fits_out v h = subst (λ T. T) (tree_fits_is v) h

pub tree_fits_in : (v : Tree) (x : Tree-F Tree) → out-Tree v ≡ x → TreeFits x → tree_fits v
tree_fits_in v x e h = subst (λ T. T) (sym (tree_fits_is v)) (subst TreeFits (sym e) h)

pub tree_is : (v : Tree) → tree_data v ≡ tree_level (map-Tree Tree (Option Data) tree_data (out-Tree v))
tree_is v = fold_out-Tree (Option Data) tree_level v

pub tree_is_at : (v : Tree) (x : Tree-F Tree) → out-Tree v ≡ x → tree_data v ≡ tree_level (map-Tree Tree (Option Data) tree_data x)
tree_is_at v x e = tree_is v ∙ ap (λ z. tree_level (map-Tree Tree (Option Data) tree_data z)) e
