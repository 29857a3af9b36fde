-- What is wrapped is written as what it holds, and what has no fields as the empty list.
use Rattle.std.proofs.Common.{◌≡◌, ℕ, List, codes, Bool, true, false, cond, Option, None, Some, refl, sym, ◌∙◌, ap, append-nil, inr, arith}
use Rattle.std.specs.Borrow.{Bor}
use Rattle.std.specs.Prelude.{Result, Err}
use Rattle.std.specs.Str.{bytes_eq}
use Rattle.rmp_wire.specs.declared.sink.Sink.{Ghosts}
use Rattle.rmp_wire.specs.Heads.{fits_head}
use Rattle.rmp_wire.specs.Msg.{list, no_items}
use Rattle.rmp_encode.specs.declared.error.Error.TheVariants.{InvalidDataModel}
use Rattle.rmp_encode.specs.declared.settings.Settings.{Settings}
use Rattle.rmp_encode.specs.Data.{Data, lower}
use Rattle.rmp_encode.specs.Errors.{IsNoTuple}
use Rattle.rmp_encode.specs.Going.{head_at}
use Rattle.rmp_encode.specs.Trees.{HasTree, spell, tree_of, byte_of, wrapped_of, option_of, newtype_of}
use Rattle.rmp_encode.specs.Writes.{WritesPart, WritesTree}
use Rattle.rmp_encode.proofs.Parts.{part_as, part_nothing}
use Rattle.rmp_encode.proofs.TupleSteps.{as_tree}

-- the tree of what is wrapped
pub wrapped_tree : (s : Settings) (d : Option Data) → tree_of s (wrapped_of d) ≡ tree_of s d
unfolding lower
wrapped_tree s None = refl
wrapped_tree s (Some d) = refl

-- what is wrapped is no byte
pub wrapped_no_byte : (d : Option Data) → byte_of (wrapped_of d) ≡ None
wrapped_no_byte None = refl
wrapped_no_byte (Some d) = refl

pub option_no_byte : {A : Type 0} (f : A → Option Data) (v : Option A) → None ≡ byte_of (option_of f v)
option_no_byte f None = refl
option_no_byte f (Some x) = sym (wrapped_no_byte (f x))

-- a newtype struct under another name
pub newtype_named : (name : List ℕ) (d : Option Data) → bytes_eq name (codes "_ExtStruct") ≡ false → newtype_of name d ≡ wrapped_of d
newtype_named name d e = ap (λ b. cond b None (wrapped_of d)) e

-- and under the name of an extension
pub newtype_refused : (name : List ℕ) (d : Option Data) → bytes_eq name (codes "_ExtStruct") ≡ true → newtype_of name d ≡ None
newtype_refused name d e = ap (λ b. cond b None (wrapped_of d)) e

module _ {W : Type 0} (g : Ghosts W) where
  -- what a value is written as, where it is wrapped
  pub wrapped_writes : {A : Type 0} {m : Bool} {old new : W} {r : Result A _} (s : Settings) (d : Option Data) → WritesTree g m (tree_of s d) old new r
      → WritesTree g m (tree_of s (wrapped_of d)) old new r
  wrapped_writes s d w = as_tree g (wrapped_tree s d) w

  pub newtype_writes : {A : Type 0} {m : Bool} {old new : W} {r : Result A _} (s : Settings) (name : List ℕ) (d : Option Data)
      → bytes_eq name (codes "_ExtStruct") ≡ false → WritesTree g m (tree_of s d) old new r → WritesTree g m (tree_of s (newtype_of name d)) old new r
  newtype_writes s name d e w = as_tree g (ap (tree_of s) (newtype_named name d e) ∙ wrapped_tree s d) w

  pub newtype_refuses : {A : Type 0} (m : Bool) (s : Settings) (name : List ℕ) (d : Option Data) (w : W) (t : Bor (List ℕ)) → IsNoTuple t.now
      → bytes_eq name (codes "_ExtStruct") ≡ true → WritesTree g {A = A} m (tree_of s (newtype_of name d)) w w (Err (InvalidDataModel t))
  unfolding HasTree
  newtype_refuses m s name d w t is e = as_tree g (ap (tree_of s) (newtype_refused name d e))
      (part_nothing g m _ _ w (InvalidDataModel t) (inr is, (λ h. h), refl))

  -- the empty list, of which the head was written
  pub nothing_listed : {A : Type 0} {m : Bool} {old new : W} {r : Result A _} → WritesPart g m (Unit {0}) (head_at false 0) old new r
      → WritesTree g m (Some (list no_items)) old new r
  unfolding HasTree spell head_at fits_head
  nothing_listed w = part_as g (λ t. t) (λ _. (search arith, tt)) (λ _. tt) (λ _. sym (append-nil _)) w
