-- What a struct's map has for the names that another type wants.
use Rattle.std.specs.Prelude.{◌≡◌, ℕ, true, List, [], ◌∷◌, Option, None, Some, cond, map}
use Rattle.std.specs.Str.{bytes_eq}
use Rattle.rmp_wire.specs.Msg.{Msg}
use Rattle.rmp_encode.specs.Calls.{IsSpelled}
use Rattle.rmp_encode.specs.Data.{Data, Fields, no_fields, field, lower}
use Rattle.rmp_encode.specs.Trees.{structure_of, tree_of}
use Rattle.rmp_encode.specs.declared.settings.Settings.{Settings}
use Rattle.rmp_decode.specs.Names.{distinct}

-- the tree of the field of this name, or none where no field has it
abbrev pub tree_named : Settings → Fields → List ℕ → Option Msg
tree_named s no_fields n = None
tree_named s (field k d x) n = cond (bytes_eq n k) (Some (lower s d)) (tree_named s x n)

-- the tree of the first field of this name, if there is one and it isn't refused
abbrev pub tree_in : Settings → List (List ℕ × Option Data) → List ℕ → Option Msg
tree_in s [] n = None
tree_in s (f ∷ fs) n = cond (bytes_eq n f.0) (tree_of s f.1) (tree_in s fs n)

-- what another version finds: for each name that it wants the tree of that field, and none for a name that isn't there
abbrev pub found : Settings → List (List ℕ × Option Data) → List (List ℕ) → List (Option Msg)
found s fs names = map (tree_in s fs) names

-- a struct of these fields, with distinct names, was written with names as these bytes
pub record IsRecord (s : Settings) (fs : List (List ℕ × Option Data)) (bytes : List ℕ) : Type 0 where
  pub named : s.named ≡ true
  pub differ : distinct (map (λ f. f.0) fs) ≡ true
  pub spelled : IsSpelled (tree_of s (structure_of fs)) bytes
