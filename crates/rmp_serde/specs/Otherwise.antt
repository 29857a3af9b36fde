-- What is written of a value, where it isn't the input.
use Rattle.std.specs.Prelude.{◌≡◌, ◌≢◌, ℕ, zero, suc, ◌<◌, ◌≤◌, Bool, true, false, List, length, take, slice_index, Option}
use Rattle.rmp_wire.specs.Canonical.{IsCanonical}
use Rattle.rmp_wire.specs.Msg.{Msg}
use Rattle.rmp_wire.specs.declared.config.BytesMode.TheVariants.{Normal}
use Rattle.rmp_encode.specs.Calls.{IsSpelled}
use Rattle.rmp_encode.specs.Trees.{HasTree}
use Rattle.rmp_encode.specs.declared.settings.Settings.{Settings}
use Rattle.rmp_decode.specs.Law.{Begins}
use Rattle.rmp_decode.specs.declared.error.Error.TheVariants.{NotCanonical}
use Rattle.rmp_serde.specs.Explaining.{error_in, position_in}
use Rattle.rmp_serde.specs.Refuse.{IsWrittenElse}
use Rattle.rmp_serde.specs.declared.canonical.Structs.{Structs}
use Rattle.rmp_serde.specs.declared.canonical.Structs.TheVariants.{Lists, Maps}
use Rattle.rmp_serde.specs.declared.refusal.Explained.{Explained}

abbrev pub is_named : Structs → Bool
is_named Lists = false
is_named Maps = true

-- the settings of `to_vec`, or those of `to_vec_named`
abbrev pub settings_for : Structs → Settings
settings_for s = record { named = is_named s; human = false; bytes = Normal }

-- both have the same bytes before this place, and another one there, or one of them ends
pub record DifferAt (xs ys : List ℕ) (at : ℕ) : Type 0 where
  pub within : at ≤ length xs
  pub also : at ≤ length ys
  pub same : take at xs ≡ take at ys
  pub other : at < length xs → at < length ys → slice_index xs at ≢ slice_index ys at

-- the position is past the first byte that is otherwise in what is written of the tree, or 0 where nothing is
abbrev pub IsOtherwise : Option Msg → List ℕ → ℕ → Type 0
IsOtherwise t input zero = HasTree t → ⊥
IsOtherwise t input (suc at) = (written : List ℕ) × IsSpelled t written × DifferAt written input at

-- a value was read, but another encoding is written of it, from which the position tells the input, or memory ran out
pub record ReadsOther {V : Type 0} (reads : Msg → V → Type 0) (tree : V → Option Msg) (input : List ℕ) (e : Explained) : Type 0 where
  pub value : V
  pub read : Begins IsCanonical (λ m. reads m value) 1024 input
  pub else : IsWrittenElse (error_in e)
  pub place : error_in e ≡ NotCanonical → IsOtherwise (tree value) input (position_in e)
