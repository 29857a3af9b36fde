-- What the calls on whole values promise.
use Rattle.std.specs.Prelude.{◌≡◌, ◌≤◌, List, ℕ, length, true, false, Option, Some}
use Rattle.rmp_wire.specs.Msg.{Msg}
use Rattle.rmp_wire.specs.Spelling.{Spells, canon, Fits}
use Rattle.rmp_wire.specs.declared.config.BytesMode.TheVariants.{Normal}
use Rattle.rmp_encode.specs.declared.error.Error.{Error}
use Rattle.rmp_encode.specs.declared.error.Error.TheVariants.{InvalidValueWrite, UnknownLength, InvalidDataModel, DepthLimitExceeded, Syntax, OutOfMemory}
use Rattle.rmp_encode.specs.declared.settings.Settings.{Settings}
use Rattle.rmp_encode.specs.Errors.{IsReason}
use Rattle.rmp_encode.specs.Trees.{HasTree}

-- the settings of `write` and `to_vec`: structs as lists, compact forms, and no list as bytes
abbrev pub default_settings : Settings
default_settings = record { named = false; human = false; bytes = Normal }

-- the default settings, except that structs are maps from field names
abbrev pub named_settings : Settings
named_settings = record { named = true; human = false; bytes = Normal }

-- The tree exists, these bytes are its canonical spelling, every tree that they spell is this one, and no
-- spelling of it is shorter.
pub record IsSpelled (t : Option Msg) (bytes : List ℕ) : Type 0 where
  pub tree : Msg
  pub is : t ≡ Some tree
  pub fits : Fits tree
  pub canonical : bytes ≡ canon tree
  pub spells : Spells bytes tree
  pub only : (m : Msg) → Spells bytes m → m ≡ tree
  pub least : (b : List ℕ) → Spells b tree → length bytes ≤ length b

-- the causes of an error if the sink is a `Vec`, which has no faults
abbrev pub ToVecFails : Option Msg → Error → Type 0
ToVecFails t (InvalidValueWrite e) = ⊥
ToVecFails t UnknownLength = ⊥
ToVecFails t (InvalidDataModel d) = IsReason d.now × ¬ HasTree t
ToVecFails t DepthLimitExceeded = ⊥
ToVecFails t (Syntax d) = ¬ HasTree t
ToVecFails t OutOfMemory = Unit {0}
