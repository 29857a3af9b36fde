-- What the values of a slice are, if the mode asks for bytes.
use Rattle.std.specs.Prelude.{◌≡◌, ℕ, ◌++◌, ◌∷◌, List, map, Option, None}
use Rattle.std.specs.Option.{unwrap_or}
use Rattle.rmp_wire.specs.Spelling.{IsBytes}
use Rattle.rmp_encode.specs.Data.{Data}
use Rattle.rmp_encode.specs.Trees.{a_byte, byte_of}

-- one isn't a byte
pub record OneIsNone (ds : List (Option Data)) : Type 0 where
  pub front : List (Option Data)
  pub d : Option Data
  pub rest : List (Option Data)
  pub split : ds ≡ front ++ d ∷ rest
  pub isnt : byte_of d ≡ None

-- the number of a byte, and 0 for anything else
abbrev pub number_of : Option Data → ℕ
number_of d = unwrap_or (byte_of d) 0

-- they are all bytes
pub record AllBytes (ds : List (Option Data)) : Type 0 where
  pub each : ds ≡ map a_byte (map number_of ds)
  pub small : IsBytes (map number_of ds)
