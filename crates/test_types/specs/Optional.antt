-- What an option of a byte is, as a serializer sees it.
use Rattle.std.specs.Prelude.{ℕ, Option, None, Some}
use Rattle.rmp_encode.specs.Data.{Data, unit, byte, wrapped}

-- none is a unit, and some is what it holds, wrapped
abbrev pub optional : Option ℕ → Data
optional None = unit
optional (Some n) = wrapped (byte n)
