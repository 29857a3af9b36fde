-- Fields that have a default.
use Rattle.std.specs.Prelude.{Option, None, Some}

-- the field is there, and its value is read so
abbrev pub IsGiven : {V : Type 0} → (V → Type 0) → Option V → Type 0
IsGiven reads None = ⊥
IsGiven reads (Some v) = reads v
