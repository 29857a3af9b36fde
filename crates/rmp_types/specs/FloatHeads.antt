-- The double of a message that is a head alone.
use Rattle.std.specs.Prelude.{◌≡◌, ℕ}
use Rattle.rmp_wire.specs.declared.head.Head.{Head}
use Rattle.rmp_wire.specs.declared.head.Head.TheVariants.{Whole, F32Bits, F64Bits}
use Rattle.rmp_decode.specs.declared.error.Error.{Error}
use Rattle.rmp_decode.specs.declared.error.Error.TheVariants.{Syntax}
use Rattle.rmp_decode.specs.declared.text.Text.TheVariants.{InvalidType, InvalidValue}
use Rattle.rmp_types.specs.Floats.{IsWhole, Widens}

-- the message of this head is the double of the bits b
abbrev pub IsFloatHead : Head → ℕ → Type 0
IsFloatHead (F64Bits n) b = b ≡ n
IsFloatHead (F32Bits n) b = Widens n b
IsFloatHead (Whole z) b = IsWhole z b
IsFloatHead h b = ⊥

-- it is none, and the error says why
abbrev pub NoFloatHead : Head → Error → Type 0
NoFloatHead (F64Bits n) e = ⊥
NoFloatHead (F32Bits n) e = ⊥
NoFloatHead (Whole z) e = ((b : ℕ) → IsWhole z b → ⊥) × (e ≡ Syntax InvalidValue)
NoFloatHead h e = e ≡ Syntax InvalidType
