-- Structs without fields, and newtype structs.
use Rattle.std.specs.Prelude.{◌≡◌, ◌⊎◌, ℕ, List, nat_le, cond, codes}
use Rattle.rmp_wire.specs.Msg.{Msg, nil, list, no_items}
use Rattle.rmp_wire.specs.declared.head.Head.{Head}
use Rattle.rmp_wire.specs.declared.head.Head.TheVariants.{Array}
use Rattle.rmp_wire.specs.declared.marker.Marker.{Marker}
use Rattle.rmp_decode.specs.declared.error.Error.{Error}
use Rattle.rmp_decode.specs.declared.error.Error.TheVariants.{DepthLimitExceeded, Syntax}
use Rattle.rmp_decode.specs.declared.text.Text.TheVariants.{InvalidType}

-- nil, or the list without items
abbrev pub IsNothing : Msg → Type 0
IsNothing m = (m ≡ nil) ⊎ (m ≡ list no_items)

-- how another message is refused, by the room: a list where no level is left by that, and else by its kind
abbrev pub not_nothing : ℕ → Marker → Head → Error
not_nothing room m (Array n) = cond (nat_le room 1) DepthLimitExceeded (Syntax InvalidType)
not_nothing room m h = Syntax InvalidType

-- the name that means an extension
abbrev pub IsExtName : List ℕ → Type 0
IsExtName name = name ≡ codes "_ExtStruct"

-- what is read as a newtype struct of this name: what is read as its content, unless the name means an extension
abbrev pub IsNewtype : {V : Type 0} → List ℕ → (Msg → V → Type 0) → Msg → V → Type 0
IsNewtype name reads m v = (IsExtName name → ⊥) × reads m v
