-- What a head holds, where it is of one kind.
use Rattle.std.specs.Prelude.{ℕ, List, Bool, true, false}
use Rattle.rmp_wire.specs.Msg.{Msg, text, bin}
pub use Rattle.rmp_wire.specs.Kinds.{Finds, raw_head, content_len}
use Rattle.rmp_wire.specs.declared.head.Head.{Head}
use Rattle.rmp_wire.specs.declared.head.Head.TheVariants.{Nil, Truth, Whole, F32Bits, F64Bits, Text, Bin, Array, Map, Ext}
use Rattle.rmp_wire.specs.declared.marker.Marker.{Marker}
use Rattle.rmp_decode.specs.declared.error.Error.{Error}
use Rattle.rmp_decode.specs.declared.error.Error.TheVariants.{Syntax, TypeMismatch}
use Rattle.rmp_decode.specs.declared.text.Text.TheVariants.{InvalidType, InvalidValue}

-- how a message of another kind is refused where a truth, a number or the bits of a float is wanted
abbrev pub other_kind : Marker → Head → Error
other_kind m Nil = Syntax InvalidType
other_kind m (Truth t) = Syntax InvalidType
other_kind m (Whole z) = Syntax InvalidType
other_kind m (F32Bits n) = Syntax InvalidType
other_kind m (F64Bits n) = Syntax InvalidType
other_kind m (Text n) = TypeMismatch m
other_kind m (Bin n) = TypeMismatch m
other_kind m (Array n) = TypeMismatch m
other_kind m (Map n) = TypeMismatch m
other_kind m (Ext n tag) = TypeMismatch m

-- how a message is refused where a number in a range is wanted, by its kind or since it is out of the range
abbrev pub other_number : Marker → Head → Error
other_number m (Whole z) = Syntax InvalidValue
other_number m h = other_kind m h

-- how a message of another kind is refused where nil is wanted
abbrev pub not_nil : Marker → Head → Error
not_nil m h = Syntax InvalidType

-- a text, or bytes
abbrev pub raw_msg : Bool → List ℕ → Msg
raw_msg true s = text s
raw_msg false s = bin s
