-- What a line prints for a message, and for a refusal.
use Rattle.std.specs.Prelude.{ℕ, List, ◌++◌, codes}
use Rattle.std.specs.Fmt.{decimal}
use Rattle.hex.specs.Hex.{encode_lower}
use Rattle.rmp_wire.specs.Spelling.{canon}
use Rattle.rmp_serde.specs.Msg.{Msg}
use Rattle.rmp_decode.specs.declared.error.Error.{Error}
use Rattle.rmp_decode.specs.declared.error.Error.TheVariants.{
  InvalidMarkerRead,
  InvalidDataRead,
  TypeMismatch,
  OutOfRange,
  LengthMismatch,
  Uncategorized,
  Syntax,
  Utf8Error,
  DepthLimitExceeded,
  OutOfMemory,
  NotCanonical,
}
use Rattle.rmp_serde.specs.TreeText.{tree_text}

-- a message's tree, and its canonical spelling in hex
abbrev pub message_text : Msg → List ℕ
message_text m = tree_text m ++ codes " " ++ encode_lower (canon m)

-- the name of an error's variant
abbrev pub error_name : Error → List ℕ
error_name (InvalidMarkerRead fault) = codes "InvalidMarkerRead"
error_name (InvalidDataRead fault) = codes "InvalidDataRead"
error_name (TypeMismatch marker) = codes "TypeMismatch"
error_name OutOfRange = codes "OutOfRange"
error_name (LengthMismatch n) = codes "LengthMismatch"
error_name (Uncategorized text) = codes "Uncategorized"
error_name (Syntax text) = codes "Syntax"
error_name (Utf8Error e) = codes "Utf8Error"
error_name DepthLimitExceeded = codes "DepthLimitExceeded"
error_name OutOfMemory = codes "OutOfMemory"
error_name NotCanonical = codes "NotCanonical"

-- a message that is refused, at an offset of the line's bytes
abbrev pub refused_text : ℕ → Error → List ℕ
refused_text at e = codes "refused at " ++ decimal at ++ codes ": " ++ error_name e

-- a line that isn't hex
abbrev pub no_hex_text : List ℕ
no_hex_text = codes "refused: hex"

-- a message that is spelled canonically, of this many bytes
abbrev pub canonical_text : ℕ → List ℕ
canonical_text n = codes "canonical " ++ decimal n

-- a head that isn't canonical, at an offset of the line's bytes
abbrev pub fault_text : ℕ → List ℕ
fault_text at = codes "fault at " ++ decimal at
