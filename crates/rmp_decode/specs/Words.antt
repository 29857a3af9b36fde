-- The words of a refusal.
use Rattle.std.specs.Prelude.{ℕ, List, Option, None, Some, codes, take}
use Rattle.std.specs.Str.Lossy.{utf8_valid_len}
use Rattle.rmp_decode.specs.declared.error.Error.{Error}
use Rattle.rmp_decode.specs.declared.error.Error.TheVariants.{Syntax}
use Rattle.rmp_decode.specs.declared.text.OwnText.{OwnText}
use Rattle.rmp_decode.specs.declared.text.Text.{Text}
use Rattle.rmp_decode.specs.declared.text.Text.TheVariants.{FailedBefore, InvalidType, InvalidValue, InvalidLength, UnknownVariant, DuplicateField}
use Rattle.rmp_decode.specs.declared.text.Text.TheVariants.{MissingField, ReadByExt, Own}

-- the longest beginning of the bytes that is UTF-8
abbrev pub own_words : OwnText → List ℕ
own_words own = take (utf8_valid_len own.bytes) own.bytes

-- as much of a text as fits: its longest beginning of at most 30 bytes that is UTF-8
abbrev pub fitting : List ℕ → List ℕ
fitting s = take (utf8_valid_len (take 30 s)) (take 30 s)

-- `text.as_str()`
abbrev pub words : Text → List ℕ
words FailedBefore = codes "failed before"
words InvalidType = codes "invalid type"
words InvalidValue = codes "invalid value"
words InvalidLength = codes "invalid length"
words UnknownVariant = codes "unknown variant"
words DuplicateField = codes "duplicate field"
words (MissingField name) = codes "missing field"
words ReadByExt = codes "extensions are read by deserialize_ext"
words (Own own) = own_words own

-- `error.field()`: the name of the field that is missing, or as much of it as fits; none of another error
abbrev pub field_of : Error → Option (List ℕ)
field_of (Syntax (MissingField name)) = Some (own_words name)
field_of e = None
