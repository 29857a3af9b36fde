-- The line that an explained refusal prints.
use Rattle.std.specs.Prelude.{ℕ, ◌==◌, Bool, true, false, List, [], ◌∷◌, ◌++◌, Option, None, Some, codes, decimal, if◌then◌else◌}
use Rattle.std.specs.Fmt.{signed_decimal, ◌++?◌}
use Rattle.std.specs.declared.io.ErrorKind.{ErrorKind}
use Rattle.std.specs.declared.io.ErrorKind.TheVariants.{UnexpectedEof}
use Rattle.rmp_wire.specs.Faults.{fault_kind}
use Rattle.rmp_wire.specs.declared.head.Head.{Head}
use Rattle.rmp_wire.specs.declared.head.Head.TheVariants as heads
use Rattle.rmp_decode.specs.Words.{words}
use Rattle.rmp_decode.specs.declared.error.Error.{Error}
use Rattle.rmp_decode.specs.declared.error.Error.TheVariants as errors
use Rattle.rmp_decode.specs.declared.text.Text.TheVariants.{MissingField, DuplicateField, InvalidLength}
use Rattle.rmp_serde.specs.Explaining.{error_in, head_in, name_in, path_in, position_in}
use Rattle.rmp_serde.specs.Paths.{path_text, place_of, steps_of}
use Rattle.rmp_serde.specs.Quoted.{quoted}
use Rattle.rmp_serde.specs.declared.path.Path.{Path}
use Rattle.rmp_serde.specs.declared.path.Step.{Step}
use Rattle.rmp_serde.specs.declared.refusal.Explained.{Explained}

-- the end of the input, in words; the words of other faults are not said
abbrev pub fault_text : ErrorKind → Option (List ℕ)
fault_text UnexpectedEof = Some (codes "unexpected end of file")
fault_text kind = None

-- The error's own text. What it says of a marker, and of bytes that are not UTF-8, is not said.
abbrev pub error_text : Error → Option (List ℕ)
error_text (errors.InvalidMarkerRead fault) = Some (codes "IO error while reading marker: ") ++? fault_text (fault_kind fault)
error_text (errors.InvalidDataRead fault) = Some (codes "IO error while reading data: ") ++? fault_text (fault_kind fault)
error_text (errors.TypeMismatch m) = None
error_text errors.OutOfRange = Some (codes "numeric cast found out of range")
error_text (errors.LengthMismatch n) = Some (codes "array had incorrect length, expected " ++ decimal n)
error_text (errors.Uncategorized text) = Some (codes "uncategorized error: " ++ words text)
error_text (errors.Syntax text) = Some (words text)
error_text (errors.Utf8Error e) = None
error_text errors.DepthLimitExceeded = Some (codes "depth limit exceeded")
error_text errors.OutOfMemory = Some (codes "out of memory")
error_text errors.NotCanonical = Some (codes "not canonical")

-- the name that the error is about
abbrev pub name_text : Option (List ℕ) → List ℕ
name_text (Some name) = codes " " ++ quoted name
name_text None = []

-- a list or a map is refused for its parts, all of which are well by themselves
abbrev pub is_for_parts : Error → Bool
is_for_parts (errors.LengthMismatch n) = true
is_for_parts (errors.Syntax (MissingField name)) = true
is_for_parts (errors.Syntax DuplicateField) = true
is_for_parts (errors.Syntax InvalidLength) = true
is_for_parts e = false

-- a number, and what it counts
abbrev pub count_text : ℕ → List ℕ → List ℕ
count_text n what = decimal n ++ codes " " ++ what ++ (if n == 1 then [] else codes "s")

-- what begins with a head, in words
abbrev pub head_words : Head → List ℕ
head_words heads.Nil = codes "nil"
head_words (heads.Truth true) = codes "true"
head_words (heads.Truth false) = codes "false"
head_words (heads.Whole z) = codes "the integer " ++ signed_decimal z
head_words (heads.F32Bits n) = codes "a float of 32 bits"
head_words (heads.F64Bits n) = codes "a float of 64 bits"
head_words (heads.Text n) = codes "a text of " ++ count_text n (codes "byte")
head_words (heads.Bin n) = codes "bytes, " ++ count_text n (codes "byte")
head_words (heads.Array n) = codes "a list of " ++ count_text n (codes "element")
head_words (heads.Map n) = codes "a map of " ++ count_text n (codes "pair")
head_words (heads.Ext n tag) = codes "an extension of type " ++ signed_decimal tag ++ codes ", " ++ count_text n (codes "byte")

-- the path, unless the message itself is refused
abbrev pub path_words : List ℕ → Path → List Step → List ℕ
path_words word p [] = []
path_words word p (s ∷ ss) = word ++ path_text p

abbrev pub byte_text : ℕ → List ℕ
byte_text n = codes " (byte " ++ decimal n ++ codes ")"

-- what is there, if a whole head is
abbrev pub there_text : Option Head → List ℕ
there_text (Some h) = codes ": " ++ head_words h
there_text None = []

-- The part: refused for its parts, the path and how far the reader came; otherwise the path, where the part begins, and what is there.
abbrev pub part_text : Bool → ℕ → Option Head → Path → List ℕ
part_text true position h p = path_words (codes " in ") p (steps_of p) ++ byte_text position
part_text false position h p = path_words (codes " at ") p (steps_of p) ++ byte_text (place_of p) ++ there_text h

-- the same, if the path is there
abbrev pub place_text : Explained → Option Path → List ℕ
place_text e (Some p) = part_text (is_for_parts (error_in e)) (position_in e) (head_in e) p
place_text e None = []

-- the line: the error, the name that it is about, and the part
abbrev pub explained_text : Explained → Option (List ℕ)
explained_text e = error_text (error_in e) ++? Some (name_text (name_in e) ++ place_text e (path_in e))
