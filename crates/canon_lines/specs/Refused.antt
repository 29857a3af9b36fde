-- Why a message can't be read, and where.
use Rattle.std.specs.Prelude.{◌≡◌, ◌≢◌, ℕ, ◌<◌, ◌≤◌, List, [], ◌∷◌, ◌++◌, length, drop, codes, IsUtf8, Some, ⊤, flat_map}
use Rattle.std.specs.Fmt.{decimal}
use Rattle.rmp_wire.specs.declared.head.Head.{Head}
use Rattle.rmp_wire.specs.declared.head.Head.TheVariants as head
use Rattle.rmp_wire.specs.Heads.{IsHead}
use Rattle.rmp_wire.specs.Kinds.{parts_head}
use Rattle.rmp_wire.specs.Reading.{NoHead}
use Rattle.rmp_decode.specs.declared.error.Error.{Error}
use Rattle.rmp_decode.specs.declared.error.Error.TheVariants as errors
use Rattle.rmp_path.specs.Places.{Locates}
use Rattle.rmp_path.specs.declared.location.Location.{Location}
use Rattle.rmp_serde.specs.Paths.{IsPathOf, place_of, steps_of, step_text}
use Rattle.rmp_serde.specs.declared.path.Path.{Path}
use Rattle.rmp_serde.specs.declared.path.Step.{Step}
use Rattle.canon_lines.specs.declared.show.refused.Content.{Content}
use Rattle.canon_lines.specs.declared.show.refused.Content.TheVariants as content
use Rattle.canon_lines.specs.declared.show.refused.Why.{Why}
use Rattle.canon_lines.specs.declared.show.refused.Why.TheVariants.{Absent, CutHead, CutContent, Reserved, NotUtf8, TooDeep, Unreadable}
use Rattle.canon_lines.specs.declared.show.refused.Refused.{Refused}

-- a head that content follows, of so many bytes
abbrev pub HasContent : Content → ℕ → Head → Type 0
HasContent content.Text n h = h ≡ head.Text n
HasContent content.Bytes n h = h ≡ head.Bin n
HasContent content.Extension n h = (tag : _) × (h ≡ head.Ext n tag)

-- the head of a text, and bytes after it that aren't UTF-8
pub record IsInvalidText (h : Head) (rest : List ℕ) : Type 0 where
  pub text : List ℕ
  pub more : List ℕ
  pub head : h ≡ head.Text (length text)
  pub split : rest ≡ text ++ more
  pub invalid : IsUtf8 text → ⊥

-- what is said of a part is true of its head and of the bytes after that
abbrev pub IsWhyAfter : Head → List ℕ → Why → Type 0
IsWhyAfter h rest Absent = ⊥
IsWhyAfter h rest CutHead = ⊥
IsWhyAfter h rest Reserved = ⊥
IsWhyAfter h rest (CutContent kind there n) = HasContent kind n h × (there ≡ length rest) × (there < n)
IsWhyAfter h rest NotUtf8 = IsInvalidText h rest
IsWhyAfter h rest TooDeep = (is_map : _) × (n : ℕ) × (h ≡ parts_head is_map n)
IsWhyAfter h rest Unreadable = ⊤

-- the bytes begin with a head, of which this is true
pub record IsWhyOfHead (bytes : List ℕ) (why : Why) : Type 0 where
  pub head : Head
  pub front : List ℕ
  pub rest : List ℕ
  pub split : bytes ≡ front ++ rest
  pub is_head : IsHead head front
  pub why_after : IsWhyAfter head rest why

-- what is said of a part is true of the bytes that begin there
abbrev pub IsWhy : List ℕ → Why → Type 0
IsWhy bytes Absent = bytes ≡ []
IsWhy bytes CutHead = (bytes ≢ []) × NoHead (Some bytes)
IsWhy bytes Reserved = (rest : List ℕ) × (bytes ≡ 0xc1 ∷ rest)
IsWhy bytes why = IsWhyOfHead bytes why

-- the bytes end before the message does
abbrev pub IsEnd : Error → Type 0
IsEnd (errors.InvalidMarkerRead fault) = ⊤
IsEnd (errors.InvalidDataRead fault) = ⊤
IsEnd e = ⊥

-- The path leads to the part that an offset is in: where the bytes end, their end. What is said of the part is true.
pub record RefusesPart (error : Error) (bytes : List ℕ) (path : Path) (why : Why) : Type 0 where
  pub offset : ℕ
  pub found : Location
  pub within : offset ≤ length bytes
  pub at_end : IsEnd error → offset ≡ length bytes
  pub located : Locates bytes offset found
  pub is_path : IsPathOf bytes found path
  pub reason : IsWhy (drop (place_of path) bytes) why

-- ---- the text

abbrev pub content_text : Content → List ℕ
content_text content.Text = codes "the text ends"
content_text content.Bytes = codes "the bytes end"
content_text content.Extension = codes "the extension ends"

abbrev pub why_text : Why → List ℕ
why_text Absent = codes "the input ends"
why_text CutHead = codes "the input ends inside of a head"
why_text (CutContent kind there n) = content_text kind ++ codes " after " ++ decimal there ++ codes " of " ++ decimal n ++ codes " bytes"
why_text Reserved = codes "the byte c1 begins no message"
why_text NotUtf8 = codes "the text isn't UTF-8"
why_text TooDeep = codes "lists and maps nest too deep"
why_text Unreadable = codes "this can't be read"

-- the path, where the part isn't the message itself
abbrev pub place_text : List Step → List ℕ
place_text [] = []
place_text (s ∷ ss) = codes " in " ++ flat_map step_text (s ∷ ss)

abbrev pub refused_message : Refused → List ℕ
refused_message r = codes "message " ++ decimal r.number ++ codes ": refused at byte " ++ decimal r.offset ++ place_text (steps_of r.path)
    ++ codes ": " ++ why_text r.why
