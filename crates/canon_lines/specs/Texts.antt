-- The text of a line that is printed.
use Rattle.std.specs.Prelude.{ℕ, List}
use Rattle.canon_lines.specs.declared.text.Text.{Text}

-- the bytes that the text is held as
abbrev pub text_bytes : Text → List ℕ
text_bytes t = t.bytes.items
