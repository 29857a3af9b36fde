-- Why a line, or a message in it, is refused, as text.
use Rattle.std.specs.Prelude.{ℕ, List}
use Rattle.canon_lines.specs.declared.lines.Refusal.{Refusal}
use Rattle.canon_lines.specs.declared.lines.Refusal.TheVariants.{Hex, Message, Fault}
use Rattle.canon_lines.specs.Messages.{no_hex_text, refused_text, fault_text}

abbrev pub refusal_text : Refusal → List ℕ
refusal_text Hex = no_hex_text
refusal_text (Message at e) = refused_text at e
refusal_text (Fault at) = fault_text at
