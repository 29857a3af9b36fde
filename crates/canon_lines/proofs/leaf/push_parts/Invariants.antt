-- The parts so far were taken, and their text was appended.
use Rattle.canon_lines.specs.Firsts.{TakesParts}
use Rattle.canon_lines.specs.Texts.{text_bytes}
use Rattle.canon_lines.proofs.leaf.push_parts.Given as goal

abbrev pub invariant-loop-part : goal.invariant-loop-part
invariant-loop-part l = TakesParts l.is_map l._part l.separator l.bytes l.left (text_bytes l.initial.text) (text_bytes l.text)
