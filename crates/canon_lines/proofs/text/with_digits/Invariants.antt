-- The digits of the bytes so far, and of those that are to come, are those of all.
use Rattle.std.proofs.Common.{◌≡◌, ◌≤◌, ◌+◌, ◌-◌, ◌*◌, ◌++◌, length, drop, vec_capacity}
use Rattle.hex.specs.Hex.{encode_lower}
use Rattle.canon_lines.proofs.text.with_digits.Given as goal

abbrev pub invariant-loop-i : goal.invariant-loop-i
invariant-loop-i l = record {
  told : l.text.items ++ encode_lower (drop l.i l.bytes) ≡ l.initial.text.items ++ encode_lower l.bytes;
  room : length l.text.items + 2 * (length l.bytes - l.i) ≤ vec_capacity l.text;
}
