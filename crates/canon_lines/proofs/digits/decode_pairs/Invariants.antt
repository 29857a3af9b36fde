-- The pairs so far are decoded.
use Rattle.std.proofs.Common.{◌≡◌, ◌≤◌, ◌*◌, length, vec_capacity}
use Rattle.canon_lines.proofs.DigitPairs.{Decoded}
use Rattle.canon_lines.proofs.digits.decode_pairs.Given as goal

abbrev pub invariant-loop-i : goal.invariant-loop-i
invariant-loop-i l = record {
  decoded : Decoded l.digits l.bytes.items l.i;
  many : length l.bytes.items ≡ l.i;
  room : length l.digits ≤ 2 * vec_capacity l.bytes;
}
