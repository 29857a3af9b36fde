use Rattle.std.proofs.Common.{arith, rules, ◌+◌, ◌*◌, ◌∷◌, [], ap, ℕ, length, slice_index}
use Rattle.std.proofs.lemmas.List.{length-append}
use Rattle.canon_lines.proofs.DigitPairs.{pair_is, decoded_more, decoded_all}
use Rattle.canon_lines.proofs.digits.decode_pairs.Goals as goal

pub loop-i-preserved : goal.loop-i-preserved
loop-i-preserved c =
    let inv = c.loop-i.invariant in
    let put = c.push_reserved.ensures.items in
    let byte : ℕ = c.value_of-high.result * 16 + c.value_of-low.result in
    record {
      decoded = rw put (decoded_more c.args.digits.now c.loop-i.bytes.items c.loop-i.i byte (omega (arith, c.loop-i-test.true))
          (pair_is (slice_index c.args.digits.now (2 * c.loop-i.i)) (slice_index c.args.digits.now (2 * c.loop-i.i + 1)) c.value_of-high.result
          c.value_of-low.result (2 * c.loop-i.i) (c.value_of-high.ensures.value (search rules)) (c.value_of-low.ensures.value (search rules))) inv.decoded);
      many = omega (arith, ap length put, length-append c.loop-i.bytes.items (byte ∷ []), inv.many);
      room = omega (arith, c.push_reserved.ensures.capacity, inv.room);
    }

pub returns : goal.returns
returns c = record {
  plain = λ _. decoded_all c.args.digits.now c.loop-i.bytes.items c.loop-i.i c.requires.even
      (omega (arith, c.loop-i-test.false, c.requires.even)) c.loop-i.invariant.decoded;
}
