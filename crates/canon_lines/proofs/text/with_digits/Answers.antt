use Rattle.std.proofs.Common.{arith, ◌≡◌, ◌∙◌, ◌++◌, ◌∷◌, ◌+◌, ◌/◌, ◌%◌, [], ℕ, List, ap, sym, length, drop, slice_index, append_assoc, append-nil}
use Rattle.std.proofs.lemmas.List.{drop_all, length-append}
use Rattle.hex.specs.Hex.{encode_lower, lower_digits}
use Rattle.hex.proofs.Pairs.{encode_with-drop}
use Rattle.rmp_serde.proofs.HexText.{digits_none}
use Rattle.canon_lines.proofs.text.with_digits.Goals as goal

pub loop-i-preserved : goal.loop-i-preserved
loop-i-preserved c =
    let xs : List ℕ = c.args.bytes.now in
    let byte : ℕ = slice_index xs c.loop-i.i in
    let high : List ℕ = slice_index lower_digits (byte / 16) ∷ [] in
    let low : List ℕ = slice_index lower_digits (byte % 16) ∷ [] in
    let now : List ℕ = c.loop-i.text.items in
    let rest : List ℕ = encode_lower (drop (c.loop-i.i + 1) xs) in
    let put : c.push_reserved-in-loop-i.new.self.items ≡ (now ++ high) ++ low =
    c.push_reserved-in-loop-i.ensures.items ∙ ap (λ z. z ++ low) c.push_reserved.ensures.items in
    record {
      told = ap (λ z. z ++ rest) put ∙ append_assoc (now ++ high) low rest ∙ append_assoc now high (low ++ rest)
          ∙ ap (λ z. now ++ z) (sym (encode_with-drop lower_digits xs c.loop-i.i c.loop-i-test.true)) ∙ c.loop-i.invariant.told;
      room = omega (
        arith,
        ap length put,
        length-append (now ++ high) low,
        length-append now high,
        c.push_reserved-in-loop-i.ensures.capacity,
        c.push_reserved.ensures.capacity,
        c.loop-i.invariant.room,
        c.loop-i-test.true,
      );
    }

pub returns : goal.returns
returns c =
    let now : List ℕ = c.loop-i.text.items in
    let none : encode_lower (drop c.loop-i.i c.args.bytes.now) ≡ [] =
    ap encode_lower (drop_all c.loop-i.i c.args.bytes.now (omega (arith, c.loop-i-test.false))) ∙ digits_none in
    record { hex = sym (append-nil now) ∙ ap (λ z. now ++ z) (sym none) ∙ c.loop-i.invariant.told }
