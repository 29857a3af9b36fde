use Rattle.std.proofs.Common.{arith, refl, sym, ap, subst, take, length, ◌≡◌, ◌∙◌, ◌-◌, ◌++◌, ◌∷◌, ℕ}
use Rattle.hex.specs.Hex.{encode_lower}
use Rattle.rmp_decode.specs.State.{room_of}
use Rattle.rmp_wire.specs.RefReader.{rest_of}
use Rattle.rmp_serde.specs.TreeText.{tree_text}
use Rattle.canon_lines.specs.Firsts.{TellsFirst}
use Rattle.canon_lines.specs.Texts.{text_bytes}
use Rattle.canon_lines.proofs.MessageReads.{first_canonical, slice_source}
use Rattle.canon_lines.proofs.run.Messages.tell_canonical.Goals as goal

pub returns-in_ok-push_hex-in-Ok : goal.returns-in_ok-push_hex-in-Ok
returns-in_ok-push_hex-in-Ok c =
    let from = c.from_read_ref-de.ensures in
    let is = c.set_strict.ensures in
    let bytes = c.args.bytes.now in
    let rest : rest_of c.set_strict.new.self.reader ≡ bytes = ap (λ d. rest_of d.reader) is ∙ from.rest in
    let n : ℕ = length bytes - length c.remaining_slice.result.now in
    record {
      told = λ _. subst (λ xs. TellsFirst n xs (text_bytes c.push_hex.new.self)) rest
          (first_canonical slice_source (record { ahead = λ r. refl; sound = λ r s. refl }) c.set_strict.new.self c.read.new.de (ap (λ d. d.kept) is ∙ from.new.kept)
          (ap room_of is ∙ from.new.room) c.in-Ok.value n _ (ap (λ d. d.strict) is) c.in-Ok.ensures.law.clean c.in-Ok.ensures.law.ok
          (c.in_ok-push_hex-in-Ok.ensures.hex ∙ ap (λ s. s ++ 32 ∷ encode_lower (take n bytes)) c.in_ok-print-in-Ok.ensures.text
          ∙ ap (λ xs. tree_text c.in-Ok.value ++ 32 ∷ encode_lower (take n xs)) (sym rest))
          (omega (arith, ap length rest, ap length c.remaining_slice.ensures)));
    }
