-- One message more of a line, and its text.
use Rattle.std.proofs.Common.{arith, ◌≡◌, ◌∙◌, ℕ, List, ◌++◌, drop, length, refl, sym, ap, subst}
use Rattle.std.specs.Io.KnownBytes.{Appends}
use Rattle.std.proofs.lemmas.List.{length-append, drop_at}
use Rattle.rmp_wire.specs.declared.sink.Sink.{Ghosts}
use Rattle.canon_lines.specs.Firsts.{TellsFirst}
use Rattle.canon_lines.specs.Prints.{line, IsStart, StartsMessages, Puts}
use Rattle.canon_lines.proofs.Checked.{EndsAfter}
use Rattle.canon_lines.proofs.Early.{message_early}
use Rattle.canon_lines.proofs.MessageReads.{shorter}
use Rattle.canon_lines.proofs.Shown.{SoFar, message_more}

pub first_some : (n : ℕ) (xs text : List ℕ) → TellsFirst n xs text → EndsAfter xs n
first_some n xs text t =
    let less = shorter t.message t.front xs t.rest t.spelled t.split in
    let all = ap length t.split ∙ length-append t.front t.rest in
    let long = t.long in
    record { some = omega (arith, less, all, long); within = omega (arith, all, long) }

module _ {W : Type 0} (g : Ghosts W) (n : ℕ) (bytes rest text : List ℕ) (t : TellsFirst n rest text) where
  first_split : (rest' : List ℕ) → rest' ≡ drop n rest → rest ≡ t.front ++ rest'
  first_split rest' e =
      t.split ∙ ap (λ s. t.front ++ s)
      (sym (e ∙ ap (drop n) t.split ∙ ap (λ k. drop k (t.front ++ t.rest)) t.long ∙ drop_at t.front t.rest (length t.front) refl))

  -- its line was printed
  pub first_more : (rest' : List ℕ) {start mid last : W} → rest' ≡ drop n rest → SoFar g bytes rest start mid
      → Appends (g.told mid) (g.told last) (line text) → SoFar g bytes rest' start last
  first_more rest' {mid} {last} e p a = message_more g bytes t.front t.message p (first_split rest' e) t.spelled t.accepted
      (subst (λ s. Appends (g.told mid) (g.told last) (line s)) t.told a)

  -- its line was put in part
  pub first_early : {start mid last : W} → SoFar g bytes rest start mid → Puts g (IsStart (line text)) mid last → Puts g (StartsMessages bytes) start last
  first_early {mid} {last} p q = message_early g bytes rest t.rest t.front t.message p t.split t.spelled t.accepted
      (subst (λ s. Puts g (IsStart (line s)) mid last) t.told q)
