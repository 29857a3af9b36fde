use Rattle.std.proofs.Common.{◌≡◌, refl, ℕ, Bool, false}
use Rattle.rmp_decode.specs.Seq.{IsSeq, seq_head, not_seq}
use Rattle.rmp_decode.specs.declared.deserializer.heads.Levels.TheVariants.{Lists}
use Rattle.rmp_decode.proofs.Opening.{no_seq, opening_fails}
use Rattle.rmp_decode.proofs.deserializer.Deserializer.slow_seq.Goals as goal

pub returns-in-None : goal.returns-in-None
returns-in-None g c = rw c.in_default.ensures.kept at (no_seq g.R.Source _ _ _ (c.in-Ok.field-0-0, c.in-Ok.head) c.in-Ok.ensures.begun c.in-None.ensures refl)

pub returns-in-Err : goal.returns-in-Err
returns-in-Err g c = rw c.in_default.ensures.kept at (opening_fails g.R.Source (λ (p : Bool × ℕ). seq_head p.0 p.1) (λ p. p.0 ≡ false) IsSeq not_seq
    c.take.new.self c.opening.new.self c.in-Err.e Lists c.in-Err.ensures.err (λ m h l. rw l.1 (refl, refl)))
