-- A fault of the source is told by the error of a read.
use Rattle.std.proofs.Common.{◌≡◌, ◌∙◌, refl, ap, subst, ℕ, Bool, true, false, List, Option, Err}
use Rattle.rmp_wire.specs.declared.source.Source.{Ghosts}
use Rattle.rmp_wire.specs.Sources.{AtMostOne}
use Rattle.rmp_decode.specs.Exact.{EndsExactly, TellsFault}
use Rattle.rmp_decode.specs.Law.{ReadsHead}
use Rattle.rmp_decode.specs.State.{faults_of}
use Rattle.rmp_decode.specs.declared.deserializer.Deserializer.{Deserializer}
use Rattle.rmp_decode.specs.declared.error.Error.{Error}
use Rattle.rmp_decode.proofs.Exactness.{none_told}

-- by an error that says why there is no head
ends_tell : (s : Bool) (before after : ℕ) (known : Option (List ℕ)) (e : Error) → EndsExactly s before after known e → TellsFault before after e
unfolding EndsExactly
ends_tell s before after known e r = r.1

-- after a part of a read that had none
pub tells_after : (before mid after : ℕ) (e : Error) → mid ≡ before → TellsFault mid after e → TellsFault before after e
tells_after before mid after e same t = record { counts = subst (λ z. AtMostOne z after) same t.counts; told = λ n. t.told (λ k. n (k ∙ same)) }

module _ {R C : Type 0} (g : Ghosts R) (old new : Deserializer R C) (e : Error) (h : ReadsHead g old new (Err e)) where
  tells_by : (b : Bool) → old.failed ≡ b → TellsFault (faults_of g old) (faults_of g new) e
  tells_by true f = none_told _ _ e (ap (faults_of g) (h.before f).1)
  tells_by false f = ends_tell _ _ _ _ e (h.ends f)

  -- no head could be taken
  pub head_tells : TellsFault (faults_of g old) (faults_of g new) e
  head_tells = tells_by old.failed refl
