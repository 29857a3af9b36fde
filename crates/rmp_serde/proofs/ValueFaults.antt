-- A fault of the source is told by the error of a read of a value.
use Rattle.std.proofs.Common.{◌≡◌, ℕ, Ok, Err}
use Rattle.std.specs.Prelude.{Result, IfErr}
use Rattle.rmp_wire.specs.declared.head.Head.{Head}
use Rattle.rmp_wire.specs.declared.head.Head.TheVariants as head
use Rattle.rmp_wire.specs.declared.source.Source.{Ghosts}
use Rattle.rmp_decode.specs.Exact.{TellsFault, UnlessFault}
use Rattle.rmp_decode.specs.State.{faults_of}
use Rattle.rmp_decode.specs.declared.deserializer.Deserializer.{Deserializer}
use Rattle.rmp_decode.specs.declared.error.Error.{Error}
use Rattle.rmp_serde.specs.ReadParts.{FailsLeaf}

module _ {R C : Type 0} (g : Ghosts R) (old new : Deserializer R C) (e : Error) where
  -- the content of a leaf couldn't be read
  pub leaf_tells : (h : Head) → FailsLeaf g h old new e → TellsFault (faults_of g old) (faults_of g new) e
  leaf_tells head.Nil f = f.fault
  leaf_tells (head.Truth t) f = f.fault
  leaf_tells (head.Whole z) f = f.fault
  leaf_tells (head.F32Bits n) f = f.fault
  leaf_tells (head.F64Bits n) f = f.fault
  leaf_tells (head.Text n) f = f.fault
  leaf_tells (head.Bin n) f = f.fault
  leaf_tells (head.Array n) f = f.fault
  leaf_tells (head.Map n) f = f.fault
  leaf_tells (head.Ext n tag) f = f.fault

-- what a type says of its refusals
pub value_refused : {A : Type 0} (r : Result A Error) (F : Type 0) (before after : ℕ) (P : Error → Type 0) → F → IfErr r (λ e. F → after ≡ before → P e)
    → IfErr r (TellsFault before after) → IfErr r (λ e. UnlessFault before after e (P e))
value_refused (Ok v) F before after P f p t = tt
value_refused (Err e) F before after P f p t = (p f, t)
