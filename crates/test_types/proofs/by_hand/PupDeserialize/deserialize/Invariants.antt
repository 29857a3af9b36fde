-- The fields so far.
use Rattle.std.proofs.Common.{[], ◌∷◌, List, Option, String, codes}
use Rattle.std.specs.String.{string_bytes}
use Rattle.std.specs.declared.alloc.Global.{Global}
use Rattle.rmp_wire.specs.Msg.{Msg}
use Rattle.rmp_decode.specs.Fields.{Slot, NoField}
use Rattle.rmp_decode.specs.Read.{IsRaw, IsUnsigned}
use Rattle.rmp_decode.proofs.StructRuns.{StructRun}
use Rattle.test_types.specs.declared.structs.Weight.{Weight}
use Rattle.test_types.proofs.by_hand.PupDeserialize.deserialize.Given as goal

-- what was read of the weight, and of the name and the weight
abbrev pub WeightRead : List (Option Msg) → Option Weight → Type 0
WeightRead fs o = Slot (λ m (v : Weight). IsUnsigned 4294967295 m v.grams) (λ gs (u : Unit {0}). NoField gs) fs o tt

abbrev pub PupRead : List (Option Msg) → Option (String Global) × Option Weight → Type 0
PupRead fs s = Slot (λ m v. IsRaw m (string_bytes v)) WeightRead fs s.0 s.1

abbrev pub invariant-loop-fields : goal.invariant-loop-fields
invariant-loop-fields g l = StructRun g.R.Source (codes "name" ∷ (codes "weight" ∷ [])) PupRead l.initial.fields l.fields (l.name, l.weight)

abbrev pub decreases-loop-fields : goal.decreases-loop-fields
decreases-loop-fields g l = l.fields.left
