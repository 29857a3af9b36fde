use Rattle.std.proofs.Common.{arith, refl, inl, inr}
use Rattle.rmp_decode.proofs.Leaves.{nil_leaf, leaf_read}
use Rattle.rmp_decode.proofs.Units.{NothingIs, empty_read}
use Rattle.rmp_decode.proofs.deserializer.Deserializer.deserialize_unit_struct.Goals as goal

pub returns-in-Some-clause-law : goal.returns-in-Some-clause-law
returns-in-Some-clause-law g c =
    let deep = c.in-Some.ensures.deep in
    empty_read g.R.Source _ _ (_, _) c.in-Some.ensures.taken.begun NothingIs _ 0 tt refl refl (omega (arith, deep)) refl (inr refl)

pub returns-in-Some-take-clause-law : goal.returns-in-Some-take-clause-law
returns-in-Some-take-clause-law g c =
    rw c.in_default.ensures.kept at (leaf_read nil_leaf g.R.Source NothingIs _ _ (_, _) c.in-Some-take.ensures.taken.begun _ tt tt refl refl (inl refl))
