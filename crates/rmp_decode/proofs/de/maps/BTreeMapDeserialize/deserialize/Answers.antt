use Rattle.std.proofs.Common.{arith, refl, [], Global}
use Rattle.std.specs.declared.collections.BTreeMap.{BTreeMap}
use Rattle.rmp_decode.specs.Maps.{ReadsEntries}
use Rattle.rmp_decode.proofs.Orders.{entries_none}
use Rattle.rmp_decode.proofs.Units.{empty_map_read}
use Rattle.rmp_decode.proofs.de.maps.BTreeMapDeserialize.deserialize.Goals as goal

pub returns-in-Some-clause-law : goal.returns-in-Some-clause-law
returns-in-Some-clause-law g c =
    let deep = c.in-Some.ensures.deep in
    empty_map_read g.R.Source _ _ (_, _) c.in-Some.ensures.taken.begun (λ m (v : BTreeMap g.row.K.Denot g.row.V.Denot Global). ReadsEntries g.K.Ord.cmp
    (g.K.Deserialize.reads g.C.SerializerConfig.human g.R.ReadSlice.lends)
    (g.V.Deserialize.reads g.C.SerializerConfig.human g.R.ReadSlice.lends) v.entries m) _ _ refl (omega (arith, deep)) refl
    ([], tt, entries_none g.met.K.Ord.total _ c.new.ensures.empty)

pub returns-clause-law : goal.returns-clause-law
returns-clause-law g c = rw c.in_default.ensures.kept at c.read_map.ensures.law
