use Rattle.rmp_encode.specs.Trees.{tree_of}
use Rattle.rmp_round_trip.proofs.RoundLaws.{read_back, read_strictly, read_only, written_once}
use Rattle.rmp_round_trip.proofs.laws.written_is_read.Goals as goal

pub returns-clause-read : goal.returns-clause-read
returns-clause-read g c = λ lent s v b x room h.
    read_back (g.T.Deserialize.reads s.human g.R.ReadSlice.lends) (tree_of s (g.T.Serialize.data_of v s.human)) v b x room
    (c.values_come_back.ensures.read lent s v h)

pub returns-clause-strict : goal.returns-clause-strict
returns-clause-strict g c = λ lent s v b x room h.
    read_strictly (g.T.Deserialize.reads s.human g.R.ReadSlice.lends) (tree_of s (g.T.Serialize.data_of v s.human)) v b x room
    (c.values_come_back.ensures.read lent s v h)

pub returns-clause-one : goal.returns-clause-one
returns-clause-one g c = λ s v. written_once (tree_of s (g.T.Serialize.data_of v s.human))

pub returns-clause-same : goal.returns-clause-same
returns-clause-same g c = λ s v w b x h i d y m p e r.
    read_only (g.T.Deserialize.reads s.human g.R.ReadSlice.lends) g.T.RoundTrip.same (tree_of s (g.T.Serialize.data_of v s.human)) v w b x d y m
    (c.values_come_back.ensures.only s v h) i p e r

pub returns-clause-equal : goal.returns-clause-equal
returns-clause-equal g c = λ s v w b x h i d y m p e r human. c.values_come_back.ensures.alike human v w (
    read_only (g.T.Deserialize.reads s.human g.R.ReadSlice.lends) g.T.RoundTrip.same (tree_of s (g.T.Serialize.data_of v s.human)) v w b x d y m
    (c.values_come_back.ensures.only s v h) i p e r).0
