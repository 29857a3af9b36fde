use Rattle.std.specs.Prelude.{map, ◌++◌}
use Rattle.rmp_round_trip.proofs.InTurn.{as_many, each_alike, each_read, turns_only, turns_read}
use Rattle.rmp_round_trip.specs.InTurn.{joined}
use Rattle.rmp_round_trip.proofs.turns.values_in_turn.Goals as goal

pub returns-clause-read : goal.returns-clause-read
returns-clause-read g c = λ lent s vs bs x room position fits below w.
    let r = turns_read s room (map (λ v. g.T.Serialize.data_of v s.human) vs) bs x position below w in (
      r.0,
      each_read s (λ v. g.T.Serialize.data_of v s.human) g.T.Serialize.is_value (g.T.Deserialize.reads s.human g.R.ReadSlice.lends)
          (c.values_come_back.ensures.read lent s) vs r.0 fits r.1,
      r.2,
    )

pub returns-clause-only : goal.returns-clause-only
returns-clause-only g c = λ s vs bs x room position fits w ws ms cs y end l q r.
    let many = as_many s (λ v. g.T.Serialize.data_of v s.human) g.T.Serialize.is_value (g.T.Deserialize.reads s.human g.R.ReadSlice.lends) room position
    (joined bs ++ x) ms vs ws cs y end l q r in
    let o = turns_only s room (map (λ v. g.T.Serialize.data_of v s.human) vs) bs x position w ms cs y end many r in (
      each_alike s (λ v. g.T.Serialize.data_of v s.human) g.T.Serialize.is_value (g.T.Deserialize.reads s.human g.R.ReadSlice.lends) g.T.RoundTrip.same
          (c.values_come_back.ensures.only s) vs ws ms fits o.0 q,
      o.1,
      o.2,
      o.3,
    )
