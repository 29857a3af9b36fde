use Rattle.rmp_encode.proofs.Alike.{lists_same, maps_same}
use Rattle.rmp_encode.proofs.laws.known_and_unknown_lengths.Goals as goal

pub returns-clause-lists : goal.returns-clause-lists
returns-clause-lists g c = lists_same g.W.Sink

pub returns-clause-maps : goal.returns-clause-maps
returns-clause-maps g c = maps_same g.W.Sink
