use Rattle.rmp_encode.proofs.Going.{closes}
use Rattle.rmp_encode.proofs.compound.Compound.end.Goals as goal

pub returns-clause-writes : goal.returns-clause-writes
returns-clause-writes g c = λ old t h. closes g.W.Sink _ old t c.args.self.se.now _ h.state
