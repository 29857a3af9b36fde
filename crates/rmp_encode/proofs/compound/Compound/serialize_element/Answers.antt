use Rattle.std.proofs.Common.{rules}
use Rattle.std.specs.Prelude.{◌||◌, Err}
use Rattle.rmp_encode.proofs.Going.{goes}
use Rattle.rmp_encode.proofs.Fields.{element_left}
use Rattle.rmp_encode.proofs.compound.Compound.serialize_element.Goals as goal

pub returns-in-Ok-clause-writes : goal.returns-in-Ok-clause-writes
returns-in-Ok-clause-writes g c = λ old t rest h. record {
  sound = h.sound;
  left_is = element_left _ _ c.args.self.now.left _ _ rest c.requires.kind (search rules) h.left_is;
  state = goes g.W.Sink (λ s. g.T.Serialize.takes_memory s || g.W.Sink.takes_memory) (λ s. g.T.Serialize.data_of c.args.value.now s.human)
      c.args.self.now.se.now _ _ c.serialize.ensures.keeps c.in-Ok.ensures.writes old t rest h.state;
}

pub returns-in-Err-clause-writes : goal.returns-in-Err-clause-writes
returns-in-Err-clause-writes g c = λ old t rest h. goes g.W.Sink (λ s. g.T.Serialize.takes_memory s || g.W.Sink.takes_memory)
    (λ s. g.T.Serialize.data_of c.args.value.now s.human) c.args.self.now.se.now _ (Err c.in-Err.e) c.serialize.ensures.keeps c.in-Err.ensures.writes old t
    rest h.state
