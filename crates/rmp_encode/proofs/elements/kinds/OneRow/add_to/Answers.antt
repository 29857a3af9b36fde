use Rattle.std.proofs.Common.{false}
use Rattle.rmp_encode.specs.Trees.{forces_all}
use Rattle.rmp_encode.proofs.Promises.{elements_as, one_element, tuple_first}
use Rattle.rmp_encode.proofs.elements.kinds.OneRow.add_to.Goals as goal

pub returns : goal.returns
returns g c =
    let e = c.serialize_element.ensures in
    elements_as g.W.Sink (λ s. tuple_first (forces_all s.bytes) (g.E1.Serialize.takes_memory s) false g.W.Sink.takes_memory)
    (one_element g.W.Sink g.E1.Serialize.takes_memory (λ s. g.E1.Serialize.data_of c.args.self.now.first.now s.human)
    (g.E1.Serialize.refuses c.args.self.now.first.now) (g.E1.Serialize.is_value c.args.self.now.first.now) e.writes e.keeps e.error e.value e.same_reference e.left e.sound)
