use Rattle.std.proofs.Common.{false}
use Rattle.rmp_encode.specs.Markers.{value_of}
use Rattle.rmp_encode.proofs.Promises.{named_last}
use Rattle.rmp_encode.proofs.elements.kinds.OneElements.write_fields.Goals as goal

pub returns : goal.returns
returns g c =
    let w = named_last g.W.Sink g.E1.Serialize.takes_memory (λ _. false) (λ s. g.E1.Serialize.data_of c.args.self.now.first.now s.human)
    (λ s. value_of s (g.E1.Serialize.data_of c.args.self.now.first.now s.human) (g.E1.Serialize.marks c.args.self.now.first.now s)) c.args.names.now _
    c.put_field.result c.requires c.put_field.ensures.parts in
    record { writes = w.takes.writes; keeps = w.takes.keeps; marker = w.order; error = w.takes.error; value = w.takes.value }
