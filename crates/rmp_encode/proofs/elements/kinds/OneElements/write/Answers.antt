use Rattle.rmp_encode.proofs.Promises.{row_last, value_written}
use Rattle.rmp_encode.proofs.elements.kinds.OneElements.write.Goals as goal

pub returns : goal.returns
returns g c =
    let e = c.serialize.ensures in
    let w = row_last g.W.Sink g.E1.Serialize.takes_memory (λ (l : ⊥). l) (value_written g.W.Sink (λ s. g.E1.Serialize.data_of c.args.self.now.first.now s.human)
    (g.E1.Serialize.marks c.args.self.now.first.now) c.args.se.now c.serialize.new.se c.serialize.result e.writes e.keeps e.marker e.error e.value) in
    record { writes = w.takes.writes; keeps = w.takes.keeps; marker = w.order; error = w.takes.error; value = w.takes.value }
