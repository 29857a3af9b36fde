use Rattle.std.proofs.lemmas.Result.{err_from_is_err_and}
use Rattle.rmp_encode.specs.Trees.{forces_all}
use Rattle.rmp_encode.proofs.Promises.{elements_as, elements_stop, elements_then, one_element, tuple_first, tuple_others}
use Rattle.rmp_encode.proofs.elements.rows.add_then.Goals as goal

pub returns-in_err-serialize_element : goal.returns-in_err-serialize_element
returns-in_err-serialize_element g c =
    let p = err_from_is_err_and c.from_residual.result c.from_residual.ensures.1 in
    let e = c.in_err-serialize_element.ensures in
    let f = c.serialize_element.ensures in
    rw (p.1, p.2) (elements_stop g.W.Sink (λ s. g.R.Elements.parts_of c.args.rest.now s.human) (g.R.Elements.refusals c.args.rest.now)
    (g.R.Elements.are_values c.args.rest.now) (elements_as g.W.Sink
    (λ s. tuple_first (forces_all s.bytes) (g.E.Serialize.takes_memory s) (g.R.Elements.takes_memory s) g.W.Sink.takes_memory)
    (one_element g.W.Sink g.E.Serialize.takes_memory (λ s. g.E.Serialize.data_of c.args.first.now s.human)
    (g.E.Serialize.refuses c.args.first.now) (g.E.Serialize.is_value c.args.first.now) e.writes f.keeps e.error tt f.same_reference f.left tt)))

pub returns : goal.returns
returns g c =
    let e = c.in_ok-serialize_element.ensures in
    let f = c.serialize_element.ensures in
    elements_then g.W.Sink c.add_to.result (elements_as g.W.Sink
    (λ s. tuple_first (forces_all s.bytes) (g.E.Serialize.takes_memory s) (g.R.Elements.takes_memory s) g.W.Sink.takes_memory)
    (one_element g.W.Sink g.E.Serialize.takes_memory (λ s. g.E.Serialize.data_of c.args.first.now s.human)
    (g.E.Serialize.refuses c.args.first.now) (g.E.Serialize.is_value c.args.first.now) e.writes f.keeps tt e.value f.same_reference f.left e.sound))
    (elements_as g.W.Sink (λ s. tuple_others (forces_all s.bytes) (g.E.Serialize.takes_memory s) (g.R.Elements.takes_memory s) g.W.Sink.takes_memory)
    c.add_to.ensures)
