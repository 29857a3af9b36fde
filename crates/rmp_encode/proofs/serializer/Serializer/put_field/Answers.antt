use Rattle.std.proofs.Common.{◌∷◌, []}
use Rattle.std.proofs.lemmas.Result.{err_from_is_err_and}
use Rattle.rmp_encode.proofs.Promises.{value_written, written_as, written_stop, written_then}
use Rattle.rmp_encode.proofs.Parts.{or_right}
use Rattle.rmp_encode.specs.Markers.{value_of}
use Rattle.rmp_encode.proofs.serializer.Serializer.put_field.Goals as goal

pub returns-in_err-put_name-clause-parts : goal.returns-in_err-put_name-clause-parts
returns-in_err-put_name-clause-parts g c =
    let p = err_from_is_err_and c.from_residual.result c.from_residual.ensures.1 in
    rw (p.1, p.2) (written_as g.W.Sink (λ s h. h) (λ l. l) (λ v. v.1) (written_stop g.W.Sink (λ s. g.T.Serialize.data_of c.args.value.now s.human ∷ [])
    (λ s. value_of s (g.T.Serialize.data_of c.args.value.now s.human) (g.T.Serialize.marks c.args.value.now s) ∷ [])
    (g.T.Serialize.refuses c.args.value.now ∷ []) (g.T.Serialize.is_value c.args.value.now)
    (written_as g.W.Sink (λ s h. or_right (g.T.Serialize.takes_memory s) g.W.Sink.takes_memory h) (λ l. l) (λ v. v) c.in_err-put_name.ensures.parts)))

pub returns-clause-parts : goal.returns-clause-parts
returns-clause-parts g c = written_as g.W.Sink (λ s h. h) (λ l. l) (λ v. v.1) (written_then g.W.Sink c.serialize.result
    (written_as g.W.Sink (λ s h. or_right (g.T.Serialize.takes_memory s) g.W.Sink.takes_memory h) (λ l. l) (λ v. v) c.in_ok-put_name.ensures.parts)
    (value_written g.W.Sink (λ s. g.T.Serialize.data_of c.args.value.now s.human) (g.T.Serialize.marks c.args.value.now) c.put_name.new.self _
    c.serialize.result c.serialize.ensures.writes c.serialize.ensures.keeps c.serialize.ensures.marker c.serialize.ensures.error c.serialize.ensures.value))
