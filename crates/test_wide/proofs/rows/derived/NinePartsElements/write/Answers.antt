use Rattle.std.proofs.Common.{◌∷◌, []}
use Rattle.std.proofs.lemmas.Result.{err_from_is_err_and}
use Rattle.rmp_encode.specs.Going.{IsWriting}
use Rattle.rmp_encode.specs.Ser.{sink_of, settings_of}
use Rattle.rmp_encode.proofs.Going.{going_more, keeps_then}
use Rattle.rmp_encode.proofs.Parts.{front_or, back_or, part_takes}
use Rattle.rmp_encode.proofs.Refusals.{of_front, on_back}
use Rattle.rmp_encode.proofs.Markers.{pieces_as, pieces_stop, pieces_then}
use Rattle.rmp_encode.specs.Markers.{value_of}
use Rattle.test_wide.proofs.rows.derived.NinePartsElements.write.Goals as goal

pub returns-in_err-write-clause-writes : goal.returns-in_err-write-clause-writes
returns-in_err-write-clause-writes g c =
    let p = err_from_is_err_and c.from_residual.result c.from_residual.ensures.1 in
    rw (p.1, p.2) (λ old t rest h. part_takes g.W.Sink _
    (front_or g.W.Sink.takes_memory (g.E1.Serialize.takes_memory (settings_of old)
    ∷ (g.E2.Serialize.takes_memory (settings_of old) ∷
    (g.E3.Serialize.takes_memory (settings_of old) ∷ (g.E4.Serialize.takes_memory (settings_of old)
    ∷ (g.E5.Serialize.takes_memory (settings_of old) ∷
    (g.E6.Serialize.takes_memory (settings_of old) ∷ (g.E7.Serialize.takes_memory (settings_of old)
    ∷ (g.E8.Serialize.takes_memory (settings_of old) ∷ [])))))))) (g.E9.Serialize.takes_memory (settings_of old) ∷ []))
    (c.in_err-write.ensures.writes old t _ h))

pub returns-clause-writes : goal.returns-clause-writes
returns-clause-writes g c = λ old t rest h. going_more g.W.Sink (IsWriting g.W.Sink old t rest c.write-2.new.se) t (sink_of old)
    (sink_of c.write-2.new.se) c.write-2.result (back_or g.W.Sink.takes_memory
    (g.E1.Serialize.takes_memory (settings_of old) ∷ (g.E2.Serialize.takes_memory (settings_of old)
    ∷ (g.E3.Serialize.takes_memory (settings_of old) ∷
    (g.E4.Serialize.takes_memory (settings_of old) ∷ (g.E5.Serialize.takes_memory (settings_of old)
    ∷ (g.E6.Serialize.takes_memory (settings_of old) ∷
    (g.E7.Serialize.takes_memory (settings_of old) ∷ (g.E8.Serialize.takes_memory (settings_of old) ∷ []))))))))
    (g.E9.Serialize.takes_memory (settings_of old) ∷ []))
    (c.write-2.ensures.writes old t rest (c.in_ok-write.ensures.writes old t _ h))

pub returns-clause-keeps : goal.returns-clause-keeps
returns-clause-keeps g c = keeps_then g.W.Sink c.write.ensures.keeps c.write-2.ensures.keeps

pub returns-in_err-write-clause-marker : goal.returns-in_err-write-clause-marker
returns-in_err-write-clause-marker g c =
    let p = err_from_is_err_and c.from_residual.result c.from_residual.ensures.1 in
    rw (p.1, p.2) ((pieces_stop g.W.Sink (value_of (settings_of c.args.se.now)
    (g.E9.Serialize.data_of c.args.self.now.ninth.now (settings_of c.args.se.now).human)
    (g.E9.Serialize.marks c.args.self.now.ninth.now (settings_of c.args.se.now)) ∷ []) c.in_err-write.ensures.marker))

pub returns-clause-marker : goal.returns-clause-marker
returns-clause-marker g c = (pieces_then g.W.Sink c.write-2.result c.in_ok-write.ensures.marker
    (pieces_as g.W.Sink (λ s. (value_of s (g.E9.Serialize.data_of c.args.self.now.ninth.now s.human) (g.E9.Serialize.marks c.args.self.now.ninth.now s)
    ∷ [])) c.write.ensures.keeps.settings c.write-2.ensures.marker))

pub returns-in_err-write-clause-error : goal.returns-in_err-write-clause-error
returns-in_err-write-clause-error g c =
    let p = err_from_is_err_and c.from_residual.result c.from_residual.ensures.1 in
    rw (p.1, p.2) (of_front ⊥ (g.E1.Serialize.refuses c.args.self.now.first.now
    ∷ (g.E2.Serialize.refuses c.args.self.now.second.now
    ∷ (g.E3.Serialize.refuses c.args.self.now.third.now
    ∷ (g.E4.Serialize.refuses c.args.self.now.fourth.now
    ∷ (g.E5.Serialize.refuses c.args.self.now.fifth.now
    ∷ (g.E6.Serialize.refuses c.args.self.now.sixth.now
    ∷ (g.E7.Serialize.refuses c.args.self.now.seventh.now ∷ (g.E8.Serialize.refuses c.args.self.now.eighth.now ∷ []))))))))
    (g.E9.Serialize.refuses c.args.self.now.ninth.now ∷ []) _ c.in_err-write.ensures.error)

pub returns-clause-error : goal.returns-clause-error
returns-clause-error g c = on_back ⊥ (g.E1.Serialize.refuses c.args.self.now.first.now
    ∷ (g.E2.Serialize.refuses c.args.self.now.second.now
    ∷ (g.E3.Serialize.refuses c.args.self.now.third.now
    ∷ (g.E4.Serialize.refuses c.args.self.now.fourth.now
    ∷ (g.E5.Serialize.refuses c.args.self.now.fifth.now
    ∷ (g.E6.Serialize.refuses c.args.self.now.sixth.now
    ∷ (g.E7.Serialize.refuses c.args.self.now.seventh.now ∷ (g.E8.Serialize.refuses c.args.self.now.eighth.now ∷ []))))))))
    (g.E9.Serialize.refuses c.args.self.now.ninth.now ∷ []) c.write-2.result c.write-2.ensures.error
