use Rattle.std.proofs.Common.{arith, refl, length, take, drop, ◌-◌, ◌∷◌, []}
use Rattle.std.proofs.lemmas.Result.{err_from_is_err_and}
use Rattle.rmp_encode.specs.Going.{IsWriting}
use Rattle.rmp_encode.specs.Ser.{sink_of, settings_of}
use Rattle.rmp_encode.proofs.Fields.{named_halves}
use Rattle.rmp_encode.proofs.Going.{going_more, keeps_then}
use Rattle.rmp_encode.proofs.Parts.{front_or, back_or, part_takes}
use Rattle.rmp_encode.proofs.Refusals.{long_rest, long_take, of_front, on_back, on_parts_weaker, parts_weaker}
use Rattle.rmp_encode.specs.Refusals.{lengths, AnyLong}
use Rattle.rmp_encode.proofs.Markers.{pieces_as, pieces_halves, pieces_stop, pieces_then}
use Rattle.rmp_encode.specs.Markers.{pieces_by, value_of}
use Rattle.test_wide.proofs.rows.derived.NinePartsElements.write_fields.Goals as goal

pub returns-in_err-write_fields-clause-writes : goal.returns-in_err-write_fields-clause-writes
returns-in_err-write_fields-clause-writes g c =
    let p = err_from_is_err_and c.from_residual.result c.from_residual.ensures.1 in
    rw (p.1, p.2) (λ old t rest h. part_takes g.W.Sink _
    (front_or g.W.Sink.takes_memory (g.E1.Serialize.takes_memory (settings_of old)
    ∷ (g.E2.Serialize.takes_memory (settings_of old) ∷
    (g.E3.Serialize.takes_memory (settings_of old) ∷ (g.E4.Serialize.takes_memory (settings_of old)
    ∷ (g.E5.Serialize.takes_memory (settings_of old) ∷
    (g.E6.Serialize.takes_memory (settings_of old) ∷ (g.E7.Serialize.takes_memory (settings_of old)
    ∷ (g.E8.Serialize.takes_memory (settings_of old) ∷ [])))))))) (g.E9.Serialize.takes_memory (settings_of old) ∷ []))
    (c.in_err-write_fields.ensures.writes old t _ (named_halves g.W.Sink c.args.names.now 8
    (g.E1.Serialize.data_of c.args.self.now.first.now (settings_of old).human
    ∷ (g.E2.Serialize.data_of c.args.self.now.second.now (settings_of old).human
    ∷ (g.E3.Serialize.data_of c.args.self.now.third.now (settings_of old).human
    ∷ (g.E4.Serialize.data_of c.args.self.now.fourth.now (settings_of old).human
    ∷ (g.E5.Serialize.data_of c.args.self.now.fifth.now (settings_of old).human
    ∷ (g.E6.Serialize.data_of c.args.self.now.sixth.now (settings_of old).human
    ∷ (g.E7.Serialize.data_of c.args.self.now.seventh.now (settings_of old).human
    ∷ (g.E8.Serialize.data_of c.args.self.now.eighth.now (settings_of old).human ∷ []))))))))
    (g.E9.Serialize.data_of c.args.self.now.ninth.now (settings_of old).human ∷ []) rest refl (omega (arith, c.requires)) h)))

pub returns-clause-writes : goal.returns-clause-writes
returns-clause-writes g c = λ old t rest h. going_more g.W.Sink (IsWriting g.W.Sink old t rest c.write_fields-2.new.se) t (sink_of old)
    (sink_of c.write_fields-2.new.se) c.write_fields-2.result
    (back_or g.W.Sink.takes_memory (g.E1.Serialize.takes_memory (settings_of old)
    ∷ (g.E2.Serialize.takes_memory (settings_of old) ∷
    (g.E3.Serialize.takes_memory (settings_of old) ∷ (g.E4.Serialize.takes_memory (settings_of old)
    ∷ (g.E5.Serialize.takes_memory (settings_of old) ∷
    (g.E6.Serialize.takes_memory (settings_of old) ∷ (g.E7.Serialize.takes_memory (settings_of old)
    ∷ (g.E8.Serialize.takes_memory (settings_of old) ∷ [])))))))) (g.E9.Serialize.takes_memory (settings_of old) ∷ []))
    (c.write_fields-2.ensures.writes old t rest (c.in_ok-write_fields.ensures.writes old t _
    (named_halves g.W.Sink c.args.names.now 8 (g.E1.Serialize.data_of c.args.self.now.first.now (settings_of old).human
    ∷ (g.E2.Serialize.data_of c.args.self.now.second.now (settings_of old).human
    ∷ (g.E3.Serialize.data_of c.args.self.now.third.now (settings_of old).human
    ∷ (g.E4.Serialize.data_of c.args.self.now.fourth.now (settings_of old).human
    ∷ (g.E5.Serialize.data_of c.args.self.now.fifth.now (settings_of old).human
    ∷ (g.E6.Serialize.data_of c.args.self.now.sixth.now (settings_of old).human
    ∷ (g.E7.Serialize.data_of c.args.self.now.seventh.now (settings_of old).human
    ∷ (g.E8.Serialize.data_of c.args.self.now.eighth.now (settings_of old).human ∷ []))))))))
    (g.E9.Serialize.data_of c.args.self.now.ninth.now (settings_of old).human ∷ []) rest refl (omega (arith, c.requires)) h)))

pub returns-clause-keeps : goal.returns-clause-keeps
returns-clause-keeps g c = keeps_then g.W.Sink c.write_fields.ensures.keeps c.write_fields-2.ensures.keeps

pub returns-in_err-write_fields-clause-marker : goal.returns-in_err-write_fields-clause-marker
returns-in_err-write_fields-clause-marker g c =
    let p = err_from_is_err_and c.from_residual.result c.from_residual.ensures.1 in
    rw (p.1, p.2) (pieces_halves g.W.Sink (settings_of c.args.se.now).named c.args.names.now 8
    (value_of (settings_of c.args.se.now) (g.E1.Serialize.data_of c.args.self.now.first.now (settings_of c.args.se.now).human)
    (g.E1.Serialize.marks c.args.self.now.first.now (settings_of c.args.se.now))
    ∷ (value_of (settings_of c.args.se.now) (g.E2.Serialize.data_of c.args.self.now.second.now (settings_of c.args.se.now).human)
    (g.E2.Serialize.marks c.args.self.now.second.now (settings_of c.args.se.now))
    ∷ (value_of (settings_of c.args.se.now) (g.E3.Serialize.data_of c.args.self.now.third.now (settings_of c.args.se.now).human)
    (g.E3.Serialize.marks c.args.self.now.third.now (settings_of c.args.se.now))
    ∷ (value_of (settings_of c.args.se.now) (g.E4.Serialize.data_of c.args.self.now.fourth.now (settings_of c.args.se.now).human)
    (g.E4.Serialize.marks c.args.self.now.fourth.now (settings_of c.args.se.now))
    ∷ (value_of (settings_of c.args.se.now) (g.E5.Serialize.data_of c.args.self.now.fifth.now (settings_of c.args.se.now).human)
    (g.E5.Serialize.marks c.args.self.now.fifth.now (settings_of c.args.se.now))
    ∷ (value_of (settings_of c.args.se.now) (g.E6.Serialize.data_of c.args.self.now.sixth.now (settings_of c.args.se.now).human)
    (g.E6.Serialize.marks c.args.self.now.sixth.now (settings_of c.args.se.now))
    ∷ (value_of (settings_of c.args.se.now) (g.E7.Serialize.data_of c.args.self.now.seventh.now (settings_of c.args.se.now).human)
    (g.E7.Serialize.marks c.args.self.now.seventh.now (settings_of c.args.se.now))
    ∷ (value_of (settings_of c.args.se.now) (g.E8.Serialize.data_of c.args.self.now.eighth.now (settings_of c.args.se.now).human)
    (g.E8.Serialize.marks c.args.self.now.eighth.now (settings_of c.args.se.now)) ∷ []))))))))
    (value_of (settings_of c.args.se.now) (g.E9.Serialize.data_of c.args.self.now.ninth.now (settings_of c.args.se.now).human)
    (g.E9.Serialize.marks c.args.self.now.ninth.now (settings_of c.args.se.now)) ∷ []) refl (omega (arith, c.requires))
    (pieces_stop g.W.Sink (pieces_by (settings_of c.args.se.now).named (take (length c.args.names.now - 8) (drop 8 c.args.names.now))
    (value_of (settings_of c.args.se.now) (g.E9.Serialize.data_of c.args.self.now.ninth.now (settings_of c.args.se.now).human)
    (g.E9.Serialize.marks c.args.self.now.ninth.now (settings_of c.args.se.now)) ∷ [])) c.in_err-write_fields.ensures.marker))

pub returns-clause-marker : goal.returns-clause-marker
returns-clause-marker g c = pieces_halves g.W.Sink (settings_of c.args.se.now).named c.args.names.now 8
    (value_of (settings_of c.args.se.now) (g.E1.Serialize.data_of c.args.self.now.first.now (settings_of c.args.se.now).human)
    (g.E1.Serialize.marks c.args.self.now.first.now (settings_of c.args.se.now))
    ∷ (value_of (settings_of c.args.se.now) (g.E2.Serialize.data_of c.args.self.now.second.now (settings_of c.args.se.now).human)
    (g.E2.Serialize.marks c.args.self.now.second.now (settings_of c.args.se.now))
    ∷ (value_of (settings_of c.args.se.now) (g.E3.Serialize.data_of c.args.self.now.third.now (settings_of c.args.se.now).human)
    (g.E3.Serialize.marks c.args.self.now.third.now (settings_of c.args.se.now))
    ∷ (value_of (settings_of c.args.se.now) (g.E4.Serialize.data_of c.args.self.now.fourth.now (settings_of c.args.se.now).human)
    (g.E4.Serialize.marks c.args.self.now.fourth.now (settings_of c.args.se.now))
    ∷ (value_of (settings_of c.args.se.now) (g.E5.Serialize.data_of c.args.self.now.fifth.now (settings_of c.args.se.now).human)
    (g.E5.Serialize.marks c.args.self.now.fifth.now (settings_of c.args.se.now))
    ∷ (value_of (settings_of c.args.se.now) (g.E6.Serialize.data_of c.args.self.now.sixth.now (settings_of c.args.se.now).human)
    (g.E6.Serialize.marks c.args.self.now.sixth.now (settings_of c.args.se.now))
    ∷ (value_of (settings_of c.args.se.now) (g.E7.Serialize.data_of c.args.self.now.seventh.now (settings_of c.args.se.now).human)
    (g.E7.Serialize.marks c.args.self.now.seventh.now (settings_of c.args.se.now))
    ∷ (value_of (settings_of c.args.se.now) (g.E8.Serialize.data_of c.args.self.now.eighth.now (settings_of c.args.se.now).human)
    (g.E8.Serialize.marks c.args.self.now.eighth.now (settings_of c.args.se.now)) ∷ []))))))))
    (value_of (settings_of c.args.se.now) (g.E9.Serialize.data_of c.args.self.now.ninth.now (settings_of c.args.se.now).human)
    (g.E9.Serialize.marks c.args.self.now.ninth.now (settings_of c.args.se.now)) ∷ []) refl (omega (arith, c.requires))
    (pieces_then g.W.Sink c.write_fields-2.result c.in_ok-write_fields.ensures.marker
    (pieces_as g.W.Sink (λ s. pieces_by s.named (take (length c.args.names.now - 8) (drop 8 c.args.names.now))
    (value_of s (g.E9.Serialize.data_of c.args.self.now.ninth.now s.human) (g.E9.Serialize.marks c.args.self.now.ninth.now s) ∷ []))
    c.write_fields.ensures.keeps.settings c.write_fields-2.ensures.marker))

pub returns-in_err-write_fields-clause-error : goal.returns-in_err-write_fields-clause-error
returns-in_err-write_fields-clause-error g c =
    let p = err_from_is_err_and c.from_residual.result c.from_residual.ensures.1 in
    rw (p.1, p.2) (of_front (AnyLong (lengths c.args.names.now))
    (g.E1.Serialize.refuses c.args.self.now.first.now ∷
    (g.E2.Serialize.refuses c.args.self.now.second.now
    ∷ (g.E3.Serialize.refuses c.args.self.now.third.now
    ∷ (g.E4.Serialize.refuses c.args.self.now.fourth.now
    ∷ (g.E5.Serialize.refuses c.args.self.now.fifth.now
    ∷ (g.E6.Serialize.refuses c.args.self.now.sixth.now
    ∷ (g.E7.Serialize.refuses c.args.self.now.seventh.now ∷ (g.E8.Serialize.refuses c.args.self.now.eighth.now ∷ []))))))))
    (g.E9.Serialize.refuses c.args.self.now.ninth.now ∷ []) _
    (parts_weaker (long_take 8 c.args.names.now) (g.E1.Serialize.refuses c.args.self.now.first.now
    ∷ (g.E2.Serialize.refuses c.args.self.now.second.now
    ∷ (g.E3.Serialize.refuses c.args.self.now.third.now
    ∷ (g.E4.Serialize.refuses c.args.self.now.fourth.now
    ∷ (g.E5.Serialize.refuses c.args.self.now.fifth.now
    ∷ (g.E6.Serialize.refuses c.args.self.now.sixth.now
    ∷ (g.E7.Serialize.refuses c.args.self.now.seventh.now ∷ (g.E8.Serialize.refuses c.args.self.now.eighth.now ∷ [])))))))) _
    c.in_err-write_fields.ensures.error))

pub returns-clause-error : goal.returns-clause-error
returns-clause-error g c = on_back (AnyLong (lengths c.args.names.now))
    (g.E1.Serialize.refuses c.args.self.now.first.now ∷
    (g.E2.Serialize.refuses c.args.self.now.second.now
    ∷ (g.E3.Serialize.refuses c.args.self.now.third.now
    ∷ (g.E4.Serialize.refuses c.args.self.now.fourth.now
    ∷ (g.E5.Serialize.refuses c.args.self.now.fifth.now
    ∷ (g.E6.Serialize.refuses c.args.self.now.sixth.now
    ∷ (g.E7.Serialize.refuses c.args.self.now.seventh.now ∷ (g.E8.Serialize.refuses c.args.self.now.eighth.now ∷ []))))))))
    (g.E9.Serialize.refuses c.args.self.now.ninth.now ∷ []) c.write_fields-2.result
    (on_parts_weaker (long_rest 8 _ c.args.names.now) (g.E9.Serialize.refuses c.args.self.now.ninth.now ∷ []) c.write_fields-2.result
    c.write_fields-2.ensures.error)
