use Rattle.std.proofs.Common.{◌∷◌, []}
use Rattle.std.proofs.lemmas.Result.{err_from_is_err_and}
use Rattle.rmp_encode.specs.Going.{IsWriting}
use Rattle.rmp_encode.specs.Ser.{sink_of, settings_of}
use Rattle.rmp_encode.proofs.Going.{going_more, keeps_then}
use Rattle.rmp_encode.proofs.Parts.{front_or, back_or, part_takes}
use Rattle.rmp_encode.proofs.Refusals.{of_front, on_back}
use Rattle.rmp_encode.proofs.Markers.{pieces_as, pieces_stop, pieces_then}
use Rattle.rmp_encode.specs.Markers.{value_of}
use Rattle.test_wide.proofs.surveys.derived.ThirtyTwoPartsElements.write.Goals as goal

pub returns-in_err-write-clause-writes : goal.returns-in_err-write-clause-writes
returns-in_err-write-clause-writes g c =
    let p = err_from_is_err_and c.from_residual.result c.from_residual.ensures.1 in
    rw (p.1, p.2) (λ old t rest h. part_takes g.W.Sink _
    (front_or g.W.Sink.takes_memory (g.E1.Serialize.takes_memory (settings_of old)
    ∷ (g.E2.Serialize.takes_memory (settings_of old) ∷
    (g.E3.Serialize.takes_memory (settings_of old) ∷ (g.E4.Serialize.takes_memory (settings_of old)
    ∷ (g.E5.Serialize.takes_memory (settings_of old) ∷
    (g.E6.Serialize.takes_memory (settings_of old) ∷ (g.E7.Serialize.takes_memory (settings_of old)
    ∷ (g.E8.Serialize.takes_memory (settings_of old) ∷
    (g.E9.Serialize.takes_memory (settings_of old) ∷ (g.E10.Serialize.takes_memory (settings_of old)
    ∷ (g.E11.Serialize.takes_memory (settings_of old) ∷
    (g.E12.Serialize.takes_memory (settings_of old) ∷ (g.E13.Serialize.takes_memory (settings_of old)
    ∷ (g.E14.Serialize.takes_memory (settings_of old) ∷
    (g.E15.Serialize.takes_memory (settings_of old) ∷ (g.E16.Serialize.takes_memory (settings_of old) ∷ []))))))))))))))))
    (g.E17.Serialize.takes_memory (settings_of old) ∷ (g.E18.Serialize.takes_memory (settings_of old)
    ∷ (g.E19.Serialize.takes_memory (settings_of old) ∷
    (g.E20.Serialize.takes_memory (settings_of old) ∷ (g.E21.Serialize.takes_memory (settings_of old)
    ∷ (g.E22.Serialize.takes_memory (settings_of old) ∷
    (g.E23.Serialize.takes_memory (settings_of old) ∷ (g.E24.Serialize.takes_memory (settings_of old)
    ∷ (g.E25.Serialize.takes_memory (settings_of old) ∷
    (g.E26.Serialize.takes_memory (settings_of old) ∷ (g.E27.Serialize.takes_memory (settings_of old)
    ∷ (g.E28.Serialize.takes_memory (settings_of old) ∷
    (g.E29.Serialize.takes_memory (settings_of old) ∷ (g.E30.Serialize.takes_memory (settings_of old)
    ∷ (g.E31.Serialize.takes_memory (settings_of old) ∷ (g.E32.Serialize.takes_memory (settings_of old) ∷ [])))))))))))))))))
    (c.in_err-write.ensures.writes old t _ h))

pub returns-clause-writes : goal.returns-clause-writes
returns-clause-writes g c = λ old t rest h. going_more g.W.Sink (IsWriting g.W.Sink old t rest c.write-2.new.se) t (sink_of old)
    (sink_of c.write-2.new.se) c.write-2.result (back_or g.W.Sink.takes_memory
    (g.E1.Serialize.takes_memory (settings_of old) ∷ (g.E2.Serialize.takes_memory (settings_of old)
    ∷ (g.E3.Serialize.takes_memory (settings_of old) ∷
    (g.E4.Serialize.takes_memory (settings_of old) ∷ (g.E5.Serialize.takes_memory (settings_of old)
    ∷ (g.E6.Serialize.takes_memory (settings_of old) ∷
    (g.E7.Serialize.takes_memory (settings_of old) ∷ (g.E8.Serialize.takes_memory (settings_of old)
    ∷ (g.E9.Serialize.takes_memory (settings_of old) ∷
    (g.E10.Serialize.takes_memory (settings_of old) ∷ (g.E11.Serialize.takes_memory (settings_of old)
    ∷ (g.E12.Serialize.takes_memory (settings_of old) ∷
    (g.E13.Serialize.takes_memory (settings_of old) ∷ (g.E14.Serialize.takes_memory (settings_of old)
    ∷ (g.E15.Serialize.takes_memory (settings_of old) ∷ (g.E16.Serialize.takes_memory (settings_of old) ∷ []))))))))))))))))
    (g.E17.Serialize.takes_memory (settings_of old) ∷ (g.E18.Serialize.takes_memory (settings_of old)
    ∷ (g.E19.Serialize.takes_memory (settings_of old) ∷
    (g.E20.Serialize.takes_memory (settings_of old) ∷ (g.E21.Serialize.takes_memory (settings_of old)
    ∷ (g.E22.Serialize.takes_memory (settings_of old) ∷
    (g.E23.Serialize.takes_memory (settings_of old) ∷ (g.E24.Serialize.takes_memory (settings_of old)
    ∷ (g.E25.Serialize.takes_memory (settings_of old) ∷
    (g.E26.Serialize.takes_memory (settings_of old) ∷ (g.E27.Serialize.takes_memory (settings_of old)
    ∷ (g.E28.Serialize.takes_memory (settings_of old) ∷
    (g.E29.Serialize.takes_memory (settings_of old) ∷ (g.E30.Serialize.takes_memory (settings_of old)
    ∷ (g.E31.Serialize.takes_memory (settings_of old) ∷ (g.E32.Serialize.takes_memory (settings_of old) ∷ [])))))))))))))))))
    (c.write-2.ensures.writes old t rest (c.in_ok-write.ensures.writes old t _ h))

pub returns-clause-keeps : goal.returns-clause-keeps
returns-clause-keeps g c = keeps_then g.W.Sink c.write.ensures.keeps c.write-2.ensures.keeps

pub returns-in_err-write-clause-marker : goal.returns-in_err-write-clause-marker
returns-in_err-write-clause-marker g c =
    let p = err_from_is_err_and c.from_residual.result c.from_residual.ensures.1 in
    rw (p.1, p.2) ((pieces_stop g.W.Sink (value_of (settings_of c.args.se.now)
    (g.E17.Serialize.data_of c.args.self.now.seventeenth.now (settings_of c.args.se.now).human)
    (g.E17.Serialize.marks c.args.self.now.seventeenth.now (settings_of c.args.se.now))
    ∷ (value_of (settings_of c.args.se.now) (g.E18.Serialize.data_of c.args.self.now.eighteenth.now (settings_of c.args.se.now).human)
    (g.E18.Serialize.marks c.args.self.now.eighteenth.now (settings_of c.args.se.now))
    ∷ (value_of (settings_of c.args.se.now) (g.E19.Serialize.data_of c.args.self.now.nineteenth.now (settings_of c.args.se.now).human)
    (g.E19.Serialize.marks c.args.self.now.nineteenth.now (settings_of c.args.se.now))
    ∷ (value_of (settings_of c.args.se.now) (g.E20.Serialize.data_of c.args.self.now.twentieth.now (settings_of c.args.se.now).human)
    (g.E20.Serialize.marks c.args.self.now.twentieth.now (settings_of c.args.se.now))
    ∷ (value_of (settings_of c.args.se.now) (g.E21.Serialize.data_of c.args.self.now.twenty_first.now (settings_of c.args.se.now).human)
    (g.E21.Serialize.marks c.args.self.now.twenty_first.now (settings_of c.args.se.now))
    ∷ (value_of (settings_of c.args.se.now) (g.E22.Serialize.data_of c.args.self.now.twenty_second.now (settings_of c.args.se.now).human)
    (g.E22.Serialize.marks c.args.self.now.twenty_second.now (settings_of c.args.se.now))
    ∷ (value_of (settings_of c.args.se.now) (g.E23.Serialize.data_of c.args.self.now.twenty_third.now (settings_of c.args.se.now).human)
    (g.E23.Serialize.marks c.args.self.now.twenty_third.now (settings_of c.args.se.now))
    ∷ (value_of (settings_of c.args.se.now) (g.E24.Serialize.data_of c.args.self.now.twenty_fourth.now (settings_of c.args.se.now).human)
    (g.E24.Serialize.marks c.args.self.now.twenty_fourth.now (settings_of c.args.se.now))
    ∷ (value_of (settings_of c.args.se.now) (g.E25.Serialize.data_of c.args.self.now.twenty_fifth.now (settings_of c.args.se.now).human)
    (g.E25.Serialize.marks c.args.self.now.twenty_fifth.now (settings_of c.args.se.now))
    ∷ (value_of (settings_of c.args.se.now) (g.E26.Serialize.data_of c.args.self.now.twenty_sixth.now (settings_of c.args.se.now).human)
    (g.E26.Serialize.marks c.args.self.now.twenty_sixth.now (settings_of c.args.se.now))
    ∷ (value_of (settings_of c.args.se.now) (g.E27.Serialize.data_of c.args.self.now.twenty_seventh.now (settings_of c.args.se.now).human)
    (g.E27.Serialize.marks c.args.self.now.twenty_seventh.now (settings_of c.args.se.now))
    ∷ (value_of (settings_of c.args.se.now) (g.E28.Serialize.data_of c.args.self.now.twenty_eighth.now (settings_of c.args.se.now).human)
    (g.E28.Serialize.marks c.args.self.now.twenty_eighth.now (settings_of c.args.se.now))
    ∷ (value_of (settings_of c.args.se.now) (g.E29.Serialize.data_of c.args.self.now.twenty_ninth.now (settings_of c.args.se.now).human)
    (g.E29.Serialize.marks c.args.self.now.twenty_ninth.now (settings_of c.args.se.now))
    ∷ (value_of (settings_of c.args.se.now) (g.E30.Serialize.data_of c.args.self.now.thirtieth.now (settings_of c.args.se.now).human)
    (g.E30.Serialize.marks c.args.self.now.thirtieth.now (settings_of c.args.se.now))
    ∷ (value_of (settings_of c.args.se.now) (g.E31.Serialize.data_of c.args.self.now.thirty_first.now (settings_of c.args.se.now).human)
    (g.E31.Serialize.marks c.args.self.now.thirty_first.now (settings_of c.args.se.now))
    ∷ (value_of (settings_of c.args.se.now) (g.E32.Serialize.data_of c.args.self.now.thirty_second.now (settings_of c.args.se.now).human)
    (g.E32.Serialize.marks c.args.self.now.thirty_second.now (settings_of c.args.se.now)) ∷ [])))))))))))))))) c.in_err-write.ensures.marker))

pub returns-clause-marker : goal.returns-clause-marker
returns-clause-marker g c = (pieces_then g.W.Sink c.write-2.result c.in_ok-write.ensures.marker
    (pieces_as g.W.Sink (λ s. (value_of s (g.E17.Serialize.data_of c.args.self.now.seventeenth.now s.human)
    (g.E17.Serialize.marks c.args.self.now.seventeenth.now s)
    ∷ (value_of s (g.E18.Serialize.data_of c.args.self.now.eighteenth.now s.human) (g.E18.Serialize.marks c.args.self.now.eighteenth.now s)
    ∷ (value_of s (g.E19.Serialize.data_of c.args.self.now.nineteenth.now s.human) (g.E19.Serialize.marks c.args.self.now.nineteenth.now s)
    ∷ (value_of s (g.E20.Serialize.data_of c.args.self.now.twentieth.now s.human) (g.E20.Serialize.marks c.args.self.now.twentieth.now s)
    ∷ (value_of s (g.E21.Serialize.data_of c.args.self.now.twenty_first.now s.human) (g.E21.Serialize.marks c.args.self.now.twenty_first.now s)
    ∷ (value_of s (g.E22.Serialize.data_of c.args.self.now.twenty_second.now s.human) (g.E22.Serialize.marks c.args.self.now.twenty_second.now s)
    ∷ (value_of s (g.E23.Serialize.data_of c.args.self.now.twenty_third.now s.human) (g.E23.Serialize.marks c.args.self.now.twenty_third.now s)
    ∷ (value_of s (g.E24.Serialize.data_of c.args.self.now.twenty_fourth.now s.human) (g.E24.Serialize.marks c.args.self.now.twenty_fourth.now s)
    ∷ (value_of s (g.E25.Serialize.data_of c.args.self.now.twenty_fifth.now s.human) (g.E25.Serialize.marks c.args.self.now.twenty_fifth.now s)
    ∷ (value_of s (g.E26.Serialize.data_of c.args.self.now.twenty_sixth.now s.human) (g.E26.Serialize.marks c.args.self.now.twenty_sixth.now s)
    ∷ (value_of s (g.E27.Serialize.data_of c.args.self.now.twenty_seventh.now s.human) (g.E27.Serialize.marks c.args.self.now.twenty_seventh.now s)
    ∷ (value_of s (g.E28.Serialize.data_of c.args.self.now.twenty_eighth.now s.human) (g.E28.Serialize.marks c.args.self.now.twenty_eighth.now s)
    ∷ (value_of s (g.E29.Serialize.data_of c.args.self.now.twenty_ninth.now s.human) (g.E29.Serialize.marks c.args.self.now.twenty_ninth.now s)
    ∷ (value_of s (g.E30.Serialize.data_of c.args.self.now.thirtieth.now s.human) (g.E30.Serialize.marks c.args.self.now.thirtieth.now s)
    ∷ (value_of s (g.E31.Serialize.data_of c.args.self.now.thirty_first.now s.human) (g.E31.Serialize.marks c.args.self.now.thirty_first.now s)
    ∷ (value_of s (g.E32.Serialize.data_of c.args.self.now.thirty_second.now s.human) (g.E32.Serialize.marks c.args.self.now.thirty_second.now s)
    ∷ []))))))))))))))))) c.write.ensures.keeps.settings c.write-2.ensures.marker))

pub returns-in_err-write-clause-error : goal.returns-in_err-write-clause-error
returns-in_err-write-clause-error g c =
    let p = err_from_is_err_and c.from_residual.result c.from_residual.ensures.1 in
    rw (p.1, p.2) (of_front ⊥ (g.E1.Serialize.refuses c.args.self.now.first.now
    ∷ (g.E2.Serialize.refuses c.args.self.now.second.now
    ∷ (g.E3.Serialize.refuses c.args.self.now.third.now
    ∷ (g.E4.Serialize.refuses c.args.self.now.fourth.now
    ∷ (g.E5.Serialize.refuses c.args.self.now.fifth.now
    ∷ (g.E6.Serialize.refuses c.args.self.now.sixth.now
    ∷ (g.E7.Serialize.refuses c.args.self.now.seventh.now
    ∷ (g.E8.Serialize.refuses c.args.self.now.eighth.now
    ∷ (g.E9.Serialize.refuses c.args.self.now.ninth.now
    ∷ (g.E10.Serialize.refuses c.args.self.now.tenth.now
    ∷ (g.E11.Serialize.refuses c.args.self.now.eleventh.now
    ∷ (g.E12.Serialize.refuses c.args.self.now.twelfth.now
    ∷ (g.E13.Serialize.refuses c.args.self.now.thirteenth.now
    ∷ (g.E14.Serialize.refuses c.args.self.now.fourteenth.now
    ∷ (g.E15.Serialize.refuses c.args.self.now.fifteenth.now ∷ (g.E16.Serialize.refuses c.args.self.now.sixteenth.now ∷ []))))))))))))))))
    (g.E17.Serialize.refuses c.args.self.now.seventeenth.now
    ∷ (g.E18.Serialize.refuses c.args.self.now.eighteenth.now
    ∷ (g.E19.Serialize.refuses c.args.self.now.nineteenth.now
    ∷ (g.E20.Serialize.refuses c.args.self.now.twentieth.now
    ∷ (g.E21.Serialize.refuses c.args.self.now.twenty_first.now
    ∷ (g.E22.Serialize.refuses c.args.self.now.twenty_second.now
    ∷ (g.E23.Serialize.refuses c.args.self.now.twenty_third.now
    ∷ (g.E24.Serialize.refuses c.args.self.now.twenty_fourth.now
    ∷ (g.E25.Serialize.refuses c.args.self.now.twenty_fifth.now
    ∷ (g.E26.Serialize.refuses c.args.self.now.twenty_sixth.now
    ∷ (g.E27.Serialize.refuses c.args.self.now.twenty_seventh.now
    ∷ (g.E28.Serialize.refuses c.args.self.now.twenty_eighth.now
    ∷ (g.E29.Serialize.refuses c.args.self.now.twenty_ninth.now
    ∷ (g.E30.Serialize.refuses c.args.self.now.thirtieth.now
    ∷ (g.E31.Serialize.refuses c.args.self.now.thirty_first.now ∷ (g.E32.Serialize.refuses c.args.self.now.thirty_second.now ∷ [])))))))))))))))) _
    c.in_err-write.ensures.error)

pub returns-clause-error : goal.returns-clause-error
returns-clause-error g c = on_back ⊥ (g.E1.Serialize.refuses c.args.self.now.first.now
    ∷ (g.E2.Serialize.refuses c.args.self.now.second.now
    ∷ (g.E3.Serialize.refuses c.args.self.now.third.now
    ∷ (g.E4.Serialize.refuses c.args.self.now.fourth.now
    ∷ (g.E5.Serialize.refuses c.args.self.now.fifth.now
    ∷ (g.E6.Serialize.refuses c.args.self.now.sixth.now
    ∷ (g.E7.Serialize.refuses c.args.self.now.seventh.now
    ∷ (g.E8.Serialize.refuses c.args.self.now.eighth.now
    ∷ (g.E9.Serialize.refuses c.args.self.now.ninth.now
    ∷ (g.E10.Serialize.refuses c.args.self.now.tenth.now
    ∷ (g.E11.Serialize.refuses c.args.self.now.eleventh.now
    ∷ (g.E12.Serialize.refuses c.args.self.now.twelfth.now
    ∷ (g.E13.Serialize.refuses c.args.self.now.thirteenth.now
    ∷ (g.E14.Serialize.refuses c.args.self.now.fourteenth.now
    ∷ (g.E15.Serialize.refuses c.args.self.now.fifteenth.now ∷ (g.E16.Serialize.refuses c.args.self.now.sixteenth.now ∷ []))))))))))))))))
    (g.E17.Serialize.refuses c.args.self.now.seventeenth.now
    ∷ (g.E18.Serialize.refuses c.args.self.now.eighteenth.now
    ∷ (g.E19.Serialize.refuses c.args.self.now.nineteenth.now
    ∷ (g.E20.Serialize.refuses c.args.self.now.twentieth.now
    ∷ (g.E21.Serialize.refuses c.args.self.now.twenty_first.now
    ∷ (g.E22.Serialize.refuses c.args.self.now.twenty_second.now
    ∷ (g.E23.Serialize.refuses c.args.self.now.twenty_third.now
    ∷ (g.E24.Serialize.refuses c.args.self.now.twenty_fourth.now
    ∷ (g.E25.Serialize.refuses c.args.self.now.twenty_fifth.now
    ∷ (g.E26.Serialize.refuses c.args.self.now.twenty_sixth.now
    ∷ (g.E27.Serialize.refuses c.args.self.now.twenty_seventh.now
    ∷ (g.E28.Serialize.refuses c.args.self.now.twenty_eighth.now
    ∷ (g.E29.Serialize.refuses c.args.self.now.twenty_ninth.now
    ∷ (g.E30.Serialize.refuses c.args.self.now.thirtieth.now
    ∷ (g.E31.Serialize.refuses c.args.self.now.thirty_first.now ∷ (g.E32.Serialize.refuses c.args.self.now.thirty_second.now ∷ []))))))))))))))))
    c.write-2.result c.write-2.ensures.error
