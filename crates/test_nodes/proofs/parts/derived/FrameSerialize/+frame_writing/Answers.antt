use Rattle.std.proofs.Common.{◌∙◌, refl, sym, arith, rules}
use Rattle.std.proofs.lemmas.Result.{err_from_is_err_and}
use Rattle.rmp_recursive.proofs.Parts.{ok_holds}
use Rattle.rmp_recursive.specs.Parts.{all_by}
use Rattle.rmp_encode.proofs.Going.{unopened}
use Rattle.rmp_encode.proofs.Parts.{rests_at, part_takes}
use Rattle.test_nodes.specs.FrameLevels.{frame_is_own, frame_fits_in}
use Rattle.test_nodes.specs.declared.parts.Frame.{out-Frame}
use Rattle.test_nodes.proofs.parts.derived.FrameSerialize.+frame_writing.Goals as goal

pub returns-in_err-fields-clause-writes : goal.returns-in_err-fields-clause-writes
returns-in_err-fields-clause-writes g t c =
    let p = err_from_is_err_and c.from_residual.result c.from_residual.ensures.1 in
    rw (p.1, p.2, (frame_is_own _) c.args.self.now) (part_takes g.W.Sink _ (λ h. grind rules)
    (unopened g.W.Sink _ _ _ _ c.args.se.now _ _ _ _ c.in_err-fields.was c.serialize_struct.follows.holds-at-none refl))

pub returns-in_err-serialize_field-clause-writes : goal.returns-in_err-serialize_field-clause-writes
returns-in_err-serialize_field-clause-writes g t c =
    let p = err_from_is_err_and c.from_residual-in_err-serialize_field.result c.from_residual-in_err-serialize_field.ensures.1 in
    rw (p.1, p.2, (frame_is_own _) c.args.self.now) (part_takes g.W.Sink _ (λ h. grind rules)
    (rests_at g.W.Sink (grind (arith, sym (c.in_err-serialize_field.ensures.same_reference ∙ c.in_ok-fields.ensures.same_reference)))
    (c.in_err-serialize_field.ensures.writes c.args.se.now _ _ (c.in_ok-fields.ensures.opened _ refl))))

pub returns-in_err-serialize_field-2-clause-writes : goal.returns-in_err-serialize_field-2-clause-writes
returns-in_err-serialize_field-2-clause-writes g t c =
    let p = err_from_is_err_and c.from_residual-in_err-serialize_field-2.result c.from_residual-in_err-serialize_field-2.ensures.1 in
    rw (p.1, p.2, (frame_is_own _) c.args.self.now) (part_takes g.W.Sink _ (λ h. grind rules)
    (rests_at g.W.Sink (grind (
      arith,
      sym (c.in_err-serialize_field-2.ensures.same_reference ∙ c.in_ok-serialize_field.ensures.same_reference
          ∙ c.in_ok-fields.ensures.same_reference),
    ))
    (c.in_err-serialize_field-2.ensures.writes c.args.se.now _ _
    (c.in_ok-serialize_field.ensures.writes c.args.se.now _ _ (c.in_ok-fields.ensures.opened _ refl)))))

pub returns-in_err-serialize_field-3-clause-writes : goal.returns-in_err-serialize_field-3-clause-writes
returns-in_err-serialize_field-3-clause-writes g t c =
    let p = err_from_is_err_and c.from_residual-in_err-serialize_field-3.result c.from_residual-in_err-serialize_field-3.ensures.1 in
    rw (p.1, p.2, (frame_is_own _) c.args.self.now) (part_takes g.W.Sink _ (λ h. grind rules)
    (rests_at g.W.Sink (grind (
      arith,
      sym (c.in_err-serialize_field-3.ensures.same_reference ∙ c.in_ok-serialize_field-2.ensures.same_reference
          ∙ c.in_ok-serialize_field.ensures.same_reference ∙ c.in_ok-fields.ensures.same_reference),
    ))
    (c.in_err-serialize_field-3.ensures.writes c.args.se.now _ _
    (c.in_ok-serialize_field-2.ensures.writes c.args.se.now _ _
    (c.in_ok-serialize_field.ensures.writes c.args.se.now _ _ (c.in_ok-fields.ensures.opened _ refl))))))

pub returns-in_err-serialize_field-4-clause-writes : goal.returns-in_err-serialize_field-4-clause-writes
returns-in_err-serialize_field-4-clause-writes g t c =
    let p = err_from_is_err_and c.from_residual-in_err-serialize_field-4.result c.from_residual-in_err-serialize_field-4.ensures.1 in
    rw (p.1, p.2, (frame_is_own _) c.args.self.now) (part_takes g.W.Sink _ (λ h. grind rules)
    (rests_at g.W.Sink (grind (
      arith,
      sym (c.in_err-serialize_field-4.ensures.same_reference ∙ c.in_ok-serialize_field-3.ensures.same_reference
          ∙ c.in_ok-serialize_field-2.ensures.same_reference ∙ c.in_ok-serialize_field.ensures.same_reference ∙ c.in_ok-fields.ensures.same_reference),
    ))
    (c.in_err-serialize_field-4.ensures.writes c.args.se.now _ _
    (c.in_ok-serialize_field-3.ensures.writes c.args.se.now _ _
    (c.in_ok-serialize_field-2.ensures.writes c.args.se.now _ _
    (c.in_ok-serialize_field.ensures.writes c.args.se.now _ _ (c.in_ok-fields.ensures.opened _ refl)))))))

pub returns-in_err-serialize_field-5-clause-writes : goal.returns-in_err-serialize_field-5-clause-writes
returns-in_err-serialize_field-5-clause-writes g t c =
    let p = err_from_is_err_and c.from_residual-in_err-serialize_field-5.result c.from_residual-in_err-serialize_field-5.ensures.1 in
    rw (p.1, p.2, (frame_is_own _) c.args.self.now) (part_takes g.W.Sink _ (λ h. grind rules)
    (rests_at g.W.Sink (grind (
      arith,
      sym (c.in_err-serialize_field-5.ensures.same_reference ∙ c.in_ok-serialize_field-4.ensures.same_reference
          ∙ c.in_ok-serialize_field-3.ensures.same_reference ∙ c.in_ok-serialize_field-2.ensures.same_reference
          ∙ c.in_ok-serialize_field.ensures.same_reference ∙ c.in_ok-fields.ensures.same_reference),
    ))
    (c.in_err-serialize_field-5.ensures.writes c.args.se.now _ _
    (c.in_ok-serialize_field-4.ensures.writes c.args.se.now _ _
    (c.in_ok-serialize_field-3.ensures.writes c.args.se.now _ _
    (c.in_ok-serialize_field-2.ensures.writes c.args.se.now _ _
    (c.in_ok-serialize_field.ensures.writes c.args.se.now _ _ (c.in_ok-fields.ensures.opened _ refl))))))))

pub returns-in_err-serialize_field-6-clause-writes : goal.returns-in_err-serialize_field-6-clause-writes
returns-in_err-serialize_field-6-clause-writes g t c =
    let p = err_from_is_err_and c.from_residual-in_err-serialize_field-6.result c.from_residual-in_err-serialize_field-6.ensures.1 in
    rw (p.1, p.2, (frame_is_own _) c.args.self.now) (part_takes g.W.Sink _ (λ h. grind rules)
    (rests_at g.W.Sink (grind (
      arith,
      sym (c.in_err-serialize_field-6.ensures.same_reference ∙ c.in_ok-serialize_field-5.ensures.same_reference
          ∙ c.in_ok-serialize_field-4.ensures.same_reference ∙ c.in_ok-serialize_field-3.ensures.same_reference
          ∙ c.in_ok-serialize_field-2.ensures.same_reference ∙ c.in_ok-serialize_field.ensures.same_reference ∙ c.in_ok-fields.ensures.same_reference),
    ))
    (c.in_err-serialize_field-6.ensures.writes c.args.se.now _ _
    (c.in_ok-serialize_field-5.ensures.writes c.args.se.now _ _
    (c.in_ok-serialize_field-4.ensures.writes c.args.se.now _ _
    (c.in_ok-serialize_field-3.ensures.writes c.args.se.now _ _
    (c.in_ok-serialize_field-2.ensures.writes c.args.se.now _ _
    (c.in_ok-serialize_field.ensures.writes c.args.se.now _ _ (c.in_ok-fields.ensures.opened _ refl)))))))))

pub returns-clause-writes : goal.returns-clause-writes
returns-clause-writes g t c =
    rw ((frame_is_own _) c.args.self.now) (part_takes g.W.Sink _ (λ h. grind rules)
    (rests_at g.W.Sink (grind (
      arith,
      sym (c.in_ok-serialize_field-6.ensures.same_reference ∙ c.in_ok-serialize_field-5.ensures.same_reference
          ∙ c.in_ok-serialize_field-4.ensures.same_reference ∙ c.in_ok-serialize_field-3.ensures.same_reference
          ∙ c.in_ok-serialize_field-2.ensures.same_reference ∙ c.in_ok-serialize_field.ensures.same_reference ∙ c.in_ok-fields.ensures.same_reference),
    ))
    (c.end.ensures.writes c.args.se.now _ (c.in_ok-serialize_field-6.ensures.writes c.args.se.now _ _
    (c.in_ok-serialize_field-5.ensures.writes c.args.se.now _ _
    (c.in_ok-serialize_field-4.ensures.writes c.args.se.now _ _
    (c.in_ok-serialize_field-3.ensures.writes c.args.se.now _ _
    (c.in_ok-serialize_field-2.ensures.writes c.args.se.now _ _
    (c.in_ok-serialize_field.ensures.writes c.args.se.now _ _ (c.in_ok-fields.ensures.opened _ refl))))))))))

pub returns-clause-value : goal.returns-clause-value
returns-clause-value g t c = ok_holds c.end.result _
    ((frame_fits_in _) c.args.self.now _ refl (
      c.in_ok-serialize_field.ensures.value,
      c.in_ok-serialize_field-2.ensures.value,
      c.in_ok-serialize_field-3.ensures.value,
      c.in_ok-serialize_field-4.ensures.value,
      c.in_ok-serialize_field-5.ensures.value,
      (all_by _ (out-Frame c.args.self.now).frames.items c.in_ok-serialize_field-6.ensures.value),
    ))
