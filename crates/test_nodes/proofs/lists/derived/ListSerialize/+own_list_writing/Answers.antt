use Rattle.std.proofs.Common.{◌∙◌, refl, sym, arith, rules}
use Rattle.std.proofs.lemmas.Result.{err_from_is_err_and}
use Rattle.rmp_recursive.proofs.Parts.{ok_holds}
use Rattle.rmp_recursive.specs.Parts.{all_by}
use Rattle.rmp_encode.proofs.Going.{unopened}
use Rattle.rmp_encode.proofs.Parts.{rests_at, part_takes}
use Rattle.test_nodes.specs.OwnListLevels.{own_list_is_own, own_list_fits_in}
use Rattle.test_nodes.specs.declared.lists.List.{List as OwnList, out-List as out-OwnList}
use Rattle.rmp_recursive.specs.Shapes.{option_known}
use Rattle.std.specs.Prelude.{Vec}
use Rattle.std.specs.declared.alloc.Global.{Global}
use Rattle.test_nodes.proofs.lists.derived.ListSerialize.+own_list_writing.Goals as goal

pub returns-in_err-fields-clause-writes : goal.returns-in_err-fields-clause-writes
returns-in_err-fields-clause-writes g t c =
    let p = err_from_is_err_and c.from_residual.result c.from_residual.ensures.1 in
    rw (p.1, p.2, own_list_is_own c.args.self.now) (part_takes g.W.Sink _ (λ h. grind rules)
    (unopened g.W.Sink _ _ _ _ c.args.se.now _ _ _ _ c.in_err-fields.was c.serialize_struct.follows.holds-at-none refl))

pub returns-in_err-serialize_field-clause-writes : goal.returns-in_err-serialize_field-clause-writes
returns-in_err-serialize_field-clause-writes g t c =
    let p = err_from_is_err_and c.from_residual-in_err-serialize_field.result c.from_residual-in_err-serialize_field.ensures.1 in
    rw (p.1, p.2, own_list_is_own c.args.self.now) (part_takes g.W.Sink _ (λ h. grind rules)
    (rests_at g.W.Sink (grind (arith, sym (c.in_err-serialize_field.ensures.same_reference ∙ c.in_ok-fields.ensures.same_reference)))
    (c.in_err-serialize_field.ensures.writes c.args.se.now _ _ (c.in_ok-fields.ensures.opened _ refl))))

pub returns-in_err-serialize_field-2-clause-writes : goal.returns-in_err-serialize_field-2-clause-writes
returns-in_err-serialize_field-2-clause-writes g t c =
    let p = err_from_is_err_and c.from_residual-in_err-serialize_field-2.result c.from_residual-in_err-serialize_field-2.ensures.1 in
    rw (p.1, p.2, own_list_is_own c.args.self.now) (part_takes g.W.Sink _ (λ h. grind rules)
    (rests_at g.W.Sink (grind (
      arith,
      sym (c.in_err-serialize_field-2.ensures.same_reference ∙ c.in_ok-serialize_field.ensures.same_reference
          ∙ c.in_ok-fields.ensures.same_reference),
    ))
    (c.in_err-serialize_field-2.ensures.writes c.args.se.now _ _
    (c.in_ok-serialize_field.ensures.writes c.args.se.now _ _ (c.in_ok-fields.ensures.opened _ refl)))))

pub returns-in_err-serialize_field-3-clause-writes : goal.returns-in_err-serialize_field-3-clause-writes
returns-in_err-serialize_field-3-clause-writes g t c =
    let p = err_from_is_err_and c.from_residual-in_err-serialize_field-3.result c.from_residual-in_err-serialize_field-3.ensures.1 in
    rw (p.1, p.2, own_list_is_own c.args.self.now) (part_takes g.W.Sink _ (λ h. grind rules)
    (rests_at g.W.Sink (grind (
      arith,
      sym (c.in_err-serialize_field-3.ensures.same_reference ∙ c.in_ok-serialize_field-2.ensures.same_reference
          ∙ c.in_ok-serialize_field.ensures.same_reference ∙ c.in_ok-fields.ensures.same_reference),
    ))
    (c.in_err-serialize_field-3.ensures.writes c.args.se.now _ _
    (c.in_ok-serialize_field-2.ensures.writes c.args.se.now _ _
    (c.in_ok-serialize_field.ensures.writes c.args.se.now _ _ (c.in_ok-fields.ensures.opened _ refl))))))

pub returns-in_err-serialize_field-4-clause-writes : goal.returns-in_err-serialize_field-4-clause-writes
returns-in_err-serialize_field-4-clause-writes g t c =
    let p = err_from_is_err_and c.from_residual-in_err-serialize_field-4.result c.from_residual-in_err-serialize_field-4.ensures.1 in
    rw (p.1, p.2, own_list_is_own c.args.self.now) (part_takes g.W.Sink _ (λ h. grind rules)
    (rests_at g.W.Sink (grind (
      arith,
      sym (c.in_err-serialize_field-4.ensures.same_reference ∙ c.in_ok-serialize_field-3.ensures.same_reference
          ∙ c.in_ok-serialize_field-2.ensures.same_reference ∙ c.in_ok-serialize_field.ensures.same_reference ∙ c.in_ok-fields.ensures.same_reference),
    ))
    (c.in_err-serialize_field-4.ensures.writes c.args.se.now _ _
    (c.in_ok-serialize_field-3.ensures.writes c.args.se.now _ _
    (c.in_ok-serialize_field-2.ensures.writes c.args.se.now _ _
    (c.in_ok-serialize_field.ensures.writes c.args.se.now _ _ (c.in_ok-fields.ensures.opened _ refl)))))))

pub returns-clause-writes : goal.returns-clause-writes
returns-clause-writes g t c =
    rw (own_list_is_own c.args.self.now) (part_takes g.W.Sink _ (λ h. grind rules)
    (rests_at g.W.Sink (grind (
      arith,
      sym (c.in_ok-serialize_field-4.ensures.same_reference ∙ c.in_ok-serialize_field-3.ensures.same_reference
          ∙ c.in_ok-serialize_field-2.ensures.same_reference ∙ c.in_ok-serialize_field.ensures.same_reference ∙ c.in_ok-fields.ensures.same_reference),
    ))
    (c.end.ensures.writes c.args.se.now _ (c.in_ok-serialize_field-4.ensures.writes c.args.se.now _ _
    (c.in_ok-serialize_field-3.ensures.writes c.args.se.now _ _
    (c.in_ok-serialize_field-2.ensures.writes c.args.se.now _ _
    (c.in_ok-serialize_field.ensures.writes c.args.se.now _ _ (c.in_ok-fields.ensures.opened _ refl))))))))

pub returns-clause-value : goal.returns-clause-value
returns-clause-value g t c = ok_holds c.end.result _
    (own_list_fits_in c.args.self.now _ refl (
      c.in_ok-serialize_field.ensures.value,
      c.in_ok-serialize_field-2.ensures.value,
      (option_known _ _ (λ (q : Vec OwnList Global) g. all_by _ q.items g) (out-OwnList c.args.self.now).below c.in_ok-serialize_field-3.ensures.value),
      (all_by _ (out-OwnList c.args.self.now).places.items c.in_ok-serialize_field-4.ensures.value),
    ))
