use Rattle.std.proofs.Common.{◌∙◌, refl, sym, arith, rules}
use Rattle.std.proofs.lemmas.Result.{err_from_is_err_and}
use Rattle.rmp_recursive.proofs.Parts.{ok_holds}
use Rattle.rmp_recursive.specs.Parts.{all_by}
use Rattle.rmp_encode.proofs.Going.{unopened}
use Rattle.rmp_encode.proofs.Parts.{rests_at, part_takes}
use Rattle.test_nodes.specs.RoseLevels.{rose_is_own, rose_fits_in}
use Rattle.test_nodes.specs.declared.nodes.Rose.{out-Rose}
use Rattle.test_nodes.proofs.nodes.derived.RoseSerialize.+rose_writing.Goals as goal

pub returns-in_err-fields-clause-writes : goal.returns-in_err-fields-clause-writes
returns-in_err-fields-clause-writes g t c =
    let p = err_from_is_err_and c.from_residual.result c.from_residual.ensures.1 in
    rw (p.1, p.2, rose_is_own c.args.self.now) (part_takes g.W.Sink _ (λ h. grind rules)
    (unopened g.W.Sink _ _ _ _ c.args.se.now _ _ _ _ c.in_err-fields.was c.serialize_struct.follows.holds-at-none refl))

pub returns-in_err-serialize_field-clause-writes : goal.returns-in_err-serialize_field-clause-writes
returns-in_err-serialize_field-clause-writes g t c =
    let p = err_from_is_err_and c.from_residual-in_err-serialize_field.result c.from_residual-in_err-serialize_field.ensures.1 in
    rw (p.1, p.2, rose_is_own c.args.self.now) (part_takes g.W.Sink _ (λ h. grind rules)
    (rests_at g.W.Sink (grind (arith, sym (c.in_err-serialize_field.ensures.same_reference ∙ c.in_ok-fields.ensures.same_reference)))
    (c.in_err-serialize_field.ensures.writes c.args.se.now _ _ (c.in_ok-fields.ensures.opened _ refl))))

pub returns-clause-writes : goal.returns-clause-writes
returns-clause-writes g t c =
    rw (rose_is_own c.args.self.now) (part_takes g.W.Sink _ (λ h. grind rules)
    (rests_at g.W.Sink (grind (arith, sym (c.in_ok-serialize_field.ensures.same_reference ∙ c.in_ok-fields.ensures.same_reference)))
    (c.end.ensures.writes c.args.se.now _ (c.in_ok-serialize_field.ensures.writes c.args.se.now _ _ (c.in_ok-fields.ensures.opened _ refl)))))

pub returns-clause-value : goal.returns-clause-value
returns-clause-value g t c = ok_holds c.end.result _
    (rose_fits_in c.args.self.now _ refl (all_by _ (out-Rose c.args.self.now).kids.items c.in_ok-serialize_field.ensures.value))
