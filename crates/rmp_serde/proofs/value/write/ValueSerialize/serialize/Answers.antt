use Rattle.std.proofs.Common.{ap, refl, ◌∙◌, Ok, Err}
use Rattle.std.proofs.lemmas.Result.{err_from_is_err_and}
use Rattle.rmp_encode.proofs.Refusals.{of_wire}
use Rattle.rmp_serde.proofs.FlatParts.{value_told}
use Rattle.rmp_serde.proofs.Lowering.{value_writes}
use Rattle.rmp_serde.proofs.value.write.ValueSerialize.serialize.Goals as goal

pub returns-in_err-write_value-clause-writes : goal.returns-in_err-write_value-clause-writes
returns-in_err-write_value-clause-writes g c =
    let p = err_from_is_err_and c.from_residual.result c.from_residual.ensures.1 in
    value_writes g.W.Sink c.args.se.now.settings c.args.self.now (Err c.in_err-write_value.field-0.0) (p.1 ∙ ap Err p.2)
    (value_told c.self.inside.root c.self.inside.parts c.args.self.now c.self.invariant c.self.view_is).0
    (rw c.get_mut.ensures.value at c.in_err-write_value.ensures.writes)

pub returns-in_err-write_value-clause-error : goal.returns-in_err-write_value-clause-error
returns-in_err-write_value-clause-error g c =
    let p = err_from_is_err_and c.from_residual.result c.from_residual.ensures.1 in
    rw (p.1, p.2) (of_wire c.in_err-write_value.field-0.0)

pub returns-clause-writes : goal.returns-clause-writes
returns-clause-writes g c = value_writes g.W.Sink c.args.se.now.settings c.args.self.now (Ok tt) refl
    (value_told c.self.inside.root c.self.inside.parts c.args.self.now c.self.invariant c.self.view_is).0
    (rw c.get_mut.ensures.value at c.in_ok-write_value.ensures.writes)

pub returns-clause-value : goal.returns-clause-value
returns-clause-value g c = value_told c.self.inside.root c.self.inside.parts c.args.self.now c.self.invariant c.self.view_is
