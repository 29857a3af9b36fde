use Rattle.std.proofs.Common.{rules, refl}
use Rattle.std.proofs.lemmas.Result.{err_from_is_err_and}
use Rattle.rmp_encode.proofs.Going.{unopened}
use Rattle.rmp_encode.proofs.Parts.{rests_at}
use Rattle.test_types.proofs.own_type.point.PointSerialize.serialize.Goals as goal

pub returns-in_err-parts-clause-writes : goal.returns-in_err-parts-clause-writes
returns-in_err-parts-clause-writes g c =
    let p = err_from_is_err_and c.from_residual.result c.from_residual.ensures.1 in
    rw (p.1, p.2) (unopened g.W.Sink _ _ _ _ c.args.se.now _ _ _ _ c.in_err-parts.was c.serialize_tuple_struct.follows.holds-at-none refl)

pub returns-in_err-serialize_element-clause-writes : goal.returns-in_err-serialize_element-clause-writes
returns-in_err-serialize_element-clause-writes g c =
    let p = err_from_is_err_and c.from_residual-in_err-serialize_element.result c.from_residual-in_err-serialize_element.ensures.1 in
    rw (p.1, p.2) (rests_at g.W.Sink (search rules) (c.in_err-serialize_element.ensures.writes c.args.se.now _ _ (c.in_ok-parts.ensures.opened _ refl)))

pub returns-in_err-serialize_element-2-clause-writes : goal.returns-in_err-serialize_element-2-clause-writes
returns-in_err-serialize_element-2-clause-writes g c =
    let p = err_from_is_err_and c.from_residual-in_err-serialize_element-2.result c.from_residual-in_err-serialize_element-2.ensures.1 in
    rw (p.1, p.2) (rests_at g.W.Sink (search rules) (c.in_err-serialize_element-2.ensures.writes c.args.se.now _ _
    (c.in_ok-serialize_element.ensures.writes _ _ _ (c.in_ok-parts.ensures.opened _ refl))))

pub returns-clause-writes : goal.returns-clause-writes
returns-clause-writes g c =
    rests_at g.W.Sink (search rules) (c.end.ensures.writes c.args.se.now _
    (c.in_ok-serialize_element-2.ensures.writes _ _ _ (c.in_ok-serialize_element.ensures.writes _ _ _ (c.in_ok-parts.ensures.opened _ refl))))
