-- Each result says what is at the offset that was reached.
use Rattle.std.proofs.Common.{arith, refl, ap, subst, ◌∙◌, Err, ◌<◌, ◌^◌, ◌-◌, length}
use Rattle.std.proofs.lemmas.Result.{err_from_is_err_and}
use Rattle.rmp_serde.specs.Places.{TakesNodes}
use Rattle.rmp_serde.proofs.Checking.{rest_is, wants_all, wants_node, node_some, wants_nodes, nodes_some, answers_whole, answers_fault, answers_error}
use Rattle.rmp_serde.proofs.check.check_canonical.Goals as goal

pub loop-wanted-init : goal.loop-wanted-init
loop-wanted-init c = wants_all c.args.input.now (λ k. omega (arith, c.type_inv.input k))

pub loop-wanted-smaller-then-passed-gt0 : goal.loop-wanted-smaller-then-passed-gt0
loop-wanted-smaller-then-passed-gt0 c =
    let s = c.short_nodes-taken in
    let t = subst (TakesNodes s.result.1 s.result.2 c.loop-wanted.left.now) (rest_is s.result.0 c.loop-wanted.left.now) s.ensures.nodes in
    nodes_some c.args.input.now c.loop-wanted.left.now c.loop-wanted.wanted c.loop-wanted.invariant c.loop-wanted-test.true _ s.result.1 s.result.2 t
    (omega arith) c.if-passed-gt0.true

pub loop-wanted-preserved-then-passed-gt0 : goal.loop-wanted-preserved-then-passed-gt0
loop-wanted-preserved-then-passed-gt0 c =
    let s = c.short_nodes-taken in
    let t = subst (TakesNodes s.result.1 s.result.2 c.loop-wanted.left.now) (rest_is s.result.0 c.loop-wanted.left.now) s.ensures.nodes in
    let fit : length c.args.input.now < 2 ^ 64 = omega arith in
    wants_nodes c.args.input.now c.loop-wanted.left.now c.loop-wanted.wanted c.loop-wanted.invariant c.loop-wanted-test.true _ s.result.1 s.result.2 t
    (omega arith) c.saturating_add-wanted.result c.if-passed-gt0.true fit c.saturating_add-wanted.ensures

pub returns-in_err-parts : goal.returns-in_err-parts
returns-in_err-parts c =
    let p = err_from_is_err_and c.from_residual.result c.from_residual.ensures.1 in
    let a = answers_error c.args.input.now c.loop-wanted.left.now c.loop-wanted.wanted c.loop-wanted.invariant c.loop-wanted-test.true
    c.in_err-parts.field-0.0 c.from_residual.result (p.1 ∙ ap Err p.2) c.in_err-parts.ensures in
    record { whole = a.whole; fault = a.fault; stops = a.stops; memory = a.memory }

pub loop-wanted-smaller : goal.loop-wanted-smaller
loop-wanted-smaller c =
    let t = rw c.in-Some.is at c.in_ok-parts.ensures in
    node_some c.args.input.now c.loop-wanted.left.now c.loop-wanted.wanted c.loop-wanted.invariant c.loop-wanted-test.true c.next_node.new.left.now
    c.in-Some.parts t

pub loop-wanted-preserved : goal.loop-wanted-preserved
loop-wanted-preserved c =
    let t = rw c.in-Some.is at c.in_ok-parts.ensures in
    let fit : length c.args.input.now < 2 ^ 64 = omega arith in
    wants_node c.args.input.now c.loop-wanted.left.now c.loop-wanted.wanted c.loop-wanted.invariant c.loop-wanted-test.true c.next_node.new.left.now
    c.in-Some.parts _ t fit c.saturating_add-wanted-in-Some.ensures

pub returns-in-None : goal.returns-in-None
returns-in-None c =
    let o = rw c.in-None.is at c.in_ok-parts.ensures in
    let a = answers_fault c.args.input.now c.loop-wanted.left.now c.loop-wanted.wanted c.loop-wanted.invariant c.loop-wanted-test.true _ _ refl o.0
    (ap (λ z. length c.args.input.now - length z) o.1) in
    record { whole = a.whole; fault = a.fault; stops = a.stops; memory = a.memory }

pub returns : goal.returns
returns c =
    let a = answers_whole c.args.input.now c.loop-wanted.left.now c.loop-wanted.wanted c.loop-wanted.invariant
    (length c.args.input.now - length c.loop-wanted.left.now) _ refl (omega arith) refl in
    record { whole = a.whole; fault = a.fault; stops = a.stops; memory = a.memory }
