use Rattle.std.proofs.Common.{refl, sym, subst, arith, inl, inr, ◌+◌, ◌∷◌, ◌++◌, []}
use Rattle.std.proofs.lemmas.List.{take_rest}
use Rattle.rmp_path.specs.Places.{OwnBytes, IsNode, IsNoNode}
use Rattle.rmp_path.proofs.Turning.{Walks, walk_start, walk_smaller, walk_in, walk_on, walk_over, walk_found}
use Rattle.rmp_path.proofs.location.locate.Goals as goal
use Rattle.rmp_path.proofs.location.locate.Goals.{in-Some+then-offset-place, in_default}

pub nodes-init : goal.nodes-init
nodes-init c = rw c.new-turns.ensures.items (walk_start c.args.input.now c.args.offset)

pub nodes-smaller-in_ok-push : goal.nodes-smaller-in_ok-push
nodes-smaller-in_ok-push c =
    walk_smaller c.args.input.now c.args.offset c.nodes.message c.nodes.place c.nodes.turns.items c.nodes.invariant c.in-Some.node
    (subst (λ z. IsNode z c.in-Some.node) (take_rest c.args.input.now c.nodes.place) c.in-Some.ensures.some) (omega (arith, c.if-offset-place.false))

pub nodes-preserved-in_ok-push : goal.nodes-preserved-in_ok-push
nodes-preserved-in_ok-push c =
    let w = walk_in c.args.input.now c.args.offset c.nodes.message c.nodes.place c.nodes.turns.items c.nodes.invariant c.in-Some.node
    (subst (λ z. IsNode z c.in-Some.node) (take_rest c.args.input.now c.nodes.place) c.in-Some.ensures.some) (omega (arith, c.if-offset-place.false)) (omega (arith, c.if-node-gt0.true)) in
    subst (λ z. Walks c.args.input.now c.args.offset c.nodes.message (c.nodes.place + c.in-Some.node.len) z) (sym c.in_ok-push.ensures.items)
    (subst (λ z. Walks c.args.input.now c.args.offset c.nodes.message (c.nodes.place + c.in-Some.node.len) (c.nodes.turns.items ++ z ∷ []))
    (sym c.first.ensures) w)

pub nodes-smaller-then-not-branch : goal.nodes-smaller-then-not-branch
nodes-smaller-then-not-branch c =
    walk_smaller c.args.input.now c.args.offset c.nodes.message c.nodes.place c.nodes.turns.items c.nodes.invariant c.in-Some.node
    (subst (λ z. IsNode z c.in-Some.node) (take_rest c.args.input.now c.nodes.place) c.in-Some.ensures.some) (omega (arith, c.if-offset-place.false))

pub nodes-preserved-then-not-branch : goal.nodes-preserved-then-not-branch
nodes-preserved-then-not-branch c =
    walk_over c.args.input.now c.args.offset c.nodes.message c.nodes.place c.nodes.turns.items c.nodes.invariant c.in-Some.node
    (subst (λ z. IsNode z c.in-Some.node) (take_rest c.args.input.now c.nodes.place) c.in-Some.ensures.some) (omega (arith, c.if-offset-place.false)) c.pass_part.new.turns.items c.in_ok-pass_part.field-0 (omega (arith, c.if-node-gt0.false))
    c.in_ok-pass_part.ensures c.if-not-branch.true

pub nodes-smaller : goal.nodes-smaller
nodes-smaller c =
    walk_smaller c.args.input.now c.args.offset c.nodes.message c.nodes.place c.nodes.turns.items c.nodes.invariant c.in-Some.node
    (subst (λ z. IsNode z c.in-Some.node) (take_rest c.args.input.now c.nodes.place) c.in-Some.ensures.some) (omega (arith, c.if-offset-place.false))

pub nodes-preserved : goal.nodes-preserved
nodes-preserved c =
    walk_on c.args.input.now c.args.offset c.nodes.message c.nodes.place c.nodes.turns.items c.nodes.invariant c.in-Some.node
    (subst (λ z. IsNode z c.in-Some.node) (take_rest c.args.input.now c.nodes.place) c.in-Some.ensures.some) (omega (arith, c.if-offset-place.false)) c.pass_part.new.turns.items c.in_ok-pass_part.field-0 (omega (arith, c.if-node-gt0.false))
    c.in_ok-pass_part.ensures c.if-not-branch.false

pub returns : goal.returns
returns c = walk_found c.args.input.now c.args.offset c.nodes.message c.nodes.place c.nodes.turns.items c.nodes.invariant _ refl refl refl
    (elim c.match-node_at.branch [
      | in-Some+then-offset-place w ↦ inl (w.in-Some.node.len, subst (OwnBytes w.in-Some.node.len) (take_rest c.args.input.now c.nodes.place) w.in-Some.ensures.some.own, omega (arith, w.if-offset-place.true))
      | in_default w ↦ inr (subst IsNoNode (take_rest c.args.input.now c.nodes.place) (c.node_at.ensures.none w.in_default.is))
    ])
