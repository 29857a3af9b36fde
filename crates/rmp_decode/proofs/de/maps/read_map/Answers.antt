use Rattle.std.proofs.Common.{◌≡◌, sym, ◌∙◌, ap, subst, arith, refl, rules, false, Option, None, Some, IfNone}
use Rattle.std.proofs.lemmas.Result.{err_from_is_err_and}
use Rattle.rmp_decode.specs.Maps.{IsMapOpen}
use Rattle.rmp_decode.proofs.MapReads.{map_closed, map_whole, key_refuses, value_refuses, pair_unkept}
use Rattle.rmp_decode.proofs.Maps.{gathers_start, gathers_step}
use Rattle.rmp_decode.proofs.Orders.{MapOf}
use Rattle.rmp_decode.proofs.Seqs.{via}
use Rattle.rmp_decode.proofs.de.maps.read_map.Goals as goal

pub returns-in_err-map : goal.returns-in_err-map
returns-in_err-map g c =
    let p = err_from_is_err_and c.from_residual.result c.from_residual.ensures.1 in
    rw (p.1, p.2) (map_closed g.K.Deserialize.reads g.V.Deserialize.reads g.K.Deserialize.refuses g.V.Deserialize.refuses
    (MapOf g.K.Ord.cmp) _ (rw c.in_err-map.was at c.deserialize_map.follows.holds-at-none))

pub loop-entries-init : goal.loop-entries-init
loop-entries-init g c = let o = c.in_ok-map.ensures.opened in gathers_start _ g.met.K.Ord.total _ _ _ _ o.at_key o.opened c.new-entries.ensures.empty

pub next_key-requires : goal.next_key-requires
next_key-requires g c κs = ((refl, (refl, tt)), λ _. c.loop-entries.invariant.read.at_key)

pub next_value-requires : goal.next_value-requires
next_value-requires g c κs = ((refl, (refl, tt)), λ _. let p = rw c.in-Some.is at c.in_ok-key.ensures.some in p.owes)

pub returns-in_err-key : goal.returns-in_err-key
returns-in_err-key g c =
    let r = c.loop-entries.invariant in
    let same = sym c.in_ok-map.ensures.same_reference ∙ sym r.read.run.same_reference ∙ sym c.next_key.ensures.same_reference in
    let p = err_from_is_err_and c.from_residual-in_err-key.result c.from_residual-in_err-key.ensures.1 in
    let e = c.in_err-key.ensures in
    rw (p.1, p.2) (key_refuses g.K.Deserialize.reads g.V.Deserialize.reads g.K.Deserialize.refuses g.V.Deserialize.refuses
    (MapOf g.K.Ord.cmp) _ c.in_ok-map.ensures.opened r.read c.next_key.new.self
    (e.err r.read.run.still.sound).1 (e.refused r.read.run.still.sound) (search rules))

pub returns-in_err-value : goal.returns-in_err-value
returns-in_err-value g c =
    let r = c.loop-entries.invariant in
    let same = sym c.in_ok-map.ensures.same_reference ∙ sym r.read.run.same_reference ∙ sym c.next_key.ensures.same_reference
    ∙ sym c.next_value.ensures.same_reference in
    let t = rw c.in-Some.is at c.in_ok-key.ensures.some in
    let p = err_from_is_err_and c.from_residual-in_err-value.result c.from_residual-in_err-value.ensures.1 in
    let e = c.in_err-value.ensures in
    rw (p.1, p.2) (value_refuses g.K.Deserialize.reads g.V.Deserialize.reads g.K.Deserialize.refuses g.V.Deserialize.refuses
    (MapOf g.K.Ord.cmp) _ c.in_ok-map.ensures.opened r.read t
    c.next_key.ensures.same_reference c.next_value.new.self (e.err t.still.sound) (e.refused t.still.sound) (search rules))

pub returns-in_err-insert : goal.returns-in_err-insert
returns-in_err-insert g c =
    let r = c.loop-entries.invariant in
    let same = sym c.in_ok-map.ensures.same_reference ∙ sym r.read.run.same_reference ∙ sym c.next_key.ensures.same_reference
    ∙ sym c.next_value.ensures.same_reference in
    let p = err_from_is_err_and c.from_residual-in_err-insert.result c.from_residual-in_err-insert.ensures.1 in
    rw (p.1, p.2) (pair_unkept g.K.Deserialize.reads g.V.Deserialize.reads g.K.Deserialize.refuses g.V.Deserialize.refuses
    (MapOf g.K.Ord.cmp) _ c.in_ok-map.ensures.opened r.read
    (rw c.in-Some.is at c.in_ok-key.ensures.some) c.next_key.ensures.same_reference c.in_ok-value.ensures.ok c.next_value.ensures.same_reference
    (search rules))

pub loop-entries-smaller-in_ok-insert : goal.loop-entries-smaller-in_ok-insert
loop-entries-smaller-in_ok-insert g c =
    let p = rw c.in-Some.is at c.in_ok-key.ensures.some in
    let q = c.in_ok-value.ensures.ok in
    omega (arith, p.fewer, q.same_left)

pub loop-entries-preserved-in_ok-insert : goal.loop-entries-preserved-in_ok-insert
loop-entries-preserved-in_ok-insert g c =
    gathers_step g.R.Source g.met.K.Ord.total _ _ c.in_ok-map.map c.loop-entries.map c.next_key.new.self c.next_value.new.self _ _ c.in-Some.key
    c.in_ok-value.value c.loop-entries.invariant (rw c.in-Some.is at c.in_ok-key.ensures.some) c.next_key.ensures.same_reference c.in_ok-value.ensures.ok
    c.next_value.ensures.same_reference c.in_ok-insert.ensures.entries c.insert.ensures.ordered c.in_ok-insert.ensures.updates.0

pub loop-entries-smaller : goal.loop-entries-smaller
loop-entries-smaller g c =
    let p = rw c.in-Some.is at c.in_ok-key.ensures.some in
    let q = c.in_ok-value.ensures.ok in
    omega (arith, p.fewer, q.same_left)

pub loop-entries-preserved : goal.loop-entries-preserved
loop-entries-preserved g c =
    gathers_step g.R.Source g.met.K.Ord.total _ _ c.in_ok-map.map c.loop-entries.map c.next_key.new.self c.next_value.new.self _ _ c.in-Some.key
    c.in_ok-value.value c.loop-entries.invariant (rw c.in-Some.is at c.in_ok-key.ensures.some) c.next_key.ensures.same_reference c.in_ok-value.ensures.ok
    c.next_value.ensures.same_reference c.in_ok-insert.ensures.entries c.insert.ensures.ordered c.in_ok-insert.ensures.updates.0

at_none : {T P : Type 0} (o : Option T) → ((x : T) → o ≡ Some x → ⊥) → IfNone o P → P
at_none None n p = p
at_none (Some x) n p = absurd (n x refl)

pub end-requires : goal.end-requires
end-requires g c =
    let n = at_none c.in_ok-key.field-0 c.in_default.not-Some c.in_ok-key.ensures.none in
    λ _. ap (λ a. a.owes) n.1 ∙ c.loop-entries.invariant.read.at_key

pub returns-in_err-end : goal.returns-in_err-end
returns-in_err-end g c =
    let r = c.loop-entries.invariant in
    let n = at_none c.in_ok-key.field-0 c.in_default.not-Some c.in_ok-key.ensures.none in
    let h = c.in_err-end.ensures.err (subst IsMapOpen (sym n.1) r.read.run.still) in
    let left = ap (λ a. a.left) n.1 in
    absurd (omega (arith, h.0, n.0, left))

pub returns : goal.returns
returns g c =
    let r = c.loop-entries.invariant in
    let same = sym c.in_ok-map.ensures.same_reference ∙ sym r.read.run.same_reference ∙ sym c.next_key.ensures.same_reference in
    let n = at_none c.in_ok-key.field-0 c.in_default.not-Some c.in_ok-key.ensures.none in
    let e = (c.in_ok-end.ensures.ok (subst IsMapOpen (sym n.1) r.read.run.still)).1 in
    map_whole g.K.Deserialize.reads g.V.Deserialize.reads g.K.Deserialize.refuses g.V.Deserialize.refuses
    (MapOf g.K.Ord.cmp) _ c.in_ok-map.ensures.opened r.read _ r.gathered n.0
    (via c.end.new.self.0 (search rules) (e ∙ ap (λ a. record a.de.now { failed = false }) n.1))
