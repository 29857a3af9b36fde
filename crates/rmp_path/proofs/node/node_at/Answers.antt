use Rattle.std.proofs.Common.{rules, arith, subst, refl, ◌<◌, length, ◌∷◌}
use Rattle.rmp_wire.specs.Taking.{byte_of}
use Rattle.rmp_wire.proofs.Taken.{bytes_from}
use Rattle.rmp_path.proofs.Nodes.{node_cut, node_taken, taken_length}
use Rattle.rmp_path.proofs.node.node_at.Goals as goal

pub returns-then-not-skip-clause-none : goal.returns-then-not-skip-clause-none
returns-then-not-skip-clause-none c =
    let t = c.in-Ok.ensures.reads.ok in
    let short = subst (λ n. length c.next_head.new.source.now < n) c.content_len.ensures (c.if-not-skip.ensures.short refl) in
    λ e. node_cut c.args.bytes.now c.next_head.new.source.now t.rest c.in-Ok.field-0-0 c.in-Ok.head t.is_head t.taken short

pub returns-clause-some : goal.returns-clause-some
returns-clause-some c =
    let t = c.in-Ok.ensures.reads.ok in
    let s = c.if-not-skip.ensures.bytes (search rules) in
    node_taken c.args.bytes.now c.next_head.new.source.now t.rest c.in-Ok.field-0-0 c.in-Ok.head t.is_head t.taken c.skip.new.self.now
    c.content_len.result c.content_len.ensures s (bytes_from c.args.bytes.now (λ i. omega (arith, c.type_inv.bytes i))) _
    (taken_length c.args.bytes.now c.next_head.new.source.now _ (byte_of c.in-Ok.field-0-0 ∷ t.rest) t.taken _ s) _ _ c.parts_in-is_map.ensures
