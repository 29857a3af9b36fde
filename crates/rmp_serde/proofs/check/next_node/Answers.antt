-- A head was taken, and it is looked at before its content is.
use Rattle.std.proofs.Common.{rules, refl, inr, subst, ◌<◌, length}
use Rattle.std.proofs.lemmas.Result.{err_from_is_err_and}
use Rattle.rmp_serde.proofs.Checking.{next_stops, next_other, next_cut, next_taken}
use Rattle.rmp_serde.proofs.check.next_node.Goals as goal

pub returns-in_err-marker : goal.returns-in_err-marker
returns-in_err-marker c =
    let p = err_from_is_err_and c.from_residual.result c.from_residual.ensures.1 in
    rw (p.1, p.2) (next_stops c.args.left.now.now c.next_head.new.source.now _ c.in_err-marker.ensures.reads.err)

pub returns-then-not-is_canonical : goal.returns-then-not-is_canonical
returns-then-not-is_canonical c =
    let t = c.in_ok-marker.ensures.reads.ok in (
      next_other c.args.left.now.now c.next_head.new.source.now t.rest c.in_ok-marker.marker c.in_ok-marker.head t.is_head t.taken c.is_canonical.result
          c.is_canonical.ensures.canonical c.if-not-is_canonical.true,
      refl,
    )

pub returns-then-not-skip : goal.returns-then-not-skip
returns-then-not-skip c =
    let t = c.in_ok-marker.ensures.reads.ok in
    let short = subst (λ n. length c.next_head.new.source.now < n) c.content_len.ensures (c.if-not-skip.ensures.short refl) in (
      c.from.ensures.0,
      inr (next_cut c.args.left.now.now c.next_head.new.source.now t.rest c.in_ok-marker.marker c.in_ok-marker.head t.is_head t.taken
          c.is_canonical.result c.is_canonical.ensures.canonical c.if-not-is_canonical.false t.is_marker short),
    )

pub returns : goal.returns
returns c =
    let t = c.in_ok-marker.ensures.reads.ok in
    let skipped = c.if-not-skip.ensures.bytes (search rules) in
    next_taken c.args.left.now.now c.next_head.new.source.now t.rest c.in_ok-marker.marker c.in_ok-marker.head t.is_head t.taken c.is_canonical.result
    c.is_canonical.ensures.canonical c.if-not-is_canonical.false
    c.skip.new.self.now c.content_len.result c.parts_in.result c.content_len.ensures skipped c.parts_in.ensures
