use Rattle.std.proofs.Common.{◌<◌, rules}
use Rattle.std.proofs.lemmas.Result.{err_from_is_err_and}
use Rattle.rmp_encode.specs.Sizes.{most}
use Rattle.rmp_encode.proofs.Leaves.{none_by_never}
use Rattle.rmp_encode.proofs.Lists.{head_at_some}
use Rattle.rmp_encode.proofs.Parts.{part_stops}
use Rattle.rmp_encode.proofs.Going.{closes}
use Rattle.rmp_encode.proofs.Keeping.{keeping_ends}
use Rattle.rmp_encode.proofs.OpenSteps.{none_state, some_state, never_past}
use Rattle.rmp_encode.proofs.unknown_length.MaybeUnknownLengthCompound+W+C.end.Goals as goal

pub returns-in_default-clause-writes : goal.returns-in_default-clause-writes
returns-in_default-clause-writes g c = λ old t h. closes g.W.Sink _ old t _ _ (none_state g.W.Sink c.in_default.is h).1

pub returns-then-past-clause-writes : goal.returns-then-past-clause-writes
returns-then-past-clause-writes g c = λ old t h.
    let past : most c.args.self.pairs < c.args.self.count = search rules in
    absurd (never_past g.W.Sink past (some_state g.W.Sink c.in-Some.buffer c.in-Some.is h))

pub returns-in_err-put_head-clause-writes : goal.returns-in_err-put_head-clause-writes
returns-in_err-put_head-clause-writes g c =
    let p = err_from_is_err_and c.from_residual.result c.from_residual.ensures.1 in
    rw (p.1, p.2) (λ old t h. keeping_ends c.args.self.pairs g.W.Sink (tt, tt) _ c.in-Some.buffer c.args.self.se.now
    (part_stops g.W.Sink {Q = Unit {0}} _ (rw c.size-n.ensures at c.in_err-put_head.ensures.writes)) old t
    (some_state g.W.Sink c.in-Some.buffer c.in-Some.is h))

pub returns-clause-writes : goal.returns-clause-writes
returns-clause-writes g c = λ old t h. keeping_ends c.args.self.pairs g.W.Sink tt _ c.in-Some.buffer c.args.self.se.now
    ((rw (c.as_slice.ensures.value, c.into_inner-bytes.ensures) at c.put.ensures.writes) _ _ (head_at_some _ _)
    (rw c.size-n.ensures at c.in_ok-put_head.ensures.writes)) old t (some_state g.W.Sink c.in-Some.buffer c.in-Some.is h)

pub returns-in_err-put_head-clause-marker : goal.returns-in_err-put_head-clause-marker
returns-in_err-put_head-clause-marker g c =
    let p = err_from_is_err_and c.from_residual.result c.from_residual.ensures.1 in
    rw (p.1, p.2) c.in_err-put_head.ensures.marker

pub returns-clause-marker : goal.returns-clause-marker
returns-clause-marker g c = none_by_never g.W.Sink _ _ c.put.result c.put.ensures.marker

pub returns-then-past-clause-error : goal.returns-then-past-clause-error
returns-then-past-clause-error g c = λ old t h.
    let past : most c.args.self.pairs < c.args.self.count = search rules in
    absurd (never_past g.W.Sink past (some_state g.W.Sink c.in-Some.buffer c.in-Some.is h))

pub returns-in_err-put_head-clause-error : goal.returns-in_err-put_head-clause-error
returns-in_err-put_head-clause-error g c =
    let p = err_from_is_err_and c.from_residual.result c.from_residual.ensures.1 in
    rw (p.1, p.2) (λ old t h. c.in_err-put_head.ensures.error)
