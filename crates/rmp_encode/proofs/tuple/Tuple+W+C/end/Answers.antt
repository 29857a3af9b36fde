use Rattle.std.proofs.Common.{sym, ◌∙◌, ap}
use Rattle.std.proofs.lemmas.Result.{err_from_is_err_and}
use Rattle.rmp_encode.specs.Data.{packs_tuple}
use Rattle.rmp_wire.specs.declared.config.BytesMode.TheVariants.{ForceAll}
use Rattle.rmp_encode.proofs.Going.{closes}
use Rattle.std.specs.Prelude.{Err}
use Rattle.rmp_encode.proofs.Leaves.{none_by_never}
use Rattle.rmp_encode.proofs.Lists.{head_at_some}
use Rattle.rmp_encode.proofs.Packed.{own_numbers}
use Rattle.rmp_encode.proofs.Parts.{part_stops}
use Rattle.rmp_encode.proofs.TupleSteps.{ended_listed, ended_packed, kept_none, kept_no_more, kept_some, none_ended}
use Rattle.rmp_encode.proofs.TupleSteps.{probing_fits, probing_packs, probing_lists, list_state, probe_state}
use Rattle.rmp_encode.proofs.Refusals.{on_fits}
use Rattle.rmp_encode.proofs.tuple.Tuple+W+C.end.Goals as goal

pub returns-in_default-clause-writes : goal.returns-in_default-clause-writes
returns-in_default-clause-writes g c = λ old t h. closes g.W.Sink _ old t _ _ (list_state g.W.Sink (kept_none _ _ c.in_default.is) h)

pub returns-then-not-probing-clause-writes : goal.returns-then-not-probing-clause-writes
returns-then-not-probing-clause-writes g c = λ old t h. closes g.W.Sink _ old t _ _
    (list_state g.W.Sink (kept_no_more c.in-Some.bytes c.in-Some.is c.if-not-probing.true) h)

pub returns-then-packs-clause-writes : goal.returns-then-packs-clause-writes
returns-then-packs-clause-writes g c =
    let yes_packs = sym (c.packs.ensures ∙ ap (packs_tuple ForceAll) (own_numbers _ ∙ c.as_slice.ensures.value)) ∙ c.if-packs.true in
    λ old t h. probing_packs g.W.Sink c.in-Some.bytes.items _ c.args.self.se.now yes_packs
    (rw c.as_slice-then-packs.ensures.value at c.serialize_bytes.ensures.writes) old t
    (probe_state g.W.Sink c.in-Some.bytes (kept_some c.in-Some.bytes c.in-Some.is c.if-not-probing.false) h)

pub returns-in_err-put_head-clause-writes : goal.returns-in_err-put_head-clause-writes
returns-in_err-put_head-clause-writes g c =
    let no_packs = sym (c.packs.ensures ∙ ap (packs_tuple ForceAll) (own_numbers _ ∙ c.as_slice.ensures.value)) ∙ c.if-packs.false in
    let p = err_from_is_err_and c.from_residual.result c.from_residual.ensures.1 in
    rw (p.1, p.2) (λ old t h. probing_lists g.W.Sink (tt, tt) c.in-Some.bytes.items _ c.args.self.se.now no_packs
    (part_stops g.W.Sink {Q = Unit {0}} _ c.in_err-put_head.ensures.writes) old t
    (probe_state g.W.Sink c.in-Some.bytes (kept_some c.in-Some.bytes c.in-Some.is c.if-not-probing.false) h))

pub returns-clause-writes : goal.returns-clause-writes
returns-clause-writes g c =
    let no_packs = sym (c.packs.ensures ∙ ap (packs_tuple ForceAll) (own_numbers _ ∙ c.as_slice.ensures.value)) ∙ c.if-packs.false in
    λ old t h. probing_lists g.W.Sink tt c.in-Some.bytes.items _ c.args.self.se.now no_packs
    ((rw c.as_slice-2.ensures.value at c.put_kept.ensures.writes) _ _ (head_at_some _ _) c.in_ok-put_head.ensures.writes) old t
    (probe_state g.W.Sink c.in-Some.bytes (kept_some c.in-Some.bytes c.in-Some.is c.if-not-probing.false) h)

pub returns-in_default-clause-marker : goal.returns-in_default-clause-marker
returns-in_default-clause-marker g c = none_ended g.W.Sink _ (kept_none _ _ c.in_default.is) _

pub returns-then-not-probing-clause-marker : goal.returns-then-not-probing-clause-marker
returns-then-not-probing-clause-marker g c = none_ended g.W.Sink _ (kept_no_more c.in-Some.bytes c.in-Some.is c.if-not-probing.true) _

pub returns-then-packs-clause-marker : goal.returns-then-packs-clause-marker
returns-then-packs-clause-marker g c =
    let yes_packs = sym (c.packs.ensures ∙ ap (packs_tuple ForceAll) (own_numbers _ ∙ c.as_slice.ensures.value)) ∙ c.if-packs.true in
    ended_packed g.W.Sink c.in-Some.bytes _ yes_packs (kept_some c.in-Some.bytes c.in-Some.is c.if-not-probing.false) c.serialize_bytes.result
    (rw c.as_slice-then-packs.ensures.value at c.serialize_bytes.ensures.writes) c.serialize_bytes.ensures.marker

pub returns-in_err-put_head-clause-marker : goal.returns-in_err-put_head-clause-marker
returns-in_err-put_head-clause-marker g c =
    let no_packs = sym (c.packs.ensures ∙ ap (packs_tuple ForceAll) (own_numbers _ ∙ c.as_slice.ensures.value)) ∙ c.if-packs.false in
    let p = err_from_is_err_and c.from_residual.result c.from_residual.ensures.1 in
    rw (p.1, p.2) (ended_listed g.W.Sink c.in-Some.bytes _ no_packs (kept_some c.in-Some.bytes c.in-Some.is c.if-not-probing.false) (Err _)
    (part_stops g.W.Sink {B = Unit {0}} {Q = Unit {0}} _ c.in_err-put_head.ensures.writes) c.in_err-put_head.ensures.marker)

pub returns-clause-marker : goal.returns-clause-marker
returns-clause-marker g c =
    let no_packs = sym (c.packs.ensures ∙ ap (packs_tuple ForceAll) (own_numbers _ ∙ c.as_slice.ensures.value)) ∙ c.if-packs.false in
    ended_listed g.W.Sink c.in-Some.bytes _ no_packs (kept_some c.in-Some.bytes c.in-Some.is c.if-not-probing.false) c.put_kept.result
    ((rw c.as_slice-2.ensures.value at c.put_kept.ensures.writes) _ _ (head_at_some _ _) c.in_ok-put_head.ensures.writes)
    (none_by_never g.W.Sink _ _ c.put_kept.result c.put_kept.ensures.marker)

pub returns-then-packs-clause-error : goal.returns-then-packs-clause-error
returns-then-packs-clause-error g c = λ old t h. on_fits _ c.serialize_bytes.result
    (probing_fits g.W.Sink (probe_state g.W.Sink c.in-Some.bytes (kept_some c.in-Some.bytes c.in-Some.is c.if-not-probing.false) h))
    (rw c.as_slice-then-packs.ensures.value at c.serialize_bytes.ensures.error)

pub returns-in_err-put_head-clause-error : goal.returns-in_err-put_head-clause-error
returns-in_err-put_head-clause-error g c =
    let p = err_from_is_err_and c.from_residual.result c.from_residual.ensures.1 in
    rw (p.1, p.2) (λ old t h. c.in_err-put_head.ensures.error)
