use Rattle.std.proofs.Common.{Some, refl, arith, rules, sym, ◌∙◌, ◌∷◌, ◌++◌, [], ap, inl, inr, map}
use Rattle.std.proofs.lemmas.Result.{err_from_is_err_and}
use Rattle.rmp_encode.specs.Trees.{byte_of}
use Rattle.rmp_encode.proofs.Parts.{part_then, part_stops}
use Rattle.rmp_encode.proofs.Going.{keeps_then, on_ok}
use Rattle.rmp_encode.proofs.TupleSteps.{kept_none, kept_no_more, kept_some, probe_more, probe_takes, spilled, not_spilled, tuple_goes, list_state}
use Rattle.rmp_encode.proofs.TupleSteps.{probe_state, in_probe, element_alone, element_spilled}
use Rattle.rmp_encode.proofs.Refusals.{of_cause, on_part}
use Rattle.rmp_encode.proofs.Markers.{one_piece, pieces_stop, pieces_then, value_piece}
use Rattle.rmp_encode.specs.Markers.{item, items_of, value_of}
use Rattle.rmp_encode.specs.Ser.{settings_of}
use Rattle.rmp_encode.specs.Trees.{array_head, number_head}
use Rattle.std.specs.Prelude.{Ok, Err}
use Rattle.rmp_encode.specs.Going.{head_at}
use Rattle.rmp_encode.proofs.tuple.Tuple+W+C.put_element.Goals as goal

pub returns-in_default-clause-writes : goal.returns-in_default-clause-writes
returns-in_default-clause-writes g c = λ old t rest h. tuple_goes g.W.Sink g.T.Serialize.takes_memory (λ s. g.T.Serialize.data_of c.args.value.now s.human)
    c.args.self.now.left c.args.self.now.se.now _ c.serialize.result h.sound (kept_none _ _ c.in_default.is) (omega arith) c.serialize.ensures.keeps
    c.serialize.ensures.writes old t rest h.left_is (list_state g.W.Sink (kept_none _ _ c.in_default.is) h)

pub returns-then-not-self-clause-writes : goal.returns-then-not-self-clause-writes
returns-then-not-self-clause-writes g c = λ old t rest h. tuple_goes g.W.Sink g.T.Serialize.takes_memory
    (λ s. g.T.Serialize.data_of c.args.value.now s.human) c.args.self.now.left c.args.self.now.se.now _ c.serialize-then-not-self.result h.sound
    (kept_no_more c.in-Some.kept refl c.if-not-self.true) (omega arith) c.serialize-then-not-self.ensures.keeps c.serialize-then-not-self.ensures.writes old
    t rest h.left_is (list_state g.W.Sink (kept_no_more c.in-Some.kept c.in-Some.is c.if-not-self.true) h)

pub returns-in-Ok-clause-writes : goal.returns-in-Ok-clause-writes
returns-in-Ok-clause-writes g c =
    let is = sym (c.as_u8.ensures.byte ∙ ap (λ h. byte_of (g.T.Serialize.data_of c.args.value.now h)) c.is_human_readable.ensures) ∙ c.in-Some-as_u8.is in
    let kept = kept_some c.replace-bytes.result (c.in-Some.is ∙ ap Some (sym c.replace-bytes.ensures.value)) c.if-not-self.false in
    λ old t rest h. in_probe g.W.Sink c.push-pushed.new.self h.sound (omega (arith, h.left_is)) (kept_some c.push-pushed.new.self refl c.if-not-self.false)
    (probe_more g.W.Sink (λ s. g.T.Serialize.data_of c.args.value.now s.human) c.replace-bytes.result.items c.push-pushed.new.self.items _
    c.args.self.now.se.now c.in-Some-as_u8.b (search rules) is (omega arith) old t rest (probe_state g.W.Sink c.replace-bytes.result kept h))

pub returns-in_err-put_head-clause-writes : goal.returns-in_err-put_head-clause-writes
returns-in_err-put_head-clause-writes g c =
    let isnt = sym (c.as_u8.ensures.byte ∙ ap (λ h. byte_of (g.T.Serialize.data_of c.args.value.now h)) c.is_human_readable.ensures) ∙ c.in_default-as_u8.is in
    let p = err_from_is_err_and c.from_residual.result c.from_residual.ensures.1 in
    rw (p.1, p.2) (λ old t rest h. not_spilled g.W.Sink _ (λ s. g.T.Serialize.data_of c.args.value.now s.human) c.in-Some.kept.items _
    c.args.self.now.se.now c.put_head.new.self _ isnt (part_stops g.W.Sink {Q = Unit {0}} _ c.in_err-put_head.ensures.writes) old t rest
    (probe_takes g.W.Sink _ _ (probe_state g.W.Sink c.in-Some.kept (kept_some c.in-Some.kept c.in-Some.is c.if-not-self.false) h))
    (probe_state g.W.Sink c.in-Some.kept (kept_some c.in-Some.kept c.in-Some.is c.if-not-self.false) h))

pub returns-in_err-put_numbers-clause-writes : goal.returns-in_err-put_numbers-clause-writes
returns-in_err-put_numbers-clause-writes g c =
    let isnt = sym (c.as_u8.ensures.byte ∙ ap (λ h. byte_of (g.T.Serialize.data_of c.args.value.now h)) c.is_human_readable.ensures) ∙ c.in_default-as_u8.is in
    let p = err_from_is_err_and c.from_residual-in_err-put_numbers.result c.from_residual-in_err-put_numbers.ensures.1 in
    rw (p.1, p.2) (λ old t rest h. not_spilled g.W.Sink _ (λ s. g.T.Serialize.data_of c.args.value.now s.human) c.in-Some.kept.items _
    c.args.self.now.se.now c.put_numbers.new.self _ isnt
    (part_then g.W.Sink c.in_ok-put_head.ensures.writes (rw c.as_slice.ensures.value at c.in_err-put_numbers.ensures.writes)) old t rest
    (probe_takes g.W.Sink _ _ (probe_state g.W.Sink c.in-Some.kept (kept_some c.in-Some.kept c.in-Some.is c.if-not-self.false) h))
    (probe_state g.W.Sink c.in-Some.kept (kept_some c.in-Some.kept c.in-Some.is c.if-not-self.false) h))

pub returns-clause-writes : goal.returns-clause-writes
returns-clause-writes g c =
    let isnt = sym (c.as_u8.ensures.byte ∙ ap (λ h. byte_of (g.T.Serialize.data_of c.args.value.now h)) c.is_human_readable.ensures) ∙ c.in_default-as_u8.is in
    λ old t rest h. tuple_goes g.W.Sink g.T.Serialize.takes_memory (λ s. g.T.Serialize.data_of c.args.value.now s.human) c.args.self.now.left
    c.put_numbers.new.self _ c.serialize-2.result h.sound refl (omega arith) c.serialize-2.ensures.keeps c.serialize-2.ensures.writes old t rest
    h.left_is
    (spilled g.W.Sink (λ s. g.T.Serialize.data_of c.args.value.now s.human) c.in-Some.kept.items _ c.args.self.now.se.now c.put_numbers.new.self _ isnt
    (keeps_then g.W.Sink c.put_head.ensures.keeps c.put_numbers.ensures.keeps)
    (part_then g.W.Sink c.in_ok-put_head.ensures.writes (rw c.as_slice.ensures.value at c.in_ok-put_numbers.ensures.writes)) old t rest
    (probe_state g.W.Sink c.in-Some.kept (kept_some c.in-Some.kept c.in-Some.is c.if-not-self.false) h))

pub returns-in_default-clause-error : goal.returns-in_default-clause-error
returns-in_default-clause-error g c = on_part _ (g.T.Serialize.refuses c.args.value.now) c.serialize.result c.serialize.ensures.error

pub returns-then-not-self-clause-error : goal.returns-then-not-self-clause-error
returns-then-not-self-clause-error g c = on_part _ (g.T.Serialize.refuses c.args.value.now) c.serialize-then-not-self.result c.serialize-then-not-self.ensures.error

pub returns-in_err-put_head-clause-error : goal.returns-in_err-put_head-clause-error
returns-in_err-put_head-clause-error g c =
    let p = err_from_is_err_and c.from_residual.result c.from_residual.ensures.1 in
    rw (p.1, p.2) (inr (of_cause _ _ _ _ c.in_err-put_head.ensures.writes.cause))

pub returns-in_err-put_numbers-clause-error : goal.returns-in_err-put_numbers-clause-error
returns-in_err-put_numbers-clause-error g c =
    let p = err_from_is_err_and c.from_residual-in_err-put_numbers.result c.from_residual-in_err-put_numbers.ensures.1 in
    rw (p.1, p.2) (inr (of_cause _ _ _ _ c.in_err-put_numbers.ensures.writes.cause))

pub returns-clause-error : goal.returns-clause-error
returns-clause-error g c = on_part _ (g.T.Serialize.refuses c.args.value.now) c.serialize-2.result c.serialize-2.ensures.error

pub returns-in_default-clause-marker : goal.returns-in_default-clause-marker
returns-in_default-clause-marker g c =
    element_alone g.W.Sink (value_of (settings_of c.args.self.now.se.now) (g.T.Serialize.data_of c.args.value.now (settings_of c.args.self.now.se.now).human)
    (g.T.Serialize.marks c.args.value.now (settings_of c.args.self.now.se.now))) _ (kept_none _ _ c.in_default.is) c.serialize.result
    c.serialize.ensures.writes c.serialize.ensures.marker (on_ok c.serialize.result tt)

pub returns-then-not-self-clause-marker : goal.returns-then-not-self-clause-marker
returns-then-not-self-clause-marker g c =
    element_alone g.W.Sink (value_of (settings_of c.args.self.now.se.now) (g.T.Serialize.data_of c.args.value.now (settings_of c.args.self.now.se.now).human)
    (g.T.Serialize.marks c.args.value.now (settings_of c.args.self.now.se.now))) _ (kept_no_more c.in-Some.kept c.in-Some.is c.if-not-self.true)
    c.serialize-then-not-self.result c.serialize-then-not-self.ensures.writes c.serialize-then-not-self.ensures.marker
    (on_ok c.serialize-then-not-self.result tt)

pub returns-in-Err-clause-marker : goal.returns-in-Err-clause-marker
returns-in-Err-clause-marker g c =
    inl tt

pub returns-in_err-put_head-clause-marker : goal.returns-in_err-put_head-clause-marker
unfolding head_at
returns-in_err-put_head-clause-marker g c =
    let p = err_from_is_err_and c.from_residual.result c.from_residual.ensures.1 in
    rw (p.1, p.2) (element_spilled g.W.Sink (value_of (settings_of c.args.self.now.se.now) (g.T.Serialize.data_of c.args.value.now (settings_of c.args.self.now.se.now).human)
    (g.T.Serialize.marks c.args.value.now (settings_of c.args.self.now.se.now))) c.in-Some.kept _ (kept_some c.in-Some.kept c.in-Some.is c.if-not-self.false) (Err _)
    (pieces_stop g.W.Sink (items_of (map number_head c.in-Some.kept.items) ++ (value_of (settings_of c.args.self.now.se.now) (g.T.Serialize.data_of c.args.value.now (settings_of c.args.self.now.se.now).human)
    (g.T.Serialize.marks c.args.value.now (settings_of c.args.self.now.se.now))) ∷ [])
    (one_piece g.W.Sink (item (array_head c.args.self.now.len)) (Err _) c.in_err-put_head.ensures.writes c.in_err-put_head.ensures.marker tt)))

pub returns-in_err-put_numbers-clause-marker : goal.returns-in_err-put_numbers-clause-marker
unfolding head_at
returns-in_err-put_numbers-clause-marker g c =
    let p = err_from_is_err_and c.from_residual-in_err-put_numbers.result c.from_residual-in_err-put_numbers.ensures.1 in
    rw (p.1, p.2) (element_spilled g.W.Sink (value_of (settings_of c.args.self.now.se.now) (g.T.Serialize.data_of c.args.value.now (settings_of c.args.self.now.se.now).human)
    (g.T.Serialize.marks c.args.value.now (settings_of c.args.self.now.se.now))) c.in-Some.kept _ (kept_some c.in-Some.kept c.in-Some.is c.if-not-self.false) (Err _)
    (pieces_then g.W.Sink (Err _) (one_piece g.W.Sink (item (array_head c.args.self.now.len)) (Ok _) c.in_ok-put_head.ensures.writes tt tt)
    (pieces_stop g.W.Sink ((value_of (settings_of c.args.self.now.se.now) (g.T.Serialize.data_of c.args.value.now (settings_of c.args.self.now.se.now).human)
    (g.T.Serialize.marks c.args.value.now (settings_of c.args.self.now.se.now))) ∷ []) (rw c.as_slice.ensures.value at c.in_err-put_numbers.ensures.order))))

pub returns-clause-marker : goal.returns-clause-marker
unfolding head_at
returns-clause-marker g c =
    element_spilled g.W.Sink (value_of (settings_of c.args.self.now.se.now) (g.T.Serialize.data_of c.args.value.now (settings_of c.args.self.now.se.now).human)
    (g.T.Serialize.marks c.args.value.now (settings_of c.args.self.now.se.now))) c.in-Some.kept _ (kept_some c.in-Some.kept c.in-Some.is c.if-not-self.false) c.serialize-2.result
    (pieces_then g.W.Sink c.serialize-2.result (one_piece g.W.Sink (item (array_head c.args.self.now.len)) (Ok _) c.in_ok-put_head.ensures.writes tt tt)
    (pieces_then g.W.Sink c.serialize-2.result (rw c.as_slice.ensures.value at c.in_ok-put_numbers.ensures.order)
    (value_piece g.W.Sink (λ s. g.T.Serialize.data_of c.args.value.now s.human) (g.T.Serialize.marks c.args.value.now) c.put_numbers.new.self
    c.serialize-2.result (keeps_then g.W.Sink c.put_head.ensures.keeps c.put_numbers.ensures.keeps).settings c.serialize-2.ensures.writes
    c.serialize-2.ensures.marker)))
