use Rattle.std.specs.Prelude.{false}
use Rattle.std.proofs.Common.{◌∙◌, refl, sym, subst}
use Rattle.rmp_wire.specs.Canonical.{SpellsAs}
use Rattle.rmp_decode.proofs.Whole.{known_left, none_begins}
use Rattle.rmp_serde.proofs.Refusing.{first_wrong}
use Rattle.example_records.proofs.Log.{consumed, first_back, first_begins, cut_is_none, some_taken}
use Rattle.example_records.proofs.records.next_record.Goals as goal

pub returns-in-Ok-clause-back : goal.returns-in-Ok-clause-back
returns-in-Ok-clause-back c = λ m ms cut fits e.
    let d = c.from_read_ref-de.ensures in
    let law = c.in-Ok.ensures.law in
    let r = law.ok in
    let front = consumed _ _ _ _ r.bytes (known_left _ _ _ d.new.kept d.rest) (known_left _ _ _ law.clean (sym c.remaining_slice.ensures)) r.takes in
    let p = first_back c.args.log.now r.bytes c.remaining_slice.result.now r.tree m ms cut front
    (subst (λ z. SpellsAs z r.bytes r.tree) d.new.lenient r.spelled) fits e in
    (r.value.0 ∙ p.0, p.1)

pub returns-in-Err-clause-whole : goal.returns-in-Err-clause-whole
returns-in-Err-clause-whole c = λ n m ms cut fits texts deep e.
    let d = c.from_read_ref-de.ensures in
    none_begins _ false _ _ _ _ _ d.new.lenient d.new.room (known_left _ _ _ d.new.kept d.rest) (c.in-Err.ensures.law.err d.new.ready n refl)
    (first_begins c.args.log.now m ms cut fits texts deep e)

pub returns-in-Ok-clause-cut : goal.returns-in-Ok-clause-cut
returns-in-Ok-clause-cut c = λ cut.
    let d = c.from_read_ref-de.ensures in
    let law = c.in-Ok.ensures.law in
    let r = law.ok in
    let front = consumed _ _ _ _ r.bytes (known_left _ _ _ d.new.kept d.rest) (known_left _ _ _ law.clean (sym c.remaining_slice.ensures)) r.takes in
    cut_is_none c.args.log.now r.bytes c.remaining_slice.result.now r.tree front (subst (λ z. SpellsAs z r.bytes r.tree) d.new.lenient r.spelled) cut

pub returns-in-Ok-clause-shorter : goal.returns-in-Ok-clause-shorter
returns-in-Ok-clause-shorter c =
    let d = c.from_read_ref-de.ensures in
    let law = c.in-Ok.ensures.law in
    let r = law.ok in
    let front = consumed _ _ _ _ r.bytes (known_left _ _ _ d.new.kept d.rest) (known_left _ _ _ law.clean (sym c.remaining_slice.ensures)) r.takes in
    some_taken c.args.log.now r.bytes c.remaining_slice.result.now r.tree front (subst (λ z. SpellsAs z r.bytes r.tree) d.new.lenient r.spelled)

pub returns-in-Err-clause-incomplete : goal.returns-in-Err-clause-incomplete
returns-in-Err-clause-incomplete c = λ end.
    let d = c.from_read_ref-de.ensures in
    c.an_end_is_inside_a_message.ensures.begins 1024 c.in-Err.e
    (first_wrong _ 1024 _ c.in-Err.e _ c.args.log.now d.new.room d.new.lenient (known_left _ _ _ d.new.kept d.rest) (c.in-Err.ensures.refusal d.new.ready refl)) end
