use Rattle.std.proofs.Common.{refl, false}
use Rattle.std.proofs.lemmas.Result.{IfOk-weaker, IfErr-weaker}
use Rattle.rmp_decode.proofs.Whole.{known_left, begins_from, none_begins}
use Rattle.rmp_serde.specs.Read.{reads_value}
use Rattle.rmp_serde.proofs.Refusing.{first_wrong}
use Rattle.rmp_serde.proofs.value.Value.from_slice.Goals as goal

pub returns-clause-ok : goal.returns-clause-ok
returns-clause-ok c =
    let d = c.from_read_ref-de.ensures in
    IfOk-weaker c.read_value.result _ _ (λ v r. begins_from _ reads_value c.from_read_ref-de.result c.read_value.new.de v 1024 c.args.input.now false
    (known_left _ _ _ d.new.kept d.rest) d.new.room d.new.lenient r) c.read_value.ensures.law.ok

pub returns-clause-err : goal.returns-clause-err
returns-clause-err c =
    let d = c.from_read_ref-de.ensures in
    IfErr-weaker c.read_value.result _ _ (λ e h n. none_begins _ false _ _ _ _ _ d.new.lenient d.new.room (known_left _ _ _ d.new.kept d.rest) (h n refl))
    (c.read_value.ensures.law.err d.new.ready)

pub returns-clause-refusal : goal.returns-clause-refusal
returns-clause-refusal c =
    let d = c.from_read_ref-de.ensures in
    IfErr-weaker c.read_value.result _ _ (λ e h. first_wrong _ 1024 _ e _ c.args.input.now d.new.room d.new.lenient (known_left _ _ _ d.new.kept d.rest)
    (h d.new.ready refl)) c.read_value.ensures.refusal
