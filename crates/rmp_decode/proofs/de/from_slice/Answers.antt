use Rattle.std.proofs.Common.{refl, false}
use Rattle.std.proofs.lemmas.Result.{IfOk-weaker, IfErr-weaker}
use Rattle.rmp_decode.proofs.Whole.{known_left, begins_from, none_begins, refused_from}
use Rattle.rmp_decode.proofs.de.from_slice.Goals as goal

pub returns-clause-ok : goal.returns-clause-ok
returns-clause-ok g c =
    let d = c.from_read_ref-de.ensures in
    IfOk-weaker c.deserialize.result _ _ (λ v r. begins_from _ _ c.from_read_ref-de.result c.deserialize.new.de v 1024 c.args.input.now false
    (known_left _ _ _ d.new.kept d.rest) d.new.room d.new.lenient r) c.deserialize.ensures.law.ok

pub returns-clause-err : goal.returns-clause-err
returns-clause-err g c =
    let d = c.from_read_ref-de.ensures in
    IfErr-weaker c.deserialize.result _ _ (λ e h n. none_begins _ false _ _ _ _ _ d.new.lenient d.new.room (known_left _ _ _ d.new.kept d.rest) (h n refl))
    (c.deserialize.ensures.law.err d.new.ready)

pub returns-clause-refused : goal.returns-clause-refused
returns-clause-refused g c =
    let d = c.from_read_ref-de.ensures in
    refused_from c.from_read_ref-de.result c.deserialize.result g.T.Deserialize.refuses 0 0 _ c.args.input.now false (known_left _ _ _ d.new.kept d.rest) d.new.room
    d.new.lenient (c.deserialize.ensures.refused d.new.ready)
