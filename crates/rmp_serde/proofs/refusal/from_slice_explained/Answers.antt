use Rattle.std.proofs.Common.{◌∙◌, refl, false}
use Rattle.rmp_decode.proofs.Whole.{known_left, none_begins}
use Rattle.rmp_serde.proofs.refusal.from_slice_explained.Goals as goal

pub returns-in-Err-clause-err : goal.returns-in-Err-clause-err
returns-in-Err-clause-err g c =
    let d = c.from_read_ref-de.ensures in
    λ n. none_begins _ false _ _ _ _ _ d.new.lenient d.new.room (known_left _ _ _ d.new.kept d.rest)
    (c.in-Err.ensures.law.err d.new.ready (λ e. n (c.explain.ensures.same ∙ e)) refl)
