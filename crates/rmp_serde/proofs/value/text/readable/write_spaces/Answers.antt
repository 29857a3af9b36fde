use Rattle.std.proofs.Common.{◌∙◌, sym, ap, add-one, refl}
use Rattle.std.proofs.Output.{has_written_append, has_written_of_eq}
use Rattle.rmp_serde.specs.Readable.{spaces}
use Rattle.rmp_serde.proofs.OpenReadables.{spaces_push}
use Rattle.rmp_serde.proofs.value.text.readable.write_spaces.Goals as goal

pub loop-list-preserved : goal.loop-list-preserved
loop-list-preserved g c = λ plain.
    let so_far = c.loop-list.invariant plain in
    let put = c.in_ok-write_str.ensures.writes so_far.plain refl in
    has_written_of_eq _ _ _ _ _ (spaces_push c.loop-list._list ∙ ap spaces (sym (add-one c.loop-list._list)))
    (has_written_append _ _ _ _ _ _ so_far put)
