use Rattle.std.proofs.Common.{◌∙◌, ◌*◌, ap, arith}
use Rattle.std.proofs.lemmas.Bool.{ltb-true, ltb-false}
use Rattle.rmp_decode.proofs.Arrays.{places_small, places_large}
use Rattle.rmp_decode.proofs.de.arrays.places_fit.Goals as goal

pub returns-in-Some-clause-fit : goal.returns-in-Some-clause-fit
returns-in-Some-clause-fit g c = λ e.
    places_small g.row.N _ c.in-Some.size (c.in-Some.ensures.1 ∙ ap (λ z. z * g.row.N) c.size_of_val.ensures) (ltb-true _ _ e)

pub returns-in-Some-clause-unfit : goal.returns-in-Some-clause-unfit
returns-in-Some-clause-unfit g c = λ e.
    places_large g.row.N _ (let l = ltb-false _ _ e in omega (arith, l, c.in-Some.ensures.1, ap (λ z. z * g.row.N) c.size_of_val.ensures))

pub returns-clause-unfit : goal.returns-clause-unfit
returns-clause-unfit g c = λ _.
    places_large g.row.N _ (let l = c.in-None.ensures in omega (arith, l, ap (λ z. z * g.row.N) c.size_of_val.ensures))
