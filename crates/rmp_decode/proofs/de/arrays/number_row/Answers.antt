use Rattle.std.proofs.Common.{refl, rules}
use Rattle.rmp_decode.proofs.Arrays.{array_full, array_done, array_over, array_wanted, array_stopped, array_unfit}
use Rattle.rmp_decode.proofs.de.arrays.number_row.Goals as goal

pub returns-then-not-places_fit : goal.returns-then-not-places_fit
returns-then-not-places_fit g c = λ d o. array_unfit g.T.Deserialize.reads g.T.Deserialize.refuses g.row.N o (c.if-not-places_fit.ensures.unfit refl)
    c.requires.failed

pub returns-in-Err : goal.returns-in-Err
returns-in-Err g c = λ d o. let w = rw c.in-Err.is at c.numbers_taken_out-read.ensures in array_stopped _ g.row.N o w

pub returns-then-count : goal.returns-then-count
returns-then-count g c = λ d o.
    let r = rw c.in-Ok.is at c.numbers_taken_out-read.ensures in
    rw c.refuse.ensures.failed (array_wanted r _ g.T.Deserialize.refuses o c.if-count.true _ (search rules))

pub returns-then-left-gt0 : goal.returns-then-left-gt0
returns-then-left-gt0 g c = λ d o.
    let r = rw c.in-Ok.is at c.numbers_taken_out-read.ensures in
    rw c.refuse-then-left-gt0.ensures.failed (array_over r _ g.T.Deserialize.refuses o c.if-count.false c.if-left-gt0.true _ (search rules))

pub values_of-requires : goal.values_of-requires
values_of-requires g c =
    let r = rw c.in-Ok.is at c.numbers_taken_out-read.ensures in
    (search rules, (search rules, array_full r c.if-count.false c.if-left-gt0.false))

pub returns-else-left-gt0 : goal.returns-else-left-gt0
returns-else-left-gt0 g c = λ d o.
    let r = rw c.in-Ok.is at c.numbers_taken_out-read.ensures in
    array_done r _ g.T.Deserialize.refuses o c.if-count.false c.if-left-gt0.false _ c.values_of.ensures

pub array_drop-places-requires : goal.array_drop-places-requires
array_drop-places-requires g c = c.if-not-places_fit.ensures.fit refl

pub array_drop-places-requires-then-left-gt0 : goal.array_drop-places-requires-then-left-gt0
array_drop-places-requires-then-left-gt0 g c = c.if-not-places_fit.ensures.fit refl
