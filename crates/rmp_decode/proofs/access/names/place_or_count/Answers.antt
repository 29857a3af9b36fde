use Rattle.std.proofs.Common.{◌∙◌, arith, length}
use Rattle.rmp_decode.proofs.NamesAhead.{below_named, below_unnamed, place_within}
use Rattle.rmp_decode.proofs.access.names.place_or_count.Goals as goal

pub returns-in-Some-clause-place : goal.returns-in-Some-clause-place
returns-in-Some-clause-place c = below_named (length c.args.names.now) c.in-Some.place
    (place_within c.args.names.now c.args.key.now c.in-Some.place c.in-Some.ensures)
    ∙ c.in-Some.ensures

pub returns-in-None-clause-place : goal.returns-in-None-clause-place
returns-in-None-clause-place c = below_unnamed (length c.args.names.now) _ (omega arith) ∙ c.in-None.ensures

pub returns-in-Some-clause-within : goal.returns-in-Some-clause-within
returns-in-Some-clause-within c = let l = place_within c.args.names.now c.args.key.now c.in-Some.place c.in-Some.ensures in omega arith
