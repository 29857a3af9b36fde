use Rattle.rmp_decode.proofs.access.fields.eight.EightThenFields.finish.Goals as goal

pub returns-in-None-clause-all : goal.returns-in-None-clause-all
returns-in-None-clause-all g c = λ human lends fs h v. c.in-None.ensures.all human lends fs h
    (v.first, v.second, v.third, v.fourth, (v.fifth, v.sixth, v.seventh, v.eighth, v.rest))

pub returns-in-None-clause-first : goal.returns-in-None-clause-first
returns-in-None-clause-first g c = c.in-None.ensures.first
