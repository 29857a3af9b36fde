use Rattle.rmp_decode.proofs.access.fields.wide.Tuple5Fields.finish.Goals as goal

pub returns-in-None-clause-all : goal.returns-in-None-clause-all
returns-in-None-clause-all g c = λ human lends fs h v. c.in-None.ensures.all human lends fs h (v.0, (v.1, (v.2, (v.3, v.4))))

pub returns-in-None-clause-first : goal.returns-in-None-clause-first
returns-in-None-clause-first g c = c.in-None.ensures.first
