use Rattle.rmp_decode.proofs.access.fields.sixteen.SixteenThenFields.finish.Goals as goal

pub returns-in-None-clause-all : goal.returns-in-None-clause-all
returns-in-None-clause-all g c = λ human lends fs h v. c.in-None.ensures.all human lends fs h
    (record {
      first = v.first;
      second = v.second;
      third = v.third;
      fourth = v.fourth;
      fifth = v.fifth;
      sixth = v.sixth;
      seventh = v.seventh;
      eighth = v.eighth;
      rest = record {
        first = v.ninth;
        second = v.tenth;
        third = v.eleventh;
        fourth = v.twelfth;
        fifth = v.thirteenth;
        sixth = v.fourteenth;
        seventh = v.fifteenth;
        eighth = v.sixteenth;
        rest = v.rest;
      };
    })

pub returns-in-None-clause-first : goal.returns-in-None-clause-first
returns-in-None-clause-first g c = c.in-None.ensures.first
