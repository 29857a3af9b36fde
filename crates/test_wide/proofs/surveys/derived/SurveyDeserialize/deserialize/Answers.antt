use Rattle.rmp_decode.proofs.Laws.{lawful_ok, lawful_err}
use Rattle.std.proofs.Common.{rules}
use Rattle.std.proofs.lemmas.Int.{to_z-of_z}
use Rattle.std.specs.Int.{w16, w128}
use Rattle.test_wide.proofs.surveys.derived.SurveyDeserialize.deserialize.Goals as goal

pub returns-in-Ok-clause-law : goal.returns-in-Ok-clause-law
returns-in-Ok-clause-law g c = rw (to_z-of_z w128 c.in-Ok.parts.rest.second (search rules))
    (rw (to_z-of_z w16 c.in-Ok.parts.rest.first (search rules)) (lawful_ok _ _ _ _ _ _ _ (λ m r. r) c.in-Ok.ensures.law))

pub returns-in-Err-clause-law : goal.returns-in-Err-clause-law
returns-in-Err-clause-law g c = lawful_err _ _ _ _ _ _
    (λ m r. (
      record {
        first = r.0.ship;
        second = r.0.course;
        third = r.0.crew;
        fourth = r.0.seal;
        fifth = r.0.nothing;
        sixth = r.0.flag;
        seventh = r.0.spot;
        eighth = r.0.cargo;
        ninth = r.0.depths;
        tenth = r.0.last;
        eleventh = r.0.chart;
        twelfth = r.0.pair;
        thirteenth = r.0.owner;
        fourteenth = r.0.tonnage;
        fifteenth = r.0.draught;
        sixteenth = r.0.ports;
        rest = record {
          first = r.0.heading;
          second = r.0.debt;
          third = r.0.berths;
          fourth = r.0.done;
          fifth = r.0.next;
          sixth = r.0.marks;
          seventh = r.0.length;
          eighth = r.0.beam;
          ninth = r.0.stores;
          tenth = r.0.sounding;
          eleventh = r.0.hatches;
          twelfth = r.0.legs;
          thirteenth = r.0.port;
          fourteenth = r.0.log;
          fifteenth = r.0.crane;
          sixteenth = r.0.surveyor;
          rest = tt;
        };
      },
      r.1,
    )) c.in-Err.ensures.law

pub returns-in-Err-clause-refused : goal.returns-in-Err-clause-refused
returns-in-Err-clause-refused g c = c.in-Err.ensures.refused
