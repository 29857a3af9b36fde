use Rattle.rmp_decode.proofs.Laws.{lawful_ok, lawful_err}
use Rattle.std.proofs.Common.{rules}
use Rattle.std.proofs.lemmas.Int.{to_z-of_z}
use Rattle.std.specs.Int.{w16, w128}
use Rattle.test_wide.proofs.manifest.derived.ManifestDeserialize.deserialize.Goals as goal

pub returns-in-Ok-clause-law : goal.returns-in-Ok-clause-law
returns-in-Ok-clause-law g c = rw (to_z-of_z w128 c.in-Ok.parts.rest.rest.1 (search rules))
    (rw (to_z-of_z w16 c.in-Ok.parts.rest.rest.0 (search rules)) (lawful_ok _ _ _ _ _ _ _ (λ m r. r) c.in-Ok.ensures.law))

pub returns-in-Err-clause-law : goal.returns-in-Err-clause-law
returns-in-Err-clause-law g c = lawful_err _ _ _ _ _ _
    (λ m r. (
      record {
        first = r.0.ship;
        second = r.0.course;
        third = r.0.crew;
        fourth = r.0.seal;
        fifth = r.0.nothing;
        sixth = r.0.flag;
        seventh = r.0.spot;
        eighth = r.0.cargo;
        rest = record {
          first = r.0.depths;
          second = r.0.last;
          third = r.0.chart;
          fourth = r.0.pair;
          fifth = r.0.owner;
          sixth = r.0.tonnage;
          seventh = r.0.draught;
          eighth = r.0.ports;
          rest = (r.0.heading, r.0.debt, r.0.berths, r.0.done, tt);
        };
      },
      r.1,
    )) c.in-Err.ensures.law

pub returns-in-Err-clause-refused : goal.returns-in-Err-clause-refused
returns-in-Err-clause-refused g c = c.in-Err.ensures.refused
