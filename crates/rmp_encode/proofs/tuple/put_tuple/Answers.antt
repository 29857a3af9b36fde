use Rattle.rmp_encode.specs.Ser.{settings_of}
use Rattle.rmp_encode.specs.Trees.{forces_all}
use Rattle.rmp_encode.proofs.Going.{on_ok}
use Rattle.rmp_encode.proofs.TupleSteps.{as_tree}
use Rattle.rmp_encode.proofs.Parts.{part_or, part_takes, or_second}
use Rattle.rmp_encode.proofs.Refusals.{on_number}
use Rattle.rmp_encode.proofs.tuple.put_tuple.Goals as goal

pub returns-then-packs_tuple : goal.returns-then-packs_tuple
returns-then-packs_tuple g c =
    let w = c.put_packed.ensures in
    record {
      writes = as_tree g.W.Sink (c.packs_tuple.ensures.packed c.if-packs_tuple.true) (part_or g.W.Sink _ w.writes);
      keeps = w.keeps;
      error = on_number g.T.Serialize.refuses c.args.values.now c.put_packed.result w.error;
      value = on_ok _ (c.packs_tuple.ensures.values c.if-packs_tuple.true);
      long = w.long;
    }

pub returns : goal.returns
returns g c =
    let w = c.put_list.ensures in
    record {
      writes = as_tree g.W.Sink (c.packs_tuple.ensures.listed c.if-packs_tuple.false)
          (part_takes g.W.Sink _ (or_second (forces_all (settings_of c.args.se.now).bytes) (g.T.Serialize.takes_memory (settings_of c.args.se.now))
          g.W.Sink.takes_memory) w.writes);
      keeps = w.keeps;
      error = w.error;
      value = w.value;
      long = w.long;
    }
