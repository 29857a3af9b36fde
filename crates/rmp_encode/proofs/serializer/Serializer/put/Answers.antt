use Rattle.std.proofs.Common.{refl}
use Rattle.rmp_encode.proofs.Leaves.{piece_ok, piece_err, past_marker}
use Rattle.rmp_encode.proofs.Refusals.{of_wire}
use Rattle.rmp_encode.proofs.serializer.Serializer.put.Goals as goal

pub returns-in-Ok : goal.returns-in-Ok
returns-in-Ok g c = record {
  writes = piece_ok g.W.Sink _ _ c.in-Ok.ensures.writes;
  marker = tt;
  error = tt;
  keeps = record { settings = refl; place = c.put_all.ensures.place };
}

pub returns-in-Err : goal.returns-in-Err
returns-in-Err g c = rw (c.from.ensures, c.past_first.ensures) (record {
  writes = piece_err g.W.Sink _ _ c.in-Err.ensures.writes;
  marker = past_marker _;
  error = of_wire _;
  keeps = record { settings = refl; place = c.put_all.ensures.place };
})
