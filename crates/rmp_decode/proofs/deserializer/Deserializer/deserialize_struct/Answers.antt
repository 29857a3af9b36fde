-- The access that is made after the head opens the fields.
use Rattle.std.proofs.Common.{refl}
use Rattle.rmp_decode.proofs.ContentOpenings.{none_is, opens_fields}
use Rattle.rmp_decode.proofs.deserializer.Deserializer.deserialize_struct.Goals as goal

pub returns-in-Ok : goal.returns-in-Ok
returns-in-Ok g c =
    let i = rw c.unwrap_or-bytes.ensures at c.inner_room.ensures in (
      (refl, λ w. refl, tt),
      (
        refl,
        rw (none_is _ _ c.is_none.ensures, c.unwrap_or-bytes.ensures)
            (opens_fields g.R.Source c.args.self.now _ c.args.names _ _ c.requires.few c.in-Ok.kind i.bytes i.list c.in-Ok.ensures),
      ),
    )

pub returns-in-Err : goal.returns-in-Err
returns-in-Err g c = ((refl, λ _. tt, c.in-Err.ensures.err), (tt, tt))
