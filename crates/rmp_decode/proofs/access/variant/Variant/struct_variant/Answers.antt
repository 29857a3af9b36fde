use Rattle.std.proofs.Common.{refl, rules}
use Rattle.rmp_decode.proofs.ContentOpenings.{none_is, fields_open_in, no_fields_alone, no_fields_content}
use Rattle.rmp_decode.proofs.access.variant.Variant.struct_variant.Goals as goal

pub returns-then-bare : goal.returns-then-bare
returns-then-bare g c = (
  (refl, λ _. tt, no_fields_alone g.R.Source c.args.self c.if-bare.true),
  record
      { refused = tt; same_reference = tt; paired = tt; opened = tt; memory = search rules },
)

pub returns-in-Ok : goal.returns-in-Ok
returns-in-Ok g c =
    let i = rw c.unwrap_or-bytes.ensures at c.inner_room.ensures in (
      (refl, λ w. refl, tt),
      record {
        refused = tt;
        same_reference = refl;
        paired = c.if-bare.false;
        opened = rw (none_is _ _ c.is_none.ensures, c.unwrap_or-bytes.ensures)
            (fields_open_in g.R.Source c.args.self.de.now c.open_struct.new.self c.args.self.inner c.args.self.de c.args.names _ _ c.requires.few
            c.in-Ok.kind i.bytes i.list c.in-Ok.ensures);
        memory = tt;
      },
    )

pub returns-in-Err : goal.returns-in-Err
returns-in-Err g c =
    let f = c.in-Err.ensures.err in (
      (refl, λ _. tt, no_fields_content g.R.Source c.args.self c.open_struct.new.self c.in-Err.e _ c.if-bare.false f),
      record { refused = tt; same_reference = tt; paired = tt; opened = tt; memory = f.memory },
    )
