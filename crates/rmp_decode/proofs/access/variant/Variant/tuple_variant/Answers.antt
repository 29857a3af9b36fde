use Rattle.std.proofs.Common.{refl, rules}
use Rattle.rmp_decode.proofs.ContentOpenings.{seq_opens_in, no_seq_alone, no_seq_content}
use Rattle.rmp_decode.proofs.access.variant.Variant.tuple_variant.Goals as goal

pub returns-then-bare : goal.returns-then-bare
returns-then-bare g c = (
  (refl, λ _. tt, no_seq_alone g.R.Source c.args.self c.if-bare.true),
  record
      { refused = tt; same_reference = tt; paired = tt; opened = tt; memory = search rules },
)

pub returns-in-Ok : goal.returns-in-Ok
returns-in-Ok g c =
    let i = c.inner_room.ensures in (
      (refl, λ w. refl, tt),
      record {
        refused = tt;
        same_reference = refl;
        paired = c.if-bare.false;
        opened = seq_opens_in g.R.Source c.args.self.de.now c.open_tuple.new.self _ c.args.self.de _ _ _ i.bytes i.list c.in-Ok.ensures;
        memory = tt;
      },
    )

pub returns-in-Err : goal.returns-in-Err
returns-in-Err g c =
    let f = c.in-Err.ensures.err in (
      (refl, λ _. tt, no_seq_content g.R.Source c.args.self c.open_tuple.new.self c.in-Err.e _ c.if-bare.false f),
      record { refused = tt; same_reference = tt; paired = tt; opened = tt; memory = f.memory },
    )
