use Rattle.std.proofs.Common.{rules, refl}
use Rattle.rmp_wire.proofs.slice.read_reader.ReadReaderReadSlice.read_slice.Goals as goal

pub returns-in-Ok : goal.returns-in-Ok
returns-in-Ok g c = (
  (refl, (λ _. tt), ((search rules, search rules), search rules, search rules)),
  record {
    after = tt;
    count = search rules;
    bytes = search rules;
    kind = refl;
    memory = search rules;
  },
)
